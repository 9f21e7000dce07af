use Rattle.std.proofs.Common.{sym, subst}
use Rattle.c_types.specs.Types.{result_of}
use Rattle.c_types.specs.Table.{Stands}
use Rattle.c_types.proofs.Grown.{Stands-below}
use Rattle.c_types.proofs.table.Types.+result.Goals as goal

pub returns-in-Returning : goal.returns-in-Returning
returns-in-Returning t c =
    subst (λ u. Stands c.args.self.now c.in-Returning.value.target (result_of u)) (sym c.in-Returning.ensures.made)
    (Stands-below c.args.self.now c.in-Returning.value.target c.in-Returning.ensures.below)
