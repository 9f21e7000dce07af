use Rattle.std.proofs.Common.{sym, subst, refl}
use Rattle.c_types.specs.Types.{target_of}
use Rattle.c_types.specs.Table.{StandsFor}
use Rattle.c_types.proofs.Grown.{Stands-below}
use Rattle.c_types.proofs.table.Types.target.Goals as goal

pub returns-in-Pointer : goal.returns-in-Pointer
returns-in-Pointer c =
    subst (λ t. StandsFor c.args.self.now c.in-Pointer.target (target_of t)) (sym c.in-Pointer.ensures.made)
    (record { qualifiers = refl; type = Stands-below c.args.self.now c.in-Pointer.target.target c.in-Pointer.ensures.below })
