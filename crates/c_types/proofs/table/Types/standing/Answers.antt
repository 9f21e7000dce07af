use Rattle.std.proofs.Common.{subst}
use Rattle.c_types.specs.Table.{Stands}
use Rattle.c_types.proofs.Grown.{Stands-below}
use Rattle.c_types.proofs.table.Types.standing.Goals as goal

pub returns : goal.returns
returns c = subst (Stands c.args.self.now c.known.result) c.known.ensures.same (Stands-below c.args.self.now c.known.result c.known.ensures.below)
