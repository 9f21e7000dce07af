use Rattle.c_types.proofs.Sizes.{bytes-few}
use Rattle.c_types.proofs.table.Types.array_of.Goals as goal

pub times-requires : goal.times-requires
times-requires c = rw c.size.ensures (bytes-few _)
