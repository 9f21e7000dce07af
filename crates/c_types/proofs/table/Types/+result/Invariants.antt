use Rattle.std.proofs.Common.{length}
use Rattle.c_types.specs.Types.{parameters_of}
use Rattle.c_types.specs.Table.{type_at}
use Rattle.c_types.proofs.table.Types.+result.Given as goal

-- one for each parameter
abbrev pub decreases-result : goal.decreases-result
decreases-result l = length (parameters_of (type_at l.self.now l.of))
