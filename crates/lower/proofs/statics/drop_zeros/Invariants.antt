use Rattle.std.proofs.Common.{◌≡◌, length}
use Rattle.lower.specs.Programs.{without_zeros}
use Rattle.lower.proofs.statics.drop_zeros.Given as goal

abbrev pub invariant-loop-values : goal.invariant-loop-values
invariant-loop-values l = without_zeros l.values.items ≡ without_zeros l.fn.values.items

abbrev pub decreases-loop-values : goal.decreases-loop-values
decreases-loop-values l = length l.values.items
