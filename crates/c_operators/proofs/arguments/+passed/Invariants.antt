use Rattle.std.proofs.Common.{length}
use Rattle.c_operators.proofs.arguments.+passed.Given as goal

abbrev pub decreases-passed : goal.decreases-passed
decreases-passed l = length l.arguments
