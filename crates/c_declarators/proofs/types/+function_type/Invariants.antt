use Rattle.std.proofs.Common.{length}
use Rattle.c_declarators.proofs.types.+function_type.Given as goal

abbrev pub decreases-function_type : goal.decreases-function_type
decreases-function_type l = length l.ps.now
