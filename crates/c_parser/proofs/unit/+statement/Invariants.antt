use Rattle.std.proofs.Common.{◌+◌, ◌*◌}
use Rattle.c_parser.proofs.unit.+statement.Given as goal

abbrev pub decreases-statement_at : goal.decreases-statement_at
decreases-statement_at l = 2 * l.left

abbrev pub decreases-new : goal.decreases-new
decreases-new l = 2 * l.below + 1
