use Rattle.std.proofs.Common.{◌+◌, ◌*◌}
use Rattle.c_expr.proofs.hub.+hub.Given as goal

abbrev pub decreases-expr_at : goal.decreases-expr_at
decreases-expr_at l = 2 * l.depth

abbrev pub decreases-declarator_at : goal.decreases-declarator_at
decreases-declarator_at l = 2 * l.depth

abbrev pub decreases-expr_at-new+arg4 : goal.decreases-expr_at-new+arg4
decreases-expr_at-new+arg4 l = 2 * l.below + 1

abbrev pub decreases-expr_at-new+arg5 : goal.decreases-expr_at-new+arg5
decreases-expr_at-new+arg5 l = 2 * l.below + 1

abbrev pub decreases-declarator_at-new+arg4 : goal.decreases-declarator_at-new+arg4
decreases-declarator_at-new+arg4 l = 2 * l.below + 1

abbrev pub decreases-declarator_at-new+arg5 : goal.decreases-declarator_at-new+arg5
decreases-declarator_at-new+arg5 l = 2 * l.below + 1
