use Rattle.std.proofs.Common.{◌≡◌, length}
use Rattle.c_expr.specs.Codes as codes
use Rattle.c_expr.proofs.tokens.one_of.Given as goal

abbrev pub invariant-loop-left : goal.invariant-loop-left
invariant-loop-left l = codes.one_of l.left l.kind ≡ codes.one_of l.kinds l.kind

abbrev pub decreases-loop-left : goal.decreases-loop-left
decreases-loop-left l = length l.left
