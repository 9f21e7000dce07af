use Rattle.std.proofs.Common.{◌≡◌, length}
use Rattle.c_expr.specs.Codes as codes
use Rattle.c_expr.proofs.tokens.meaning.Given as goal

abbrev pub invariant-loop-left : goal.invariant-loop-left
invariant-loop-left g l = codes.meaning l.left l.kind ≡ codes.meaning l.table l.kind

abbrev pub decreases-loop-left : goal.decreases-loop-left
decreases-loop-left g l = length l.left
