use Rattle.std.proofs.Common.{◌≡◌, drop}
use Rattle.c_lexer.specs.Scan.{comment_end}
use Rattle.c_lexer.proofs.space.comment_end.Given as goal

abbrev pub invariant-loop-at : goal.invariant-loop-at
invariant-loop-at l = comment_end l.at (drop l.at l.bytes) ≡ comment_end 2 (drop 2 l.bytes)
