use Rattle.std.proofs.Common.{◌≡◌, ◌+◌, ◌≤◌, length}
use Rattle.c_lexer.proofs.Sources.{GoesOn, FailsOn}
use Rattle.c_lexer.proofs.lexer.tokens.Given as goal

abbrev pub invariant-loop-rest : goal.invariant-loop-rest
invariant-loop-rest l = record {
  goes_on : GoesOn l.src l.kept.items l.place.is_first l.place.at l.place.line l.rest;
  fails_on : FailsOn l.src l.place.is_first l.place.at l.rest;
  at : l.place.at + length l.rest ≡ length l.src;
  line : l.place.line + length l.rest ≤ length l.src + 1;
}

abbrev pub decreases-loop-rest : goal.decreases-loop-rest
decreases-loop-rest l = length l.rest
