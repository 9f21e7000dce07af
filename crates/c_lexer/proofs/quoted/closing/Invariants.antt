use Rattle.std.proofs.Common.{◌≡◌, drop, false}
use Rattle.c_lexer.specs.Scan.{closing}
use Rattle.c_lexer.proofs.quoted.closing.Given as goal

abbrev pub invariant-loop-at : goal.invariant-loop-at
invariant-loop-at l = closing l.quote l.is_escaped l.at (drop l.at l.bytes) ≡ closing l.quote false 0 l.bytes
