use Rattle.std.proofs.Common.{◌≡◌, ◌^◌, min, take}
use Rattle.c_lexer.specs.Tokens.{value_in}
use Rattle.c_lexer.proofs.number.value_in.Given as goal

abbrev pub invariant-loop-b : goal.invariant-loop-b
invariant-loop-b l = l.value ≡ min (value_in l.base (take l.b-index l.digits)) (2 ^ 32)
