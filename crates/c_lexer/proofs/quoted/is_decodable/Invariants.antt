use Rattle.std.proofs.Common.{◌≡◌, ◌<◌, ◌^◌, length, is_some}
use Rattle.c_lexer.specs.Tokens.{decoded}
use Rattle.c_lexer.proofs.quoted.is_decodable.Given as goal

abbrev pub invariant-loop-body : goal.invariant-loop-body
invariant-loop-body l = (is_some (decoded l.body) ≡ is_some (decoded l.initial.body)) × (length l.body < 2 ^ 32)

abbrev pub decreases-loop-body : goal.decreases-loop-body
decreases-loop-body l = length l.body
