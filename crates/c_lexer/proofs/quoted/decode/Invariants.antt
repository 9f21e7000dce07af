use Rattle.std.proofs.Common.{◌≡◌, ◌<◌, ◌^◌, ◌++◌, length, option_map}
use Rattle.c_lexer.specs.Tokens.{decoded}
use Rattle.c_lexer.proofs.quoted.decode.Given as goal

abbrev pub invariant-loop-body : goal.invariant-loop-body
invariant-loop-body l = (option_map (λ others. l.bytes.items ++ others) (decoded l.body) ≡ decoded l.initial.body) × (length l.body < 2 ^ 32)

abbrev pub decreases-loop-body : goal.decreases-loop-body
decreases-loop-body l = length l.body
