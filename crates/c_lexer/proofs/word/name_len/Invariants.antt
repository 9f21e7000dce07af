use Rattle.std.proofs.Common.{◌≡◌, ◌+◌, ◌-◌, ◌≤◌, length, drop}
use Rattle.std.specs.List.{prefix_len}
use Rattle.c_lexer.specs.Tokens.{continues_name}
use Rattle.c_lexer.proofs.word.name_len.Given as goal

abbrev pub invariant-loop-len : goal.invariant-loop-len
invariant-loop-len l = (l.len + prefix_len continues_name (drop l.len l.bytes) ≡ prefix_len continues_name l.bytes) × (l.len ≤ length l.bytes)

abbrev pub decreases-loop-len : goal.decreases-loop-len
decreases-loop-len l = length l.bytes - l.len
