use Rattle.std.proofs.Common.{◌≡◌, ◌+◌, drop}
use Rattle.c_lexer.specs.Scan.{number_len}
use Rattle.c_lexer.proofs.number.number_len.Given as goal

abbrev pub invariant-loop-len : goal.invariant-loop-len
invariant-loop-len l = l.len + number_len l.last (drop l.len l.bytes) ≡ number_len l.initial.last l.bytes
