use Rattle.std.proofs.Common.{◌≡◌, ◌≤◌, length}
use Rattle.c_lexer.specs.Scan.{past_gap}
use Rattle.c_lexer.proofs.space.past_gap.Given as goal

abbrev pub invariant-loop-bytes : goal.invariant-loop-bytes
invariant-loop-bytes l = (past_gap l.bytes ≡ past_gap l.initial.bytes) × (length l.bytes ≤ length l.initial.bytes)

abbrev pub decreases-loop-bytes : goal.decreases-loop-bytes
decreases-loop-bytes l = length l.bytes
