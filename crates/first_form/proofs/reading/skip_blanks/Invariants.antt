use Rattle.std.proofs.Common.{◌≡◌, ◌+◌, ◌≤◌, length}
use Rattle.first_form.specs.Reading.{after_blanks}
use Rattle.first_form.proofs.reading.skip_blanks.Given as goal

abbrev pub invariant-loop-bytes : goal.invariant-loop-bytes
invariant-loop-bytes l =
    (after_blanks l.line l.bytes ≡ after_blanks l.fn.at.line l.fn.at.bytes.now)
    × (l.line + length l.bytes ≤ l.fn.at.line + length l.fn.at.bytes.now)

abbrev pub decreases-loop-bytes : goal.decreases-loop-bytes
decreases-loop-bytes l = length l.bytes
