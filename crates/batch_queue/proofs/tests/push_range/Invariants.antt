use Rattle.std.proofs.Common.{◌≡◌, ◌≤◌, false, length}
use Rattle.batch_queue.specs.Ends.{sending, sends_to}
use Rattle.batch_queue.proofs.tests.push_range.Given as goal

abbrev pub invariant-loop-value : goal.invariant-loop-value
invariant-loop-value g l = ((sending l.sender).closed ≡ false) × (length (sending l.sender).sent ≤ l.value) × (sends_to l.sender ≡ sends_to l.initial.sender)
