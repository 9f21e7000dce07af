use Rattle.std.proofs.Common.{◌≡◌, ◌≤◌, false, length}
use Rattle.batch_queue.specs.Ends.{sending, sends_to}
use Rattle.batch_queue.proofs.tests.push_waiting.Given as goal

abbrev pub invariant-loop : goal.invariant-loop
invariant-loop g l = ((sending l.sender).closed ≡ false) × (length (sending l.sender).sent ≤ l.fn.value) × (sends_to l.sender ≡ sends_to l.initial.sender)
