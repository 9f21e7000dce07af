use Rattle.std.proofs.Common.{◌≡◌, ◌≤◌, false, length}
use Rattle.batch_queue.specs.Ends.{sending}
use Rattle.queue_speed.proofs.batches.send.Given as goal

abbrev pub invariant-loop-value : goal.invariant-loop-value
invariant-loop-value g l = ((sending l.sender).closed ≡ false) × (length (sending l.sender).sent ≤ l.value)
