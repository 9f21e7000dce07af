use Rattle.std.proofs.Common.{◌≡◌, ◌≤◌, false, length}
use Rattle.batch_queue.specs.Ends.{sending}
use Rattle.queue_speed.proofs.batches.push.Given as goal

abbrev pub invariant-loop : goal.invariant-loop
invariant-loop g l = ((sending l.sender).closed ≡ false) × (length (sending l.sender).sent ≤ l.fn.position)
