use Rattle.std.proofs.Common.{◌≡◌, false}
use Rattle.batch_queue.specs.Ends.{taking}
use Rattle.queue_speed.proofs.batches.take.Given as goal

abbrev pub invariant-loop : goal.invariant-loop
invariant-loop g l = ((taking l.receiver).gone ≡ false)
