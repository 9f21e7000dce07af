use Rattle.std.proofs.Common.{◌≡◌, false}
use Rattle.batch_queue.specs.Ends.{taking}
use Rattle.queue_speed.proofs.batches.receive.Given as goal

abbrev pub invariant-loop-value : goal.invariant-loop-value
invariant-loop-value g l = ((taking l.receiver).gone ≡ false)
