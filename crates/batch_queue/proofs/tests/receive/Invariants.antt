use Rattle.std.proofs.Common.{◌≡◌, false}
use Rattle.batch_queue.specs.Ends.{taking, takes_from}
use Rattle.batch_queue.proofs.tests.receive.Given as goal

abbrev pub invariant-loop-value : goal.invariant-loop-value
invariant-loop-value g l = ((taking l.receiver).gone ≡ false) × (takes_from l.receiver ≡ takes_from l.initial.receiver)
