use Rattle.std.proofs.Common.{◌≡◌, false}
use Rattle.batch_queue.specs.Ends.{taking, takes_from}
use Rattle.batch_queue.proofs.tests.take_waiting.Given as goal

abbrev pub invariant-loop : goal.invariant-loop
invariant-loop g l = ((taking l.receiver).gone ≡ false) × (takes_from l.receiver ≡ takes_from l.initial.receiver)
