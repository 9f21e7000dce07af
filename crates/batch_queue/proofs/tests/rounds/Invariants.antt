use Rattle.std.proofs.Common.{◌≡◌, ◌*◌, ◌≤◌, false, length}
use Rattle.batch_queue.specs.Ends.{sending, taking, sends_to, takes_from}
use Rattle.batch_queue.proofs.tests.rounds.Given as goal

abbrev pub invariant-loop-round : goal.invariant-loop-round
invariant-loop-round g l = ((sending l.sender).closed ≡ false) × (length (sending l.sender).sent ≤ 8 * l.round) × (sends_to l.sender ≡ sends_to l.initial.sender) × ((taking l.receiver).gone ≡ false) × (takes_from l.receiver ≡ takes_from l.initial.receiver)
