use Rattle.std.proofs.Common.{rules}
use Rattle.batch_queue.proofs.Parting.{joins, settles}
use Rattle.batch_queue.proofs.queue.rejoin.Goals as goal

pub join_seat-requires : goal.join_seat-requires
join_seat-requires g c = (search rules, search rules, search rules, search rules, joins _ _ _ _ _ (search rules) (search rules))

pub load-requires : goal.load-requires
load-requires g c = (search rules, search rules, settles _ _ _ _ (search rules) (search rules))
