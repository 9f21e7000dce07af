use Rattle.std.proofs.Common.{rules}
use Rattle.batch_queue.proofs.Stepping.{loads_tail}
use Rattle.batch_queue.proofs.receiver.Receiver.look.Goals as goal

pub load-tail-requires : goal.load-tail-requires
load-tail-requires g c = (search rules, search rules, loads_tail _ _ _ _ c.args.self.now.seated.0)
