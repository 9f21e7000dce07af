use Rattle.std.proofs.Common.{rules}
use Rattle.batch_queue.proofs.Stepping.{loads_head}
use Rattle.batch_queue.proofs.sender.Sender.look.Goals as goal

pub load-head-requires : goal.load-head-requires
load-head-requires g c = (search rules, search rules, loads_head _ _ _ _ c.args.self.now.seated.0)
