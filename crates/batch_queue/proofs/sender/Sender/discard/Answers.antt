use Rattle.std.proofs.Common.{rules}
use Rattle.batch_queue.proofs.Stepping.{drops_word}
use Rattle.batch_queue.proofs.sender.Sender.discard.Goals as goal

pub compare_exchange-requires : goal.compare_exchange-requires
compare_exchange-requires g c = (search rules, search rules, drops_word _ _ _ _ _ c.args.self.now.seated.0 c.requires.gone c.requires.still_open)
