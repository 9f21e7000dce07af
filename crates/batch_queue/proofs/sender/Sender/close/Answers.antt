use Rattle.std.proofs.Common.{rules, ℕ, ◌+◌, ◌*◌, ap}
use Rattle.batch_queue.proofs.Stepping.{stores_last_tail}
use Rattle.batch_queue.proofs.sender.Sender.close.Goals as goal

pub store-requires : goal.store-requires
store-requires g c = let self = c.args.self.now in
    (search rules, search rules, stores_last_tail _ _ _ _ _ self.seated.0 c.requires (ap (λ (k : ℕ). 2 * k + 1) self.counted.0))
