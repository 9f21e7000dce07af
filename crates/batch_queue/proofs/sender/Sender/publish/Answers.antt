use Rattle.std.proofs.Common.{rules, ℕ, ◌*◌, ap}
use Rattle.batch_queue.proofs.Stepping.{stores_tail}
use Rattle.batch_queue.proofs.sender.Sender.publish.Goals as goal

pub store-requires : goal.store-requires
store-requires g c = let self = c.args.self.now in
    (search rules, search rules, stores_tail _ _ _ _ _ self.seated.0 c.requires (ap (λ (k : ℕ). 2 * k) self.counted.0))
