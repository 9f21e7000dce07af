use Rattle.std.proofs.Common.{rules, ◌≡◌, ℕ, ◌+◌, ◌%◌, ◌<◌, sym, ap, ◌∙◌, arith, length}
use Rattle.batch_queue.proofs.Stepping.{stores_slot}
use Rattle.batch_queue.proofs.sender.Sender.store_slot.Goals as goal

pub store-requires : goal.store-requires
store-requires g c = let self = c.args.self.now in
    let key : ℕ = c.deref.result.now.shared.key in
    let key_is : key ≡ g.row.CAP = ap (λ t. t.shared.key) c.deref.ensures ∙ self.at_table.1 in
    let room : length self.seat.me.0.sends.sent < self.seat.me.0.sends.known_released + key = omega (arith, key_is, c.requires.room) in
    (search rules, search rules, stores_slot key _ _ _ _ _ self.seated.0 c.requires.still_open c.requires.a_word room (λ i. 2 + self.counted.0 i % sym key_is i))
