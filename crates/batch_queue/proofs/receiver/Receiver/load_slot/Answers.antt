use Rattle.std.proofs.Common.{rules, ◌≡◌, ℕ, ◌+◌, ◌%◌, sym, ap, ◌∙◌}
use Rattle.batch_queue.proofs.Stepping.{loads_slot}
use Rattle.batch_queue.proofs.receiver.Receiver.load_slot.Goals as goal

pub load-bits-requires : goal.load-bits-requires
load-bits-requires g c = let self = c.args.self.now in
    let key : ℕ = c.deref.result.now.shared.key in
    let key_is : key ≡ g.row.CAP = ap (λ t. t.shared.key) c.deref.ensures ∙ self.at_table.1 in
    (search rules, search rules, loads_slot key _ _ _ _ self.seated.0 c.requires (λ i. 2 + self.counted.0 i % sym key_is i))
