-- What clauses see of the two ends.
use Rattle.std.specs.Prelude.{ℕ}
use Rattle.atomic_table.specs.Seated.{TableId}
use Rattle.batch_queue.specs.declared.view.SendView.{SendView}
use Rattle.batch_queue.specs.declared.view.TakeView.{TakeView}
use Rattle.batch_queue.specs.declared.sender.Sender.{Sender}
use Rattle.batch_queue.specs.declared.receiver.Receiver.{Receiver}

-- what the sender knows
abbrev pub sending : {cap batch : ℕ} → Sender cap batch → SendView
sending s = s.seat.me.0.sends

-- what the receiver knows
abbrev pub taking : {cap batch : ℕ} → Receiver cap batch → TakeView
taking r = r.seat.me.0.takes

-- which call of `new` made an end
abbrev pub sends_to : {cap batch : ℕ} → Sender cap batch → TableId
sends_to s = s.seat.table_id

abbrev pub takes_from : {cap batch : ℕ} → Receiver cap batch → TableId
takes_from r = r.seat.table_id
