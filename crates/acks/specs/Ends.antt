-- What clauses see of an end, and of what is left of it once it is closed.
use Rattle.std.specs.Prelude.{◌≡◌, ℕ, length}
use Rattle.batch_queue.specs.Views.{free_places, new_sender, new_receiver}
use Rattle.batch_queue.specs.Ends.{sending, taking, sends_to, takes_from}
use Rattle.batch_queue.specs.declared.view.SendView.{SendView}
use Rattle.batch_queue.specs.declared.view.TakeView.{TakeView}
use Rattle.machine.specs.Origin.{Origin, Queues}
use Rattle.machine.specs.Link.{Shown}
use Rattle.machine.specs.declared.link_call.LastCall.{LastCall}
use Rattle.machine.specs.declared.link_call.LastCall.TheVariants.{Nothing}
use Rattle.acks.specs.declared.side_ends.SideEnds.{SideEnds}
use Rattle.acks.specs.declared.side_done.SideDone.{SideDone}

-- what its sender knows
abbrev pub sends : {out out_batch back back_batch : ℕ} → SideEnds out out_batch back back_batch → SendView
sends e = sending e.sender

-- what its receiver knows
abbrev pub takes : {out out_batch back back_batch : ℕ} → SideEnds out out_batch back back_batch → TakeView
takes e = taking e.receiver

-- its two queues
abbrev pub made_of : {out out_batch back back_batch : ℕ} → SideEnds out out_batch back back_batch → Origin
made_of e = Queues (sends_to e.sender) (takes_from e.receiver)

-- how many calls of `room` and `take` there were, and the latest of them
abbrev pub asks_of : {out out_batch back back_batch : ℕ} → SideEnds out out_batch back back_batch → ℕ
asks_of e = e.asks

abbrev pub last_of : {out out_batch back back_batch : ℕ} → SideEnds out out_batch back back_batch → LastCall
last_of e = e.last

-- what it shows as a link: what its sender and its receiver know
abbrev pub shown_of : {out out_batch back back_batch : ℕ} → SideEnds out out_batch back back_batch → Shown
shown_of {out} e = record {
  made = made_of e;
  sent = (sends e).sent;
  dropped = length (sends e).dropped;
  taken = (takes e).received;
  spare = free_places out (sends e);
  gone = (sends e).known_gone;
  asks = asks_of e;
  last = last_of e;
}

-- nothing sent, taken, known or asked
pub record IsNew {out out_batch back back_batch : ℕ} (e : SideEnds out out_batch back back_batch) : Type 0 where
  pub sender : sends e ≡ new_sender
  pub receiver : takes e ≡ new_receiver
  pub asks : asks_of e ≡ 0
  pub last : last_of e ≡ Nothing

-- Of a closed end: what its sender and its receiver knew when they closed, and its two queues.
abbrev pub done_sends : {out out_batch back back_batch : ℕ} → SideDone out out_batch back back_batch → SendView
done_sends d = sending d.sender

abbrev pub done_takes : {out out_batch back back_batch : ℕ} → SideDone out out_batch back back_batch → TakeView
done_takes d = taking d.receiver

abbrev pub done_made : {out out_batch back back_batch : ℕ} → SideDone out out_batch back back_batch → Origin
done_made d = Queues (sends_to d.sender) (takes_from d.receiver)
