-- How the calls of an end change what its sender and its receiver know.
use Rattle.std.specs.Prelude.{◌≡◌, ℕ, ◌<◌, Bool, true, false}
use Rattle.batch_queue.specs.Views.{free_places, pushed, published_at, discarded, IsEmpty, took, released_at}
use Rattle.batch_queue.specs.declared.view.SendView.{SendView}
use Rattle.batch_queue.specs.declared.view.TakeView.{TakeView}
use Rattle.machine.specs.declared.link_call.Taken.{Taken}
use Rattle.machine.specs.declared.link_call.Taken.TheVariants.{Word, NotYet, Closed}

-- all that is known to be published is taken, and the other side is not known to have closed: only then `take` looks at the other side
abbrev pub MustLookToTake : TakeView → Type 0
MustLookToTake y = IsEmpty y × (y.known_closed ≡ false)

-- too few places are free by what is known, and the other side is not known to be gone: only then `room` looks at the other side
abbrev pub MustLookForRoom : ℕ → ℕ → SendView → Type 0
MustLookForRoom cap words x = (free_places cap x < words) × (x.known_gone ≡ false)

-- the answer is taken: a word leaves the queue, and the other answers change nothing
abbrev pub given : ℕ → Taken → TakeView → TakeView
given batch (Word word) y = released_at batch (took y word)
given batch NotYet y = y
given batch Closed y = y

-- a word is sent: dropped where the other side is known to be gone, and else put into the queue
abbrev pub sent_with : ℕ → Bool → ℕ → SendView → SendView
sent_with batch true word x = discarded x word
sent_with batch false word x = published_at batch (pushed x word)
