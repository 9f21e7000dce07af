-- What each end of a queue knows, and how its calls change that.
use Rattle.std.specs.Prelude.{◌≡◌, ℕ, ◌+◌, ◌-◌, ◌≤◌, Bool, true, false, nat_lt, [], ◌∷◌, ◌++◌, length, if◌then◌else◌}
use mathlib.Core.List.{IsPrefix}
use Rattle.batch_queue.specs.declared.view.SendView.{SendView}
use Rattle.batch_queue.specs.declared.view.TakeView.{TakeView}

-- The sender.

-- nothing sent, nothing known
abbrev pub new_sender : SendView
new_sender = record { sent = []; dropped = []; published = 0; known_released = 0; closed = false; known_gone = false; knew_gone = false; looks = 0 }

-- how many words were sent and not published
abbrev pub unpublished : SendView → ℕ
unpublished x = length x.sent - x.published

-- how many more words a ring of `cap` places has room for, by what is known
abbrev pub free_places : ℕ → SendView → ℕ
free_places cap x = x.known_released + cap - length x.sent

-- as many words as the ring has places are sent and not known to be released
abbrev pub IsFull : ℕ → SendView → Type 0
IsFull cap x = length x.sent - x.known_released ≡ cap

-- one word more is sent
abbrev pub pushed : SendView → ℕ → SendView
pushed x word = record x { sent = x.sent ++ word ∷ [] }

-- all that was sent is published
abbrev pub published_all : SendView → SendView
published_all x = record x { published = length x.sent }

-- all is published once `batch` words are not, and before that it stays as it is
abbrev pub published_at : ℕ → SendView → SendView
published_at batch x = record x { published = if nat_lt (unpublished x) batch then x.published else length x.sent }

-- all is published, with the mark that no word follows; it is kept whether the receiver was known to be gone
abbrev pub closed_now : SendView → SendView
closed_now x = record x { published = length x.sent; closed = true; knew_gone = x.known_gone }

-- a load of the head has found this; it counts as a look at the receiver
abbrev pub saw_head : SendView → ℕ → Bool → SendView
saw_head x released gone = record x { known_released = released; known_gone = gone; looks = x.looks + 1 }

-- the receiver has released no fewer places than before, and no more than were published; and once gone it stays gone
pub record HeadGrows (x : SendView) (released : ℕ) (gone : Bool) : Type 0 where
  pub no_fewer : x.known_released ≤ released
  pub no_more : released ≤ x.published
  pub stays_gone : x.known_gone ≡ true → gone ≡ true

-- one word more is dropped
abbrev pub discarded : SendView → ℕ → SendView
discarded x word = record x { dropped = x.dropped ++ word ∷ [] }

-- The receiver.

-- nothing received, nothing known
abbrev pub new_receiver : TakeView
new_receiver = record { received = []; released = 0; known_published = 0; gone = false; known_closed = false; knew_closed = false; looks = 0 }

-- how many places were taken from and not released
abbrev pub unreleased : TakeView → ℕ
unreleased y = length y.received - y.released

-- all that is known to be published is received
abbrev pub IsEmpty : TakeView → Type 0
IsEmpty y = length y.received ≡ y.known_published

-- one word more is received
abbrev pub took : TakeView → ℕ → TakeView
took y word = record y { received = y.received ++ word ∷ [] }

-- all places that were taken from are released
abbrev pub released_all : TakeView → TakeView
released_all y = record y { released = length y.received }

-- all is released once `batch` places are not, and before that it stays as it is
abbrev pub released_at : ℕ → TakeView → TakeView
released_at batch y = record y { released = if nat_lt (unreleased y) batch then y.released else length y.received }

-- all is released, with the mark that no word is taken any more; it is kept whether the sender was known to have closed
abbrev pub gone_now : TakeView → TakeView
gone_now y = record y { released = length y.received; gone = true; knew_closed = y.known_closed }

-- a load of the tail has found this; it counts as a look at the sender
abbrev pub saw_tail : TakeView → ℕ → Bool → TakeView
saw_tail y published closed = record y { known_published = published; known_closed = closed; looks = y.looks + 1 }

-- the sender has published no fewer words than before; and once closed it stays closed and publishes no more
pub record TailGrows (y : TakeView) (published : ℕ) (closed : Bool) : Type 0 where
  pub no_fewer : y.known_published ≤ published
  pub stays_closed : y.known_closed ≡ true → closed ≡ true
  pub all_published : y.known_closed ≡ true → published ≡ y.known_published

-- Both ends.

-- how the parts of the two ends of one queue fit together
pub record Agree (x : SendView) (y : TakeView) : Type 0 where
  -- what was received is what was sent first, in order
  pub in_order : IsPrefix y.received x.sent
  -- a receiver that knows the sender to have closed, and received all that it knows to be published, received all
  pub whole : y.known_closed ≡ true → IsEmpty y → y.received ≡ x.sent
  -- what an end knows of the other's mark is so
  pub closed : y.known_closed ≡ true → x.closed ≡ true
  pub gone : x.known_gone ≡ true → y.gone ≡ true
  -- a receiver that knew, when it went, that the sender had closed: the sender did so without knowing it to be gone, and dropped nothing
  pub closed_first : y.knew_closed ≡ true → (x.closed ≡ true) × (x.knew_gone ≡ false) × (x.dropped ≡ [])
  -- words are dropped only where the receiver is known to be gone
  pub dropped_late : x.known_gone ≡ false → x.dropped ≡ []
