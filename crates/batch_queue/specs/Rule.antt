-- The rule of a queue: what holds of its words and of what its two ends know, between any two atomic steps.
-- Word 0 is the tail, word 1 the head, and the `cap` words that follow are the ring.
use Rattle.std.specs.Prelude.{◌≡◌, ℕ, ◌+◌, ◌*◌, ◌%◌, ◌<◌, ◌≤◌, Bool, true, false, List, [], length, slice_index, All}
use mathlib.Core.List.{IsPrefix}
use mathlib.Core.Option.{some}
use lib.ListN.{get_elem?}
use Rattle.atomic_table.specs.Table.{State}
use Rattle.srmt_base.specs.Word.{IsWord}
use Rattle.batch_queue.specs.Views.{new_sender, new_receiver}
use Rattle.batch_queue.specs.declared.view.SendView.{SendView}
use Rattle.batch_queue.specs.declared.view.TakeView.{TakeView}
use Rattle.batch_queue.specs.declared.view.View.{View}

-- a mark as a bit
abbrev pub bit_of : Bool → ℕ
bit_of false = 0
bit_of true = 1

-- an index word: twice a count, and a mark in its lowest bit
abbrev pub index_word : ℕ → Bool → ℕ
index_word count mark = 2 * count + bit_of mark

-- the word of the ring at which the word of this position stands
abbrev pub place : ℕ → ℕ → ℕ
place cap position = 2 + position % cap

-- what an end knows of the other lags behind it, and what was sent and is not known to be released fits into the ring
pub record Order (cap : ℕ) (x : SendView) (y : TakeView) : Type 0 where
  pub released_known : x.known_released ≤ y.released
  pub received_released : y.released ≤ length y.received
  pub published_received : length y.received ≤ y.known_published
  pub published_known : y.known_published ≤ x.published
  pub sent_published : x.published ≤ length x.sent
  pub sent_fits : length x.sent ≤ x.known_released + cap

-- the marks of the two ends: what is known of a mark is so, and the closed bit comes with the last word
pub record Closing (x : SendView) (y : TakeView) : Type 0 where
  pub closed_publishes : x.closed ≡ true → x.published ≡ length x.sent
  pub closed_known : y.known_closed ≡ true → (x.closed ≡ true) × (y.known_published ≡ x.published)
  pub gone_known : x.known_gone ≡ true → y.gone ≡ true

-- what an end knew of the other's mark when it set its own; not both knew
pub record Knowledge (x : SendView) (y : TakeView) : Type 0 where
  pub sender_knew : x.knew_gone ≡ true → (x.closed ≡ true) × (y.gone ≡ true)
  pub receiver_knew : y.knew_closed ≡ true → (y.gone ≡ true) × (y.known_closed ≡ true) × (x.knew_gone ≡ false)

-- words are dropped only while the receiver is known to be gone and the sender has not closed
pub record Dropping (x : SendView) : Type 0 where
  pub none_before_gone : x.known_gone ≡ false → x.dropped ≡ []
  pub none_after_closing : x.closed ≡ true → x.knew_gone ≡ false → x.dropped ≡ []

-- the words of the table, what the sender knows (x) and what the receiver knows (y)
pub record Holds (cap : ℕ) (words : List ℕ) (x : SendView) (y : TakeView) : Type 0 where
  -- the tail has what is published and the closed bit, the head what is released and the gone bit
  pub index_words : (slice_index words 0 ≡ index_word x.published x.closed) × (slice_index words 1 ≡ index_word y.released y.gone)
  pub order : Order cap x y
  -- what was sent and is not released stands in the ring
  pub ring : (k : ℕ) → y.released ≤ k → k < length x.sent → slice_index words (place cap k) ≡ slice_index x.sent k
  -- what was received is what was sent first, in order
  pub prefix : IsPrefix y.received x.sent
  pub closing : Closing x y
  pub knowledge : Knowledge x y
  pub dropping : Dropping x
  -- each number that was sent is a word
  pub every_word : All IsWord x.sent

-- the seat `j` has the sender's part only if it is the seat `sender`, and the receiver's only if it is the seat `taker`
abbrev pub Knows : ℕ → ℕ → SendView → TakeView → ℕ → View → Type 0
Knows sender taker x y j v = (v.is_sender ≡ true → (j ≡ sender) × (v.sends ≡ x)) × (v.is_receiver ≡ true → (j ≡ taker) × (v.takes ≡ y))

-- the rule as the table keeps it: one seat at most sends, one at most receives, and `Holds` is true of what they know
pub record Ruled (cap : ℕ) (s : State (Unit {0}) View) : Type 0 where
  pub sender : ℕ
  pub taker : ℕ
  pub sends : SendView
  pub takes : TakeView
  pub some_places : 1 ≤ cap
  pub wide : length s.words ≡ cap + 2
  pub seats : (j : ℕ) (v : View) → get_elem? s.views j ≡ some v → Knows sender taker sends takes j v
  pub holds : Holds cap s.words sends takes

-- before the two ends part, one seat is both
abbrev pub both_ends : View
both_ends = record { sends = new_sender; takes = new_receiver; is_sender = true; is_receiver = true }
