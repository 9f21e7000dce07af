-- What a link shows of itself, and how its calls change that.
use Rattle.std.specs.Prelude.{◌≡◌, ℕ, ◌+◌, ◌<◌, ◌≤◌, ◌⊎◌, Bool, true, false, List, [], ◌++◌, length}
use Rattle.srmt_outside.specs.Count.{next_count}
use Rattle.machine.specs.declared.link_call.LastCall.{LastCall}
use Rattle.machine.specs.declared.link_call.LastCall.TheVariants.{Nothing, Room, Take}
use Rattle.machine.specs.Origin.{Origin, word_taken}

pub record Shown : Type 0 where
  -- what it was made with
  pub made : Origin
  -- the words that go to the other side, and how many were dropped since it was gone
  pub sent : List ℕ
  pub dropped : ℕ
  -- the words that were taken from it
  pub taken : List ℕ
  -- for how many more words it has room
  pub spare : ℕ
  -- whether the other side is known to take no word any more
  pub gone : Bool
  -- how many calls of `room` and `take` there were, up to 2^64 - 1, and the latest of them
  pub asks : ℕ
  pub last : LastCall

-- so many words have room, or the other side is gone
abbrev pub HasRoom : ℕ → Shown → Type 0
HasRoom words link = (words ≤ link.spare) ⊎ (link.gone ≡ true)

-- fewer words than this were sent, kept or dropped
abbrev pub SentBelow : ℕ → Shown → Type 0
SentBelow bound link = length link.sent + link.dropped < bound

-- the words that go to the other side once these were sent: a side that is gone gets none
abbrev pub kept : Bool → List ℕ → List ℕ → List ℕ
kept true sent words = sent
kept false sent words = sent ++ words

-- how many were dropped once so many more were sent
abbrev pub dropped_more : Bool → ℕ → ℕ → ℕ
dropped_more true dropped count = dropped + count
dropped_more false dropped count = dropped

-- the words that a call took
abbrev pub taken_by_call : LastCall → List ℕ
taken_by_call Nothing = []
taken_by_call (Room words granted) = []
taken_by_call (Take answer) = word_taken answer

-- the link was asked this, with this answer; it may have learned that the other side is gone, or of more room
pub record IsAsked (call : LastCall) (before after : Shown) : Type 0 where
  pub made : after.made ≡ before.made
  pub sent : after.sent ≡ before.sent
  pub dropped : after.dropped ≡ before.dropped
  pub taken : after.taken ≡ before.taken ++ taken_by_call call
  pub stays_gone : before.gone ≡ true → after.gone ≡ true
  pub asks : after.asks ≡ next_count before.asks
  pub last : after.last ≡ call

-- these words were sent, in order: all are kept, or the other side is known to be gone and all are dropped
pub record IsSent (words : List ℕ) (before after : Shown) : Type 0 where
  pub made : after.made ≡ before.made
  pub sent : after.sent ≡ kept before.gone before.sent words
  pub dropped : after.dropped ≡ dropped_more before.gone before.dropped (length words)
  pub taken : after.taken ≡ before.taken
  pub spare : before.spare ≤ after.spare + length words
  pub gone : after.gone ≡ before.gone
  pub asks : after.asks ≡ before.asks
  pub last : after.last ≡ before.last

-- the same link, later
pub record IsLater (before after : Shown) : Type 0 where
  pub made : after.made ≡ before.made
  pub stays_gone : before.gone ≡ true → after.gone ≡ true
