-- The kinds of atomic steps, and what each tells the end that makes it.
use Rattle.std.specs.Prelude.{◌≡◌, ℕ, ◌/◌, ◌%◌, ◌==◌, true, false}
use Rattle.atomic_table.specs.Table.{Me, Step}
use Rattle.srmt_base.specs.Word.{IsWord}
use Rattle.batch_queue.specs.Views.{new_sender, pushed, published_all, closed_now, saw_head, HeadGrows, discarded, new_receiver, took, released_all, gone_now, saw_tail, TailGrows, Agree}
use Rattle.batch_queue.specs.declared.view.SendView.{SendView}
use Rattle.batch_queue.specs.declared.view.TakeView.{TakeView}
use Rattle.batch_queue.specs.declared.view.View.{View}

-- a seat: its view, and the slots that it holds, of which a queue's table has none
abbrev pub Sat : Type 0
Sat = Me (Unit {0}) View

-- the sender's part of the seat becomes x, and nothing else changes
abbrev pub SendsAs : Sat → SendView → Sat → Type 0
SendsAs m x m' = (m'.0 ≡ record m.0 { sends = x }) × (m'.1 ≡ m.1)

-- the receiver's part becomes y, and nothing else changes
abbrev pub TakesAs : Sat → TakeView → Sat → Type 0
TakesAs m y m' = (m'.0 ≡ record m.0 { takes = y }) × (m'.1 ≡ m.1)

-- Each of the following is over the step, the seat before, the number that was found or stored, and the seat after.

-- the sender stores a word in a place of the ring
abbrev pub stored_slot : Step (Unit {0}) → Sat → ℕ → Sat → Type 0
stored_slot step before found after = SendsAs before (pushed before.0.sends step.first) after

-- the sender stores the tail
abbrev pub stored_tail : Step (Unit {0}) → Sat → ℕ → Sat → Type 0
stored_tail step before found after = SendsAs before (published_all before.0.sends) after

-- the sender stores the tail with the closed bit
abbrev pub stored_last_tail : Step (Unit {0}) → Sat → ℕ → Sat → Type 0
stored_last_tail step before found after = SendsAs before (closed_now before.0.sends) after

-- the sender loads the head: what it then knows is what it found there
abbrev pub loaded_head : Step (Unit {0}) → Sat → ℕ → Sat → Type 0
loaded_head step before found after =
    SendsAs before (saw_head before.0.sends (found / 2) (found % 2 == 1)) after × HeadGrows before.0.sends (found / 2) (found % 2 == 1)

-- the sender drops a word, by a step that changes no word of the table: the tail is compared with the word and replaced by it
abbrev pub dropped_word : Step (Unit {0}) → Sat → ℕ → Sat → Type 0
dropped_word step before found after = SendsAs before (discarded before.0.sends step.first) after

-- the receiver loads a word from a place of the ring
abbrev pub loaded_slot : Step (Unit {0}) → Sat → ℕ → Sat → Type 0
loaded_slot step before found after = TakesAs before (took before.0.takes found) after × IsWord found

-- the receiver stores the head
abbrev pub stored_head : Step (Unit {0}) → Sat → ℕ → Sat → Type 0
stored_head step before found after = TakesAs before (released_all before.0.takes) after

-- the receiver stores the head with the gone bit
abbrev pub stored_last_head : Step (Unit {0}) → Sat → ℕ → Sat → Type 0
stored_last_head step before found after = TakesAs before (gone_now before.0.takes) after

-- the receiver loads the tail: what it then knows is what it found there
abbrev pub loaded_tail : Step (Unit {0}) → Sat → ℕ → Sat → Type 0
loaded_tail step before found after =
    TakesAs before (saw_tail before.0.takes (found / 2) (found % 2 == 1)) after × TailGrows before.0.takes (found / 2) (found % 2 == 1)

-- a seat that has both parts loads a word, and learns how they fit together
abbrev pub settled : Step (Unit {0}) → Sat → ℕ → Sat → Type 0
settled step before found after = (after ≡ before) × Agree before.0.sends before.0.takes

-- The first seat is split: it keeps the sender's part, and a new seat has the receiver's. The part that a seat lacks is as new, and nobody looks at it.

abbrev pub sender_part : View → View
sender_part v = record { sends = v.sends; takes = new_receiver; is_sender = true; is_receiver = false }

abbrev pub receiver_part : View → View
receiver_part v = record { sends = new_sender; takes = v.takes; is_sender = false; is_receiver = true }

-- The two seats are joined: the sender's has both parts, and the other none.

abbrev pub joined : View → View → View
joined v w = record { sends = v.sends; takes = w.takes; is_sender = true; is_receiver = true }

abbrev pub spent_part : View
spent_part = record { sends = new_sender; takes = new_receiver; is_sender = false; is_receiver = false }
