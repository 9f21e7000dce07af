-- What a link was made with, and what a call of it gives.
use Rattle.std.specs.Prelude.{ℕ, Bool, List, [], ◌∷◌}
use Rattle.atomic_table.specs.Seated.{TableId}
use Rattle.machine.specs.declared.link_call.Taken.{Taken}
use Rattle.machine.specs.declared.link_call.Taken.TheVariants.{Word, NotYet, Closed}

-- the queue that an end sends to and the one that it takes from, or what the link of one step was given
pub data Origin : Type 0 where
  Queues : (to from : TableId) → Origin
  Given : (give : Taken) (spare : ℕ) (gone : Bool) → Origin

-- what the end at the other side of the two queues was made with
abbrev pub turned : Origin → Origin
turned (Queues to from) = Queues from to
turned (Given give spare gone) = Given give spare gone

-- the word that a call has taken
abbrev pub word_taken : Taken → List ℕ
word_taken (Word word) = word ∷ []
word_taken NotYet = []
word_taken Closed = []
