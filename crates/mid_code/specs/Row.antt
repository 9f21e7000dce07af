-- The row of numbers in which a pass over a function keeps the open objects of each place.
--
-- The newest open object of a place is enough: those below it are the ones that were found where it began.
use Rattle.std.specs.Prelude.{◌≡◌, ℕ, ◌+◌, ◌<◌, ◌≤◌, ◌==◌, nat_lt, Bool, false, not, ◌&&◌, if◌then◌else◌, List, [], ◌∷◌, length, Option, Some, None, slice_index, slice_set}
use Rattle.mid_code.specs.declared.program.MidLine.{MidLine}
use Rattle.mid_code.specs.Ways.{Way, Next, Counts, Begins, Ends, Jumps, Branches, Returns, Stops}
use Rattle.mid_code.specs.Flow.{entered_by, found_at}

-- 0 of a place that is not reached, 1 where none is open, and else the place of the newest, from 2
abbrev pub number_of : Option (List ℕ) → ℕ
number_of None = 0
number_of (Some []) = 1
number_of (Some (newest ∷ rest)) = newest + 2

-- what the row holds when the pass has gone over so many places: those behind are settled, and those ahead are
-- known as far as they were entered
pub record Holds (row : List ℕ) (code : List MidLine) (count : ℕ) : Type 0 where
  pub behind : (place : ℕ) → place < count → place < length code → slice_index row place ≡ number_of (found_at code place)
  pub ahead : (place : ℕ) → count ≤ place → place < length code → slice_index row place ≡ number_of (entered_by code count place)

-- the number behind an instruction, and whether it closes wrongly, by the number that it finds
abbrev pub number_behind : List ℕ → ℕ → Way → ℕ → ℕ
number_behind row place Next here = here
number_behind row place Counts here = here
number_behind row place Begins here = place + 2
number_behind row place (Ends begun) here = slice_index row begun
number_behind row place (Jumps target) here = here
number_behind row place (Branches target) here = here
number_behind row place Returns here = here
number_behind row place Stops here = here

abbrev pub number_closes_wrongly : Way → ℕ → Bool
number_closes_wrongly Next here = false
number_closes_wrongly Counts here = false
number_closes_wrongly Begins here = false
number_closes_wrongly (Ends begun) here = not (here == begun + 2)
number_closes_wrongly (Jumps target) here = false
number_closes_wrongly (Branches target) here = false
number_closes_wrongly Returns here = not (here == 1)
number_closes_wrongly Stops here = false

-- the row after an entry of a target, and after entries of several
abbrev pub row_entered : ℕ → ℕ → ℕ → ℕ → List ℕ → List ℕ
row_entered limit place left target row =
    if nat_lt place target && nat_lt target limit && slice_index row target == 0 then slice_set row target left else row

abbrev pub row_after : ℕ → ℕ → ℕ → List ℕ → List ℕ → List ℕ
row_after limit place left [] row = row
row_after limit place left (target ∷ targets) row = row_after limit place left targets (row_entered limit place left target row)

-- whether a target of the code has another number
abbrev pub has_other_number : ℕ → ℕ → List ℕ → ℕ → Bool
has_other_number limit left row target = nat_lt target limit && not (slice_index row target == left)
