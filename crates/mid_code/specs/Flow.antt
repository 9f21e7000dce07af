-- Which places of a function are reached, and which objects are open there.
--
-- Objects open and close as brackets do: whatever way leads to a place, the same objects are open at it. They
-- are named by the places of their `Open`s, the newest first. One pass over the places in order finds them.
use Rattle.std.specs.Prelude.{ℕ, zero, suc, ◌+◌, ◌==◌, nat_lt, Bool, true, false, not, ◌&&◌, ◌||◌, if◌then◌else◌, List, [], ◌∷◌, length, Option, Some, None, slice_get}
use Rattle.std.specs.List.{list_any}
use Rattle.mid_code.specs.declared.mid.Mid.{Mid}
use Rattle.mid_code.specs.Ways.{Way, Next, Counts, Begins, Ends, Jumps, Branches, Returns, Stops, way_of}
use Rattle.mid_code.specs.declared.program.MidLine.{MidLine}

-- the places that the instruction at a place enters
abbrev pub way_goes : ℕ → Way → List ℕ
way_goes place Next = (place + 1) ∷ []
way_goes place Counts = (place + 1) ∷ []
way_goes place Begins = (place + 1) ∷ []
way_goes place (Ends begun) = (place + 1) ∷ []
way_goes place (Jumps target) = target ∷ []
way_goes place (Branches target) = (place + 1) ∷ target ∷ []
way_goes place Returns = []
way_goes place Stops = []

abbrev pub goes_to : ℕ → Mid → List ℕ
goes_to place mid = way_goes place (way_of mid)

-- the open objects without the one begun at a place, where it is the newest
abbrev pub without : ℕ → List ℕ → List ℕ
without place [] = []
without place (newest ∷ rest) = if newest == place then rest else newest ∷ rest

-- the open objects behind the instruction at a place, by those that it finds
abbrev pub way_opened : ℕ → Way → List ℕ → List ℕ
way_opened place Next found = found
way_opened place Counts found = found
way_opened place Begins found = place ∷ found
way_opened place (Ends begun) found = without begun found
way_opened place (Jumps target) found = found
way_opened place (Branches target) found = found
way_opened place Returns found = found
way_opened place Stops found = found

abbrev pub open_behind : ℕ → Mid → List ℕ → List ℕ
open_behind place mid found = way_opened place (way_of mid) found

abbrev pub is_target : ℕ → Mid → ℕ → Bool
is_target place mid target = list_any (λ next. next == target) (goes_to place mid)

-- the open objects with which the instruction at a place enters a target: none where it does not enter it, or
-- is not reached itself, as where nothing is found
abbrev pub open_into : ℕ → ℕ → Option (List ℕ) → Option MidLine → Option (List ℕ)
open_into target place (Some found) (Some l) = if is_target place l.mid target then Some (open_behind place l.mid found) else None
open_into target place _ _ = None

abbrev pub or_else : Option (List ℕ) → Option (List ℕ) → Option (List ℕ)
or_else (Some first) second = Some first
or_else None second = second

-- the open objects with which a target is entered: at the start, or else by the least of the first so many
-- places that is reached and enters it. What is found at a place is that with which the places before it enter it
unfoldable pub entered_by : List MidLine → ℕ → ℕ → Option (List ℕ)
entered_by code zero target = if target == 0 then Some [] else None
entered_by code (suc place) target = or_else (entered_by code place target) (open_into target place (entered_by code place place) (slice_get code place))

-- the open objects of a place, if it is reached
abbrev pub found_at : List MidLine → ℕ → Option (List ℕ)
found_at code place = entered_by code place place

abbrev pub same_places : List ℕ → List ℕ → Bool
same_places [] [] = true
same_places (a ∷ xs) (b ∷ ys) = a == b && same_places xs ys
same_places _ _ = false

-- whether a place is not reached, or has other open objects than these
abbrev pub has_others : Option (List ℕ) → List ℕ → Bool
has_others None left = true
has_others (Some found) left = not (same_places found left)

-- whether the newest open object is another than the one begun at a place
abbrev pub is_not_newest : ℕ → List ℕ → Bool
is_not_newest place [] = true
is_not_newest place (newest ∷ rest) = not (newest == place)

abbrev pub has_open : List ℕ → Bool
has_open [] = false
has_open (newest ∷ rest) = true

-- a `Close` must name the newest, and a `Return` leave none open
abbrev pub way_closes_wrongly : Way → List ℕ → Bool
way_closes_wrongly Next found = false
way_closes_wrongly Counts found = false
way_closes_wrongly Begins found = false
way_closes_wrongly (Ends begun) found = is_not_newest begun found
way_closes_wrongly (Jumps target) found = false
way_closes_wrongly (Branches target) found = false
way_closes_wrongly Returns found = has_open found
way_closes_wrongly Stops found = false

abbrev pub closes_wrongly : Mid → List ℕ → Bool
closes_wrongly mid found = way_closes_wrongly (way_of mid) found

-- whether the instruction at a place enters a place of the code with other open objects than are found there
abbrev pub enters_wrongly : List MidLine → ℕ → Mid → List ℕ → Bool
enters_wrongly code place mid found =
    list_any (λ target. nat_lt target (length code) && has_others (found_at code target) (open_behind place mid found)) (goes_to place mid)

-- whether the instruction at a place that is reached breaks the order of open objects
abbrev pub breaks_order_by : List MidLine → ℕ → Mid → Option (List ℕ) → Bool
breaks_order_by code place mid None = false
breaks_order_by code place mid (Some found) = closes_wrongly mid found || enters_wrongly code place mid found

unfoldable pub breaks_order : List MidLine → ℕ → Mid → Bool
breaks_order code place mid = breaks_order_by code place mid (found_at code place)
