-- The object store: what memory is to a program, and what an access to it gives.
--
-- Memory is a list of objects. An object begins as a row of zeros and lives until it is ended (C11 6.2.4p2),
-- and it stands in the list exactly as long as it lives: to an access, an object that has ended and one that
-- never began are the same. Numbers only rise, so a pointer to an object that has ended never reaches another.
use Rattle.std.specs.Prelude.{ℕ, ◌+◌, ◌*◌, ◌/◌, ◌%◌, ◌==◌, nat_lt, nat_le, Bool, true, false, not, ◌&&◌, ◌||◌, if◌then◌else◌, List, [], ◌∷◌, ◌++◌, length, map, filter, find, sum_by, replicate, slice_index, slice_set, Option, Some, None, is_some, Result, Ok, Err}
use Rattle.srmt_base.specs.declared.trap.Trap.{Trap}
use Rattle.srmt_base.specs.declared.trap.Trap.TheVariants.{NullPointer, OutsideObject, DeadObject, ReadOnly, Store}

-- an object: its number, its cells, and whether it may only be read, as a string literal or a `const` object (C11 6.4.5p7, 6.7.3p6)
pub record Object : Type 0 where
  pub number : ℕ
  pub cells : List ℕ
  pub read_only : Bool

-- one part of memory: how many cells may live at once, the least number that a new object may have, and the objects that live, in order of beginning
pub record Objects : Type 0 where
  pub budget : ℕ
  pub fresh : ℕ
  pub live : List Object

-- a pointer is the number of its object times 65,536, and an offset
abbrev pub pointer_to : ℕ → ℕ → ℕ
pointer_to number offset = number * 65536 + offset

-- its two parts
abbrev pub object_part : ℕ → ℕ
object_part pointer = pointer / 65536

abbrev pub offset_part : ℕ → ℕ
offset_part pointer = pointer % 65536

-- the object of a number, if it lives
abbrev pub live_at : Objects → ℕ → Option Object
live_at s number = find (λ object. object.number == number) s.live

abbrev pub is_live : Objects → ℕ → Bool
is_live s number = is_some (live_at s number)

-- how many cells live
abbrev pub live_cells : Objects → ℕ
live_cells s = sum_by (λ object. length object.cells) s.live

-- the four tests of an access, in their order: the pointer is not null, its object lives, its offset is within the object,
-- and an object that may only be read is not written; `Ok` has the object
abbrev pub access_in : Bool → Option Object → ℕ → Result Object Trap
access_in writes None offset = Err DeadObject
access_in writes (Some object) offset =
    if nat_le (length object.cells) offset then Err OutsideObject else (if writes && object.read_only then Err ReadOnly else Ok object)

abbrev pub access_of : Bool → Objects → ℕ → Result Object Trap
access_of writes s pointer =
    if object_part pointer == 0 then Err NullPointer else access_in writes (live_at s (object_part pointer)) (offset_part pointer)

-- what follows an access that passes its tests
abbrev pub if_passed : {A : Type 0} → (Object → A) → Result Object Trap → Result A Trap
if_passed f (Ok object) = Ok (f object)
if_passed f (Err trap) = Err trap

-- an object with another value in a cell, where it is the object of the pointer
abbrev pub written_in : ℕ → ℕ → Object → Object
written_in pointer value object =
    record object { cells = if object.number == object_part pointer then slice_set object.cells (offset_part pointer) value else object.cells }

-- the objects after a write
abbrev pub written : Objects → ℕ → ℕ → Objects
written s pointer value = record s { live = map (written_in pointer value) s.live }

-- reading gives the cell
abbrev pub load_of : Objects → ℕ → Result ℕ Trap
load_of s pointer = if_passed (λ object. slice_index object.cells (offset_part pointer)) (access_of false s pointer)

-- writing
abbrev pub put_of : Objects → ℕ → ℕ → Result Objects Trap
put_of s pointer value = if_passed (λ _. written s pointer value) (access_of true s pointer)

-- giving an object its starting contents: writing, also where the object may only be read
abbrev pub set_up_of : Objects → ℕ → ℕ → Result Objects Trap
set_up_of s pointer value = if_passed (λ _. written s pointer value) (access_of false s pointer)

-- memory at the start: no object, and numbers from `first` on
abbrev pub start_of : ℕ → ℕ → Objects
start_of budget first = record { budget = budget; fresh = first; live = [] }

-- the objects with a new one of zeros behind them
abbrev pub begun : Objects → ℕ → ℕ → Bool → Objects
begun s number cells read_only =
    record s {
      fresh = number + 1;
      live = s.live ++ record { number = number; cells = replicate cells 0; read_only = read_only } ∷ [];
    }

-- beginning an object: the budget trap `Store` where its number is below the first or not above each number added before,
-- or where more cells than the budget would live
abbrev pub add_of : Objects → ℕ → ℕ → Bool → Result Objects Trap
add_of s number cells read_only =
    if nat_lt number s.fresh || nat_lt s.budget (live_cells s + cells) then Err Store else Ok (begun s number cells read_only)

-- ending an object; where none of the number lives nothing changes
abbrev pub end_of : Objects → ℕ → Objects
end_of s number = record s { live = filter (λ object. not (object.number == number)) s.live }
