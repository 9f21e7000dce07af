-- The plain store: the list of objects itself.
use Rattle.std.specs.Prelude.{◌≡◌, ℕ, ◌+◌, ◌<◌, ◌≤◌, Bool, List, [], ◌∷◌, length, map, slice_index_or, slice_set, Option, Some, Ok}
use Rattle.srmt_base.specs.Objects.{Object, Objects, object_part, offset_part, live_at, live_cells, access_of}
pub use Rattle.cell_store.specs.declared.plain.PlainObject.{PlainObject}

abbrev pub as_object : PlainObject → Object
as_object object = record { number = object.number; cells = object.cells.items; read_only = object.read_only }

-- a list of objects, under a budget and the least number of a new one
abbrev pub plain : ℕ → ℕ → List PlainObject → Objects
plain budget fresh objects = record { budget = budget; fresh = fresh; live = map as_object objects }

-- the object of a number, if it lives
abbrev pub found_in : List PlainObject → ℕ → Option Object
found_in objects number = live_at (plain 0 0 objects) number

-- it stands at a place
pub record IsFoundAt (objects : List PlainObject) (number place : ℕ) : Type 0 where
  pub within : place < length objects
  pub is : (d : PlainObject) → found_in objects number ≡ Some (as_object (slice_index_or objects place d))
  pub numbered : (d : PlainObject) → (slice_index_or objects place d).number ≡ number

-- an access passes its tests at the object of a place
pub record IsReached (writes : Bool) (objects : List PlainObject) (pointer place : ℕ) : Type 0 where
  pub within : place < length objects
  pub passes : (d : PlainObject) → access_of writes (plain 0 0 objects) pointer ≡ Ok (as_object (slice_index_or objects place d))
  pub numbered : (d : PlainObject) → (slice_index_or objects place d).number ≡ object_part pointer
  pub inside : (d : PlainObject) → offset_part pointer < length (slice_index_or objects place d).cells.items

-- an object with another value in a cell
abbrev pub with_cell : Object → ℕ → ℕ → Object
with_cell object offset value =
    record { number = object.number; cells = slice_set object.cells offset value; read_only = object.read_only }

-- the numbers rise, from `least` on and below `fresh`
abbrev pub AreRising : ℕ → List Object → ℕ → Type 0
AreRising least [] fresh = least ≤ fresh
AreRising least (object ∷ objects) fresh = (least ≤ object.number) × AreRising (object.number + 1) objects fresh

-- what a plain store keeps: the numbers rise, and its cells are within the budget
pub record IsPlain (s : Objects) : Type 0 where
  pub rising : AreRising 0 s.live s.fresh
  pub few : live_cells s ≤ s.budget
