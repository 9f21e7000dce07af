-- How a store keeps its objects: one row of cells, and a table of the live objects in order of number.
use Rattle.std.specs.Prelude.{◌≡◌, ℕ, ◌+◌, ◌-◌, ◌^◌, ◌<◌, ◌≤◌, ◌==◌, nat_le, Bool, ◌&&◌, if◌then◌else◌, List, [], ◌∷◌, ◌++◌, length, slice_index_or, find, take, drop, All, Option, Some, None, Result, Ok, Err}
use Rattle.srmt_base.specs.declared.trap.Trap.{Trap}
use Rattle.srmt_base.specs.declared.trap.Trap.TheVariants.{NullPointer, OutsideObject, DeadObject, ReadOnly}
use Rattle.srmt_base.specs.Objects.{Object, object_part, offset_part}
use Rattle.cell_store.specs.declared.table.Row.{Row}

-- the object that a line of the table stands for
abbrev pub object_in : List ℕ → Row → Object
object_in cells row =
    record { number = row.number; cells = take row.cells (drop row.start cells); read_only = row.read_only }

-- the table from a place and a number on: the cells of each object begin where those of the one before end, each has a cell,
-- and the numbers rise; the cells end at `end`, and the numbers below `fresh`
abbrev pub AreLaid : ℕ → ℕ → List Row → ℕ → ℕ → Type 0
AreLaid start least [] end fresh = (start ≡ end) × (least ≤ fresh)
AreLaid start least (row ∷ rows) end fresh =
    (row.start ≡ start) × (least ≤ row.number) × (1 ≤ row.cells) × AreLaid (start + row.cells) (row.number + 1) rows end fresh

-- the line of a number
abbrev pub row_of : List Row → ℕ → Option Row
row_of rows number = find (λ row. row.number == number) rows

-- the tests of an access over the table; `Ok` has the place of the cell
abbrev pub reach_in : Bool → Option Row → ℕ → Result ℕ Trap
reach_in writes None offset = Err DeadObject
reach_in writes (Some row) offset =
    if nat_le row.cells offset then Err OutsideObject else (if writes && row.read_only then Err ReadOnly else Ok (row.start + offset))

abbrev pub reach_of : Bool → List Row → ℕ → Result ℕ Trap
reach_of writes rows pointer =
    if object_part pointer == 0 then Err NullPointer else reach_in writes (row_of rows (object_part pointer)) (offset_part pointer)

-- the line at a place is the one of a number
pub record IsPlaceOf (rows : List Row) (number place : ℕ) : Type 0 where
  pub within : place < length rows
  pub is : (d : Row) → row_of rows number ≡ Some (slice_index_or rows place d)

-- what a store keeps of its fields: the table is laid over the cells, these are within the budget, and both have their memory
pub record IsFlat (budget fresh : ℕ) (rows : List Row) (cells : List ℕ) (row_capacity cell_capacity : ℕ) : Type 0 where
  pub laid : AreLaid 0 0 rows (length cells) fresh
  pub few : length cells ≤ budget
  pub small : All (λ cell. cell < 2 ^ 44) cells
  pub bounded : budget ≤ 1048576
  pub row_room : budget ≤ row_capacity
  pub cell_room : budget ≤ cell_capacity

-- a line whose cells moved down
abbrev pub moved_down : ℕ → Row → Row
moved_down by row =
    record { number = row.number; start = row.start - by; cells = row.cells; read_only = row.read_only }

-- the row without a part of it
abbrev pub without : List ℕ → ℕ → ℕ → List ℕ
without cells start count = take start cells ++ drop (start + count) cells
