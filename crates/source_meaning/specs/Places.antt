-- What a name and an lvalue stand for, and access to objects.
use Rattle.std.specs.Prelude.{ℕ, ◌+◌, zero, suc, nat_le, Bool, false, List, [], ◌∷◌, ◌++◌, length, Option, Some, None, slice_get, slice_index_or}
use Rattle.srmt_base.specs.declared.event.Event.TheVariants.{PortRead, PortWrite}
use Rattle.srmt_base.specs.declared.part.Part.{Part}
use Rattle.srmt_base.specs.declared.part.Part.TheVariants.{Protected, Binary}
use Rattle.srmt_base.specs.Objects.{pointer_to, object_part, offset_part}
use Rattle.srmt_base.specs.Memory.{first_number, part_if, read_of, write_of, next_number, begin_of, finish_of}
use Rattle.c_types.specs.Types.{Qualified, void, unqualified, cells_of}
use Rattle.c_typed.specs.declared.program.Numbered.{Numbered}
use Rattle.c_typed.specs.declared.program.Numbered.TheVariants as numbered
use Rattle.c_typed.specs.Statements.{Function, LocalRow, Program, TypedFile}
use Rattle.source_meaning.specs.World.{Doing, ◌>>=◌, ◌>>◌, pure, asks, becomes, computed, either, remembers, happens, local_at, set_local}

-- functions are numbered from 1, those of the main file first
abbrev pub function_at : Program → ℕ → Option Function
function_at program zero = None
function_at program (suc before) = slice_get (program.main_file.functions ++ program.binary_file.functions) before

abbrev pub part_of_function : Program → ℕ → Part
part_of_function program number = part_if (nat_le number (length program.main_file.functions))

-- what an entity is: the number of a function, or the address of an object
abbrev pub value_of_entity : Program → ℕ → ℕ
value_of_entity program entity = value_if (slice_get program.entities entity)
  where
    value_if : Option Numbered → ℕ
    value_if None = 0
    value_if (Some (numbered.Function number)) = number
    value_if (Some (numbered.Object number)) = pointer_to number 0
    value_if (Some numbered.Nowhere) = 0

abbrev pub file_of : Part → Program → TypedFile
file_of Protected program = program.main_file
file_of Binary program = program.binary_file

-- the address of a text: the texts of a file follow its static objects (C11 6.4.5p6)
abbrev pub address_of_text : Part → Program → ℕ → ℕ
address_of_text part program n = pointer_to (first_number part + length (file_of part program).statics + n) 0

-- what is fixed while a function runs
pub record Setting : Type 0 where
  pub program : Program
  -- the part to which the function belongs
  pub part : Part
  -- its table of locals
  pub rows : List LocalRow
  -- what a call of a function of a number does, with these arguments. The line is that of the call
  pub call : (line number : ℕ) (arguments : List ℕ) → Doing ℕ

-- the row of a local; each local has one
abbrev pub row_of : Setting → ℕ → LocalRow
row_of s n = slice_index_or s.rows n (record { line = 0; first = 0; type = unqualified void; is_placed = false })

-- a local in a register, or a cell of memory. An access through a volatile lvalue is an event (C11 5.1.2.3p6), and a
-- trap of an access is at the line
pub data Location : Type 0 where
  register : (number : ℕ) → Location
  cell : (is_volatile : Bool) (line pointer : ℕ) → Location

-- the cell at an address, through an lvalue of a type
abbrev pub cell_of : Qualified → ℕ → ℕ → Location
cell_of type line address = cell type.qualifiers.is_volatile line address

-- its address (C11 6.5.3.2p3); `&` is not applied to a local in a register
abbrev pub address_in : Location → ℕ
address_in (register n) = 0
address_in (cell is_volatile line pointer) = pointer

-- the object of a local
abbrev pub location_of_local : Setting → ℕ → Qualified → ℕ → Doing Location
location_of_local s n type line = either (row_of s n).is_placed (do pure (cell_of type line (← local_at n))) (pure (register n))

-- what an object holds (C11 6.3.2.1p2). The event of an access comes after its tests were passed
abbrev pub fetch : Location → Doing ℕ
fetch (register n) = local_at n
fetch (cell is_volatile line pointer) = do
  v ← computed line (read_of (← asks (λ w. w.memory)) pointer)
  either is_volatile (happens (PortRead (object_part pointer) (offset_part pointer))) (pure tt)
  pure v

-- an object takes a value (C11 6.5.16p3)
abbrev pub store : Location → ℕ → Doing (Unit {0})
store (register n) v = set_local n v
store (cell is_volatile line pointer) v = do
  remembers line (λ memory. write_of memory pointer v)
  either is_volatile (happens (PortWrite (object_part pointer) (offset_part pointer) v)) (pure tt)

-- a local in memory begins as an object of zeros in the part of its function
abbrev pub object_begins : Setting → ℕ → Doing (Unit {0})
object_begins s n = do
  number ← asks (λ w. next_number s.part w.memory)
  remembers (row_of s n).line (λ memory. begin_of s.part memory (cells_of (row_of s n).type.type))
  set_local n (pointer_to number 0)

abbrev pub object_ends : ℕ → Doing (Unit {0})
object_ends n = local_at n >>= (λ pointer. becomes (λ w. record w { memory = finish_of w.memory (object_part pointer) }))

-- in order; a local in a register begins as 0
abbrev pub all_begin : Setting → List ℕ → Doing (Unit {0})
all_begin s [] = pure tt
all_begin s (n ∷ rest) = either (row_of s n).is_placed (object_begins s n) (set_local n 0) >> all_begin s rest

-- the last first
abbrev pub all_end : Setting → List ℕ → Doing (Unit {0})
all_end s [] = pure tt
all_end s (n ∷ rest) = all_end s rest >> either (row_of s n).is_placed (object_ends n) (pure tt)
