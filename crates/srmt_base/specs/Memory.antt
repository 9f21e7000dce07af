-- Memory as a whole program has it: the objects of the protected functions, and those of the binary functions.
--
-- Each part has a budget of cells and numbers of its own. A function begins its objects in its own part, and
-- may access both.
use Rattle.std.specs.Prelude.{ℕ, ◌+◌, nat_lt, Bool, true, false, if◌then◌else◌, Result, Ok, Err}
use Rattle.srmt_base.specs.declared.part.Part.{Part}
use Rattle.srmt_base.specs.declared.part.Part.TheVariants.{Protected, Binary}
use Rattle.srmt_base.specs.declared.trap.Trap.{Trap}
use Rattle.srmt_base.specs.declared.trap.Trap.TheVariants.{Store}
use Rattle.srmt_base.specs.Objects.{Objects, object_part, live_cells, load_of, put_of, begun, end_of}

-- the first and the last number of an object of a part
abbrev pub first_number : Part → ℕ
first_number Protected = 1
first_number Binary = 134217728

abbrev pub last_number : Part → ℕ
last_number Protected = 134217727
last_number Binary = 268435455

-- the objects of both parts
pub record Memory : Type 0 where
  pub protected : Objects
  pub binary : Objects

abbrev pub objects_of : Part → Memory → Objects
objects_of Protected memory = memory.protected
objects_of Binary memory = memory.binary

-- memory with these objects in a part, and the other part as it was
abbrev pub with_objects : Part → Memory → Objects → Memory
with_objects Protected memory objects = record memory { protected = objects }
with_objects Binary memory objects = record memory { binary = objects }

-- the part to which a number of an object belongs
abbrev pub part_if : Bool → Part
part_if true = Protected
part_if false = Binary

abbrev pub part_of_number : ℕ → Part
part_of_number number = part_if (nat_lt number 134217728)

-- the part that a pointer leads to
abbrev pub part_of : ℕ → Part
part_of pointer = part_of_number (object_part pointer)

-- memory after a change of one part, or the part's trap
abbrev pub changed : Part → Memory → Result Objects Trap → Result Memory Trap
changed part memory (Ok objects) = Ok (with_objects part memory objects)
changed part memory (Err trap) = Err trap

-- reading through a pointer
abbrev pub read_of : Memory → ℕ → Result ℕ Trap
read_of memory pointer = load_of (objects_of (part_of pointer) memory) pointer

-- writing through a pointer
abbrev pub write_of : Memory → ℕ → ℕ → Result Memory Trap
write_of memory pointer value = changed (part_of pointer) memory (put_of (objects_of (part_of pointer) memory) pointer value)

-- the number that the next object of a part has
abbrev pub next_number : Part → Memory → ℕ
next_number part memory = (objects_of part memory).fresh

-- what the beginnings of objects are counted against: the number of the next one, how many cells live, and how many may
pub record Count : Type 0 where
  pub fresh : ℕ
  pub cells : ℕ
  pub budget : ℕ

abbrev pub count_of : Objects → Count
count_of objects = record { fresh = objects.fresh; cells = live_cells objects; budget = objects.budget }

-- drawing the number and the cells of a new object of a part: `Store` where the part's numbers are used up, or where
-- more cells than the budget would live
abbrev pub draw_of : Part → Count → ℕ → Result Count Trap
draw_of part count cells =
    if nat_lt (last_number part) count.fresh then Err Store
    else if nat_lt count.budget (count.cells + cells) then Err Store
    else Ok (record { fresh = count.fresh + 1; cells = count.cells + cells; budget = count.budget })

-- an object that was drawn joins those that live, a row of zeros
abbrev pub begun_if : Result Count Trap → Objects → ℕ → Result Objects Trap
begun_if (Ok count) objects cells = Ok (begun objects objects.fresh cells false)
begun_if (Err trap) objects cells = Err trap

-- beginning an object of zeros in a part by itself, and in memory
abbrev pub begin_in : Part → Objects → ℕ → Result Objects Trap
begin_in part objects cells = begun_if (draw_of part (count_of objects) cells) objects cells

abbrev pub begin_of : Part → Memory → ℕ → Result Memory Trap
begin_of part memory cells = changed part memory (begin_in part (objects_of part memory) cells)

-- ending the object of a number
abbrev pub finish_of : Memory → ℕ → Memory
finish_of memory number = with_objects (part_of_number number) memory (end_of (objects_of (part_of_number number) memory) number)
