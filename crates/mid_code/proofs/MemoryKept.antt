-- Memory as a whole after each access: it keeps its numbers and values, and so many objects live.
use Rattle.std.proofs.Common.{◌≡◌, ℕ, ◌+◌, ◌<◌, ◌≤◌, List, [], ◌∷◌, length, Result, Ok, Err, Bool, true, false, refl, arith}
use Rattle.std.specs.Prelude.{IfOk, not, ◌==◌, nat_lt, if◌then◌else◌, filter, replicate}
use Rattle.std.proofs.lemmas.Bool.{ltb-false, eqb-true, ne_eqb}
use Rattle.std.proofs.lemmas.List.{length-map, length-append}
use Rattle.srmt_base.specs.declared.trap.Trap.{Trap}
use Rattle.srmt_base.specs.declared.trap.Trap.TheVariants.{Store}
use Rattle.srmt_base.specs.Objects.{Object, Objects, pointer_to, access_of, if_passed, written_in, written, begun, end_of, live_cells}
use Rattle.srmt_base.specs.declared.part.Part.{Part}
use Rattle.srmt_base.specs.declared.part.Part.TheVariants.{Protected, Binary}
use Rattle.srmt_base.specs.Memory.{Memory, first_number, last_number, objects_of, with_objects, part_of_number, part_of, changed, write_of, next_number, begun_if, begin_of, finish_of}
use Rattle.mid_code.specs.Fits.{IsValue, AreRising, IsPart, IsMemory}
use Rattle.mid_code.proofs.PartsKept.{part_of_memory, written_part, begun_part, ended_part}

-- how many objects live
abbrev pub live_count : Memory → ℕ
live_count memory = length memory.protected.live + length memory.binary.live

with_part : (memory : Memory) (part : Part) (s : Objects) → IsMemory memory → IsPart part s → IsMemory (with_objects part memory s)
with_part memory Protected s h k = record { protected = k; binary = h.binary }
with_part memory Binary s h k = record { protected = h.protected; binary = k }

count_with : (memory : Memory) (part : Part) (s : Objects) →
    live_count (with_objects part memory s) + length (objects_of part memory).live ≡ live_count memory + length s.live
count_with memory Protected s = omega arith
count_with memory Binary s = omega arith

-- after a write
abbrev pub AfterWrite : Memory → Memory → Type 0
AfterWrite memory next = IsMemory next × (live_count next ≡ live_count memory)

wrote_by : (memory : Memory) (part : Part) (pointer value : ℕ) (r : Result Object Trap) → IsMemory memory → IsValue value →
    IfOk (changed part memory (if_passed (λ _. written (objects_of part memory) pointer value) r)) (AfterWrite memory)
wrote_by memory part pointer value (Err trap) h small = tt
wrote_by memory part pointer value (Ok object) h small =
    let s = objects_of part memory in (
      with_part memory part (written s pointer value) h (written_part part s pointer value small (part_of_memory memory part h)),
      omega (arith, count_with memory part (written s pointer value), length-map s.live (written_in pointer value)),
    )

pub wrote : (memory : Memory) (pointer value : ℕ) → IsMemory memory → IsValue value → IfOk (write_of memory pointer value) (AfterWrite memory)
wrote memory pointer value h small = wrote_by memory (part_of pointer) pointer value (access_of true (objects_of (part_of pointer) memory) pointer) h small

-- after an object has begun
pub record AfterBegin (part : Part) (memory next : Memory) : Type 0 where
  pub kept : IsMemory next
  pub count : live_count next ≡ live_count memory + 1
  pub small : IsValue (pointer_to (next_number part memory) 0)

last_small : (part : Part) (number : ℕ) → number ≤ last_number part → IsValue (pointer_to number 0)
last_small Protected number h = omega arith
last_small Binary number h = omega arith

began_by : (memory : Memory) (part : Part) (cells : ℕ) → IsMemory memory → 1 ≤ cells → (used full : Bool) →
    nat_lt (last_number part) (next_number part memory) ≡ used → nat_lt (objects_of part memory).budget (live_cells (objects_of part memory) + cells) ≡ full →
    IfOk (changed part memory (begun_if (if used then Err Store else if full then Err Store else Ok (record {
      fresh = (objects_of part memory).fresh + 1;
      cells = live_cells (objects_of part memory) + cells;
      budget = (objects_of part memory).budget;
    })) (objects_of part memory) cells)) (AfterBegin part memory)
began_by memory part cells h some true full last room = tt
began_by memory part cells h some false true last room = tt
began_by memory part cells h some false false last room =
    let s = objects_of part memory in
    let low = ltb-false (last_number part) s.fresh last in
    let new : Object = record { number = s.fresh; cells = replicate cells 0; read_only = false } in
    record {
      kept = with_part memory part (begun s s.fresh cells false) h
          (begun_part part s cells some low (ltb-false s.budget (live_cells s + cells) room) (part_of_memory memory part h));
      count = omega (arith, count_with memory part (begun s s.fresh cells false), length-append s.live (new ∷ []));
      small = last_small part s.fresh low;
    }

pub began : (memory : Memory) (part : Part) (cells : ℕ) → IsMemory memory → 1 ≤ cells → IfOk (begin_of part memory cells) (AfterBegin part memory)
began memory part cells h some =
    let s = objects_of part memory in
    began_by memory part cells h some (nat_lt (last_number part) s.fresh) (nat_lt s.budget (live_cells s + cells)) refl refl

-- after an object has ended: one object less lives at most
none_removed : (number least : ℕ) (objects : List Object) (fresh : ℕ) → number < least → AreRising least objects fresh →
    length (filter (λ object. not (object.number == number)) objects) ≡ length objects
none_removed number least [] fresh low h = refl
none_removed number least (o ∷ objects) fresh low h =
    let other : (o.number == number) ≡ false = ne_eqb o.number number (λ e. omega (arith, e, h.0, low)) in
    let rest = none_removed number (o.number + 1) objects fresh (omega (arith, h.0, low)) h.1 in
    rw other (omega (arith, rest))

one_removed : (number least : ℕ) (objects : List Object) (fresh : ℕ) → AreRising least objects fresh →
    length objects ≤ length (filter (λ object. not (object.number == number)) objects) + 1
one_removed number least [] fresh h = omega arith
one_removed number least (o ∷ objects) fresh h =
    elim (o.number == number) as (λ b. o.number == number ≡ b → length (o ∷ objects) ≤ length (if not b then o ∷ filter (λ object. not (object.number == number)) objects else filter (λ object. not (object.number == number)) objects) + 1) [
      | true ↦ λ e. (let this : o.number ≡ number = eqb-true o.number number e in omega (arith, none_removed number (o.number + 1) objects fresh (omega arith) h.1))
      | false ↦ λ e. omega (arith, one_removed number (o.number + 1) objects fresh h.1)
    ] refl

finished_by : (memory : Memory) (part : Part) (number : ℕ) → IsMemory memory →
    IsMemory (with_objects part memory (end_of (objects_of part memory) number)) × (live_count memory ≤ live_count (with_objects part memory (end_of (objects_of part memory) number)) + 1)
finished_by memory part number h =
    let s = objects_of part memory in
    let k = part_of_memory memory part h in (
      with_part memory part (end_of s number) h (ended_part part s number k),
      omega (arith, count_with memory part (end_of s number), one_removed number (first_number part) s.live s.fresh k.rising),
    )

pub finished : (memory : Memory) (number : ℕ) → IsMemory memory →
    IsMemory (finish_of memory number) × (live_count memory ≤ live_count (finish_of memory number) + 1)
finished memory number h = finished_by memory (part_of_number number) number h

-- both parts have this budget of cells
abbrev pub HasCells : ℕ → Memory → Type 0
HasCells cells memory = (part : Part) → (objects_of part memory).budget ≡ cells

pub kept_part : (cells : ℕ) (memory : Memory) (part : Part) (objects : Objects) → HasCells cells memory → objects.budget ≡ cells →
    HasCells cells (with_objects part memory objects)
kept_part cells memory Protected objects h e Protected = e
kept_part cells memory Protected objects h e Binary = h Binary
kept_part cells memory Binary objects h e Protected = h Protected
kept_part cells memory Binary objects h e Binary = e

write_kept : (cells : ℕ) (memory : Memory) (part : Part) (pointer value : ℕ) (r : Result Object Trap) → HasCells cells memory →
    IfOk (changed part memory (if_passed (λ _. written (objects_of part memory) pointer value) r)) (HasCells cells)
write_kept cells memory part pointer value (Err trap) h = tt
write_kept cells memory part pointer value (Ok object) h = kept_part cells memory part (written (objects_of part memory) pointer value) h (h part)

pub wrote_cells : (budget : ℕ) (memory : Memory) (pointer value : ℕ) → HasCells budget memory → IfOk (write_of memory pointer value) (HasCells budget)
wrote_cells budget memory pointer value h =
    write_kept budget memory (part_of pointer) pointer value (access_of true (objects_of (part_of pointer) memory) pointer) h
