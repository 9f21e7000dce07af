-- What is computed, read and written is a number of 44 bits.
use Rattle.std.proofs.Common.{◌≡◌, ℕ, zero, suc, ◌+◌, ◌==◌, ◌≤◌, Bool, true, false, List, [], ◌∷◌, ◌++◌, length, refl, Option, Some, None, Result, Ok, Err, arith}
use Rattle.std.specs.Prelude.{not, if◌then◌else◌, IfOk, map, filter, find, nat_lt, nat_le, replicate, slice_index, slice_set}
use Rattle.std.proofs.lemmas.Bool.{ltb-false}
use Rattle.srmt_base.specs.declared.part.Part.{Part}
use Rattle.srmt_base.specs.declared.part.Part.TheVariants.{Protected, Binary}
use Rattle.srmt_base.specs.declared.trap.Trap.{Trap}
use Rattle.srmt_base.specs.declared.trap.Trap.TheVariants.{NullPointer, OutsideObject, Store}
use Rattle.srmt_base.specs.Objects.{Object, Objects, pointer_to, object_part, offset_part, access_in, access_of, if_passed, written_in, written, begun, end_of, live_cells}
use Rattle.srmt_base.specs.Memory.{Memory, last_number, objects_of, with_objects, part_of, part_of_number, changed, read_of, write_of, begun_if, begin_of, finish_of, next_number}
use Rattle.source_meaning.specs.World.{World, Outcome, Gives, Ends, Doing, and_then, ◌>>=◌, either, computed, becomes, remembers, set_local}
use Rattle.source_meaning.specs.Values.{IsValue, AreValues, HoldValues, HoldsValues, GivesSuch, Makes}

pub then_such : {A B : Type 0} (P : A → Type 0) (Q : B → Type 0) (o : Outcome A) (f : A → Doing B) → GivesSuch P o → ((a : A) → P a → Makes Q (f a)) → GivesSuch Q (and_then o f)
then_such P Q (Gives a w) f h k = k a h.0 w h.1
then_such P Q (Ends end events) f h k = tt

pub then_makes : {A B : Type 0} (P : A → Type 0) (Q : B → Type 0) (m : Doing A) (f : A → Doing B) → Makes P m → ((a : A) → P a → Makes Q (f a)) → Makes Q (m >>= f)
then_makes P Q m f h k w holds = then_such P Q (m w) f (h w holds) k

pub either_makes : {A : Type 0} (P : A → Type 0) (test : Bool) (m n : Doing A) → Makes P m → Makes P n → Makes P (either test m n)
either_makes P true m n h k = h
either_makes P false m n h k = k

pub computed_makes : (line : ℕ) (r : Result ℕ Trap) → IfOk r IsValue → Makes IsValue (computed line r)
computed_makes line (Ok v) h w holds = (h, holds)
computed_makes line (Err trap) h w holds = tt

-- lists of values
pub index_small : (xs : List ℕ) (k : ℕ) → AreValues xs → IsValue (slice_index xs k)
index_small [] k h = omega arith
index_small (x ∷ xs) zero h = h.0
index_small (x ∷ xs) (suc k) h = index_small xs k h.1

pub set_small : (xs : List ℕ) (k v : ℕ) → AreValues xs → IsValue v → AreValues (slice_set xs k v)
set_small [] k v h small = tt
set_small (x ∷ xs) zero v h small = (small, h.1)
set_small (x ∷ xs) (suc k) v h small = (h.0, set_small xs k v h.1 small)

pub zeros_small : (n : ℕ) → AreValues (replicate n 0)
zeros_small zero = tt
zeros_small (suc n) = (omega arith, zeros_small n)

-- memory
abbrev pub MemoryHolds : Memory → Type 0
MemoryHolds m = HoldValues m.protected.live × HoldValues m.binary.live

objects_hold : (part : Part) (m : Memory) → MemoryHolds m → HoldValues (objects_of part m).live
objects_hold Protected m h = h.0
objects_hold Binary m h = h.1

with_holds : (part : Part) (m : Memory) (s : Objects) → MemoryHolds m → HoldValues s.live → MemoryHolds (with_objects part m s)
with_holds Protected m s h k = (k, h.1)
with_holds Binary m s h k = (h.0, k)

cells_written : (b : Bool) (cells : List ℕ) (k v : ℕ) → AreValues cells → IsValue v → AreValues (if b then slice_set cells k v else cells)
cells_written true cells k v h small = set_small cells k v h small
cells_written false cells k v h small = h

written_holds : (pointer v : ℕ) (os : List Object) → HoldValues os → IsValue v → HoldValues (map (written_in pointer v) os)
written_holds pointer v [] h small = tt
written_holds pointer v (o ∷ os) h small =
    (cells_written (o.number == object_part pointer) o.cells (offset_part pointer) v h.0 small, written_holds pointer v os h.1 small)

pushed_holds : (os : List Object) (o : Object) → HoldValues os → AreValues o.cells → HoldValues (os ++ o ∷ [])
pushed_holds [] o h k = (k, tt)
pushed_holds (x ∷ os) o h k = (h.0, pushed_holds os o h.1 k)

kept_holds : (n : ℕ) (os : List Object) → HoldValues os → HoldValues (filter (λ object. not (object.number == n)) os)
kept_holds n [] h = tt
kept_holds n (o ∷ os) h =
    elim (o.number == n) as (λ b. HoldValues (if not b then o ∷ filter (λ object. not (object.number == n)) os else filter (λ object. not (object.number == n)) os)) [
      | true ↦ kept_holds n os h.1
      | false ↦ (h.0, kept_holds n os h.1)
    ]

FoundHolds : Option Object → Type 0
FoundHolds None = Unit {0}
FoundHolds (Some o) = AreValues o.cells

found_holds : (n : ℕ) (os : List Object) → HoldValues os → FoundHolds (find (λ object. object.number == n) os)
unfolding FoundHolds
found_holds n [] h = tt
found_holds n (o ∷ os) h =
    elim (o.number == n) as (λ b. FoundHolds (if b then Some o else find (λ object. object.number == n) os)) [
      | true ↦ h.0
      | false ↦ found_holds n os h.1
    ]

read_by : (null : Bool) (found : Option Object) (k : ℕ) → FoundHolds found →
    IfOk (if_passed (λ object. slice_index object.cells k) (if null then Err NullPointer else access_in false found k)) IsValue
unfolding FoundHolds
read_by true found k h = tt
read_by false None k h = tt
read_by false (Some o) k h =
    elim (nat_le (length o.cells) k) as (λ b. IfOk (if_passed (λ object. slice_index object.cells k) (if b then Err OutsideObject else Ok o)) IsValue) [
      | true ↦ tt
      | false ↦ index_small o.cells k h
    ]

pub read_small : (m : Memory) (pointer : ℕ) → MemoryHolds m → IfOk (read_of m pointer) IsValue
read_small m pointer h =
    read_by (object_part pointer == 0) (find (λ object. object.number == object_part pointer) (objects_of (part_of pointer) m).live) (offset_part pointer)
    (found_holds (object_part pointer) (objects_of (part_of pointer) m).live (objects_hold (part_of pointer) m h))

write_by : (m : Memory) (part : Part) (pointer v : ℕ) (r : Result Object Trap) → MemoryHolds m → IsValue v →
    IfOk (changed part m (if_passed (λ o. written (objects_of part m) pointer v) r)) MemoryHolds
write_by m part pointer v (Err trap) h small = tt
write_by m part pointer v (Ok o) h small =
    with_holds part m (written (objects_of part m) pointer v) h (written_holds pointer v (objects_of part m).live (objects_hold part m h) small)

pub write_holds : (m : Memory) (pointer v : ℕ) → MemoryHolds m → IsValue v → IfOk (write_of m pointer v) MemoryHolds
write_holds m pointer v h small = write_by m (part_of pointer) pointer v (access_of true (objects_of (part_of pointer) m) pointer) h small

pub finish_holds : (m : Memory) (n : ℕ) → MemoryHolds m → MemoryHolds (finish_of m n)
finish_holds m n h =
    with_holds (part_of_number n) m (end_of (objects_of (part_of_number n) m) n) h
    (kept_holds n (objects_of (part_of_number n) m).live (objects_hold (part_of_number n) m h))

number_small : (part : Part) (n : ℕ) → n ≤ last_number part → IsValue (pointer_to n 0)
number_small Protected n h = omega arith
number_small Binary n h = omega arith

begin_by : (m : Memory) (part : Part) (cells : ℕ) → MemoryHolds m → (past full : Bool) → nat_lt (last_number part) (objects_of part m).fresh ≡ past →
    IfOk (changed part m (begun_if (if past then Err Store else if full then Err Store else Ok (record {
      fresh = (objects_of part m).fresh + 1;
      cells = live_cells (objects_of part m) + cells;
      budget = (objects_of part m).budget;
    })) (objects_of part m) cells)) (λ next. MemoryHolds next × IsValue (pointer_to (next_number part m) 0))
begin_by m part cells h true full e = tt
begin_by m part cells h false true e = tt
begin_by m part cells h false false e = (
  with_holds part m (begun (objects_of part m) (objects_of part m).fresh cells false) h (pushed_holds (objects_of part m).live _ (objects_hold part m h) (zeros_small cells)),
  number_small part (objects_of part m).fresh (ltb-false (last_number part) (objects_of part m).fresh e),
)

pub begin_holds : (m : Memory) (part : Part) (cells : ℕ) → MemoryHolds m → IfOk (begin_of part m cells) (λ next. MemoryHolds next × IsValue (pointer_to (next_number part m) 0))
begin_holds m part cells h =
    begin_by m part cells h (nat_lt (last_number part) (objects_of part m).fresh)
    (nat_lt (objects_of part m).budget (live_cells (objects_of part m) + cells)) refl

-- a change of memory
abbrev pub Anything : {A : Type 0} → A → Type 0
Anything a = Unit {0}

abbrev pub of_world : (w : World) → HoldsValues w → MemoryHolds w.memory
of_world w holds = (holds.protected, holds.binary)

remembered : (line : ℕ) (w : World) (r : Result Memory Trap) → HoldsValues w → IfOk r MemoryHolds
    → GivesSuch Anything (and_then (computed line r w) (λ memory. becomes (λ w. record w { memory = memory })))
remembered line w (Ok m) holds h = (tt, record { protected = h.0; binary = h.1; input = holds.input; locals = holds.locals })
remembered line w (Err trap) holds h = tt

pub remembers_makes : (line : ℕ) (change : Memory → Result Memory Trap) → ((m : Memory) → MemoryHolds m → IfOk (change m) MemoryHolds)
    → Makes Anything (remembers line change)
remembers_makes line change h w holds = remembered line w (change w.memory) holds (h w.memory (of_world w holds))

pub set_local_makes : (n v : ℕ) → IsValue v → Makes Anything (set_local n v)
set_local_makes n v small w holds =
    (tt, record { protected = holds.protected; binary = holds.binary; input = holds.input; locals = set_small w.locals n v holds.locals small })
