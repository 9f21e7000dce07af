-- A part of memory keeps its numbers and its values through each access.
use Rattle.std.proofs.Common.{◌≡◌, ℕ, ◌+◌, ◌≤◌, List, [], ◌∷◌, ◌++◌, length, Option, Some, None, Result, Ok, Err, Bool, true, false, refl, subst, arith}
use Rattle.std.specs.Prelude.{All, IfOk, ◌&&◌, not, ◌==◌, nat_le, if◌then◌else◌, map, filter, find, sum_by, replicate, slice_index, slice_set}
use Rattle.std.proofs.lemmas.List.{length-set, length-replicate}
use Rattle.std.proofs.lemmas.List.Sums.{sum_by-cons, sum_by-append}
use Rattle.std.proofs.lemmas.List.Elements.{All-filter, All-set, All-map, All-push, All-replicate, All-head, All-tail}
use Rattle.srmt_base.specs.declared.trap.Trap.{Trap}
use Rattle.srmt_base.specs.declared.trap.Trap.TheVariants.{NullPointer, OutsideObject, ReadOnly}
use Rattle.srmt_base.specs.Objects.{Object, Objects, object_part, offset_part, live_at, access_in, access_of, if_passed, written_in, written, begun, end_of, live_cells}
use Rattle.srmt_base.specs.declared.part.Part.{Part}
use Rattle.srmt_base.specs.declared.part.Part.TheVariants.{Protected, Binary}
use Rattle.srmt_base.specs.Memory.{Memory, first_number, last_number, objects_of, part_of, read_of}
use Rattle.mid_code.specs.Fits.{IsValue, HoldsValues, AreRising, IsPart, IsMemory}
use Rattle.mid_code.proofs.Values.{read_small}

-- what a search finds satisfies what all do
found_too : {X : Type 0} (P : X → Type 0) (test : X → Bool) (xs : List X) (x : X) → All P xs → find test xs ≡ Some x → P x
found_too P test [] x all h = absurd (cc)
found_too P test (y ∷ ys) x all h =
    elim (test y) as (λ b. (if b then Some y else find test ys) ≡ Some x → P x) [
      | true ↦ λ e. (let same : y ≡ x = cc in subst P same (All-head P y ys all))
      | false ↦ λ e. found_too P test ys x (All-tail P y ys all) e
    ] h

-- an access that passes its tests has an object of the part
passed_object : (P : Object → Type 0) (writes : Bool) (s : Objects) (pointer : ℕ) (object : Object) → All P s.live →
    access_of writes s pointer ≡ Ok object → P object
passed_object P writes s pointer object all h =
    elim (object_part pointer == 0) as (λ b. (if b then Err NullPointer else access_in writes (live_at s (object_part pointer)) (offset_part pointer)) ≡ Ok object → P object) [
      | true ↦ λ e. absurd (cc)
      | false ↦ λ e. there (live_at s (object_part pointer)) refl e
    ] h
  where
    there : (found : Option Object) → live_at s (object_part pointer) ≡ found → access_in writes found (offset_part pointer) ≡ Ok object → P object
    there None at e = absurd (cc)
    there (Some o) at e =
        elim (nat_le (length o.cells) (offset_part pointer)) as (λ b. (if b then Err OutsideObject else (if writes && o.read_only then Err ReadOnly else Ok o)) ≡ Ok object → P object) [
          | true ↦ λ e. absurd (cc)
          | false ↦ λ e. (elim (writes && o.read_only) as (λ c. (if c then Err ReadOnly else Ok o) ≡ Ok object → P object) [
            | true ↦ λ f. absurd (cc)
            | false ↦ λ f. (let same : o ≡ object = cc in subst P same (found_too P (λ (x : Object). x.number == object_part pointer) s.live o all at))
          ] e)
        ] e

-- what is read is a value
read_part : (s : Objects) (pointer : ℕ) (r : Result Object Trap) → All HoldsValues s.live → access_of false s pointer ≡ r →
    IfOk (if_passed (λ object. slice_index object.cells (offset_part pointer)) r) IsValue
read_part s pointer (Err trap) all h = tt
read_part s pointer (Ok object) all h = read_small object.cells (offset_part pointer) (passed_object HoldsValues false s pointer object all h)

pub part_of_memory : (memory : Memory) (part : Part) → IsMemory memory → IsPart part (objects_of part memory)
part_of_memory memory Protected h = h.protected
part_of_memory memory Binary h = h.binary

pub read_value : (memory : Memory) (pointer : ℕ) → IsMemory memory → IfOk (read_of memory pointer) IsValue
read_value memory pointer h =
    let s = objects_of (part_of pointer) memory in
    read_part s pointer (access_of false s pointer) (part_of_memory memory (part_of pointer) h).values refl

-- numbers that rise from a least one rise from a lesser one
rising_lower : (least lower : ℕ) (objects : List Object) (fresh : ℕ) → lower ≤ least → AreRising least objects fresh → AreRising lower objects fresh
rising_lower least lower [] fresh low h = omega arith
rising_lower least lower (object ∷ objects) fresh low h = (omega (arith, h.0), h.1)

-- a change of an object that keeps its number and how many cells it has
record IsKept (f : Object → Object) : Type 0 where
  number : (object : Object) → (f object).number ≡ object.number
  count : (object : Object) → length (f object).cells ≡ length object.cells

rising_map : (f : Object → Object) → IsKept f → (least : ℕ) (objects : List Object) (fresh : ℕ) → AreRising least objects fresh →
    AreRising least (map f objects) fresh
rising_map f k least [] fresh h = h
rising_map f k least (object ∷ objects) fresh h =
    let same = k.number object in
    (omega (arith, h.0, same), rising_lower (object.number + 1) ((f object).number + 1) (map f objects) fresh (omega (arith, same)) (rising_map f k (object.number + 1) objects fresh h.1))

cells_map : (f : Object → Object) → IsKept f → (objects : List Object) →
    sum_by (λ (o : Object). length o.cells) (map f objects) ≡ sum_by (λ (o : Object). length o.cells) objects
cells_map f k [] = refl
cells_map f k (object ∷ objects) =
    omega (arith, sum_by-cons (λ (o : Object). length o.cells) (f object) (map f objects), sum_by-cons (λ (o : Object). length o.cells) object objects, cells_map f k objects, k.count object)

length_if : (b : Bool) (xs : List ℕ) (i v : ℕ) → length (if b then slice_set xs i v else xs) ≡ length xs
length_if true xs i v = length-set xs i v
length_if false xs i v = refl

values_if : (b : Bool) (xs : List ℕ) (i v : ℕ) → IsValue v → All IsValue xs → All IsValue (if b then slice_set xs i v else xs)
values_if true xs i v small all = All-set IsValue xs i v small all
values_if false xs i v small all = all

written_kept : (pointer value : ℕ) → IsKept (written_in pointer value)
written_kept pointer value = record {
  number = λ object. refl;
  count = λ object. length_if (object.number == object_part pointer) object.cells (offset_part pointer) value;
}

-- writing
pub written_part : (part : Part) (s : Objects) (pointer value : ℕ) → IsValue value → IsPart part s → IsPart part (written s pointer value)
written_part part s pointer value small h = record {
  rising = rising_map (written_in pointer value) (written_kept pointer value) (first_number part) s.live s.fresh h.rising;
  last = h.last;
  cells = All-map (λ (o : Object). 1 ≤ length o.cells) (written_in pointer value) s.live (λ k d in_range. rw ((written_kept pointer value).count _) (h.cells k d in_range));
  values = All-map HoldsValues (written_in pointer value) s.live (λ k d in_range. values_if _ _ (offset_part pointer) value small (h.values k d in_range));
  within = omega (arith, h.within, cells_map (written_in pointer value) (written_kept pointer value) s.live);
  budget = h.budget;
}

-- beginning
rising_push : (least : ℕ) (objects : List Object) (fresh : ℕ) (object : Object) → AreRising least objects fresh → fresh ≤ object.number →
    AreRising least (objects ++ object ∷ []) (object.number + 1)
rising_push least [] fresh object h above = (omega (arith, h, above), omega arith)
rising_push least (o ∷ objects) fresh object h above = (h.0, rising_push (o.number + 1) objects fresh object h.1 above)

-- ending
rising_filter : (test : Object → Bool) (least : ℕ) (objects : List Object) (fresh : ℕ) → AreRising least objects fresh →
    AreRising least (filter test objects) fresh
rising_filter test least [] fresh h = h
rising_filter test least (o ∷ objects) fresh h =
    let rest = rising_filter test (o.number + 1) objects fresh h.1 in
    elim (test o) as (λ b. AreRising least (if b then o ∷ filter test objects else filter test objects) fresh) [
      | true ↦ (h.0, rest)
      | false ↦ rising_lower (o.number + 1) least (filter test objects) fresh (omega (arith, h.0)) rest
    ]

cells_filter : (test : Object → Bool) (objects : List Object) →
    sum_by (λ (o : Object). length o.cells) (filter test objects) ≤ sum_by (λ (o : Object). length o.cells) objects
cells_filter test [] = omega arith
cells_filter test (o ∷ objects) =
    let rest = cells_filter test objects in
    let all = sum_by-cons (λ (x : Object). length x.cells) o objects in
    elim (test o) as (λ b. sum_by (λ (x : Object). length x.cells) (if b then o ∷ filter test objects else filter test objects) ≤ sum_by (λ (x : Object). length x.cells) (o ∷ objects)) [
      | true ↦ omega (arith, rest, all, sum_by-cons (λ (x : Object). length x.cells) o (filter test objects))
      | false ↦ omega (arith, rest, all)
    ]

pub ended_part : (part : Part) (s : Objects) (number : ℕ) → IsPart part s → IsPart part (end_of s number)
ended_part part s number h =
    let test : Object → Bool = λ object. not (object.number == number) in
    record {
      rising = rising_filter test (first_number part) s.live s.fresh h.rising;
      last = h.last;
      cells = All-filter test (λ (o : Object). 1 ≤ length o.cells) s.live h.cells;
      values = All-filter test HoldsValues s.live h.values;
      within = omega (arith, h.within, cells_filter test s.live);
      budget = h.budget;
    }

pub begun_part : (part : Part) (s : Objects) (cells : ℕ) → 1 ≤ cells → s.fresh ≤ last_number part → live_cells s + cells ≤ s.budget → IsPart part s →
    IsPart part (begun s s.fresh cells false)
begun_part part s cells some last room h =
    let new : Object = record { number = s.fresh; cells = replicate cells 0; read_only = false } in
    let long = length-replicate {A = ℕ} cells 0 in
    record {
      rising = rising_push (first_number part) s.live s.fresh new h.rising (omega arith);
      last = omega (arith, last);
      cells = All-push (λ (o : Object). 1 ≤ length o.cells) s.live new h.cells (omega (arith, long, some));
      values = All-push HoldsValues s.live new h.values (All-replicate IsValue cells 0 (omega arith));
      within = omega (arith, room, long, sum_by-append (λ (o : Object). length o.cells) s.live (new ∷ []), sum_by-cons (λ (o : Object). length o.cells) new []);
      budget = h.budget;
    }
