-- The list of objects of the plain store.
use Rattle.std.proofs.Common.{ℕ, ◌+◌, ◌<◌, ◌≤◌, ◌≡◌, ◌≢◌, zero, suc, Bool, true, false, List, [], ◌∷◌, ◌++◌, length, map, take, drop, get_or, set, Some, None, Ok, cond, eqb, refl, ap, sym, subst, ◌∙◌, arith}
use Rattle.std.proofs.lemmas.List.{at_drop_more, take-map, drop-map, get_or-map, length-map, length-set, map-append, map-set, map_push}
use Rattle.std.proofs.lemmas.List.Sums.{sum_by_more_le, sum_by_push, sum_by-set, sum_by-remove}
use Rattle.std.proofs.lemmas.Bool.{ne_eqb, eq-eqb}
use Rattle.std.specs.Prelude.{filter, find, remove, ◌==◌, not}
use Rattle.srmt_base.specs.Objects.{Object, object_part, offset_part, live_cells, access_of, if_passed, written, written_in, end_of}
use Rattle.cell_store.specs.Plain.{PlainObject, as_object, plain, found_in, with_cell, AreRising, IsPlain, IsFoundAt, IsReached}

-- the first of a number
pub first_found : (objects : List PlainObject) (number at : ℕ) (d : PlainObject) → at < length objects → found_in (drop at objects) number ≡ found_in objects number → (get_or objects at d).number ≡ number → found_in objects number ≡ Some (as_object (get_or objects at d))
first_found objects number at d within before is =
    let this : eqb (get_or objects at d).number number ≡ true = eq-eqb (get_or objects at d).number number is in
    sym before ∙ at_drop_more (λ os. found_in os number) objects at d within
    ∙ ap (λ b. cond b (Some (as_object (get_or objects at d))) (found_in (drop (at + 1) objects) number)) this

-- one that has another number
pub passed_over : (objects : List PlainObject) (number at : ℕ) (d : PlainObject) → at < length objects → found_in (drop at objects) number ≡ found_in objects number → (get_or objects at d).number ≢ number → found_in (drop (at + 1) objects) number ≡ found_in objects number
passed_over objects number at d within before other =
    let this : eqb (get_or objects at d).number number ≡ false = ne_eqb (get_or objects at d).number number other in
    sym (ap (λ b. cond b (Some (as_object (get_or objects at d))) (found_in (drop (at + 1) objects) number)) this)
    ∙ sym (at_drop_more (λ os. found_in os number) objects at d within) ∙ before

map-remove : (objects : List PlainObject) (at : ℕ) → map as_object (remove objects at) ≡ remove (map as_object objects) at
map-remove objects at = map-append as_object (take at objects) (drop (suc at) objects) ∙ rw (take-map, drop-map) refl

-- no number is below the least
from_least : (objects : List Object) (least fresh : ℕ) → AreRising least objects fresh → (d : Object) (k : ℕ) → k < length objects → least ≤ (get_or objects k d).number
from_least [] least fresh rising d k h = absurd (omega arith)
from_least (object ∷ objects) least fresh rising d zero h = rising.0
from_least (object ∷ objects) least fresh rising d (suc k) h =
    omega (arith, rising.0, from_least objects _ fresh rising.1 d k (omega arith))

from_lower : (objects : List Object) (least lower fresh : ℕ) → AreRising least objects fresh → lower ≤ least → AreRising lower objects fresh
from_lower [] least lower fresh rising h = omega arith
from_lower (object ∷ objects) least lower fresh rising h = (omega (arith, rising.0), rising.1)

-- after a new object, a write and an end
pub rising_push : (objects : List Object) (least fresh : ℕ) (object : Object) → AreRising least objects fresh → fresh ≤ object.number → AreRising least (objects ++ object ∷ []) (object.number + 1)
rising_push [] least fresh object rising above = (omega arith, omega arith)
rising_push (first ∷ objects) least fresh object rising above = (rising.0, rising_push objects _ fresh object rising.1 above)

pub rising_set : (objects : List Object) (least fresh at : ℕ) (object d : Object) → AreRising least objects fresh → at < length objects → object.number ≡ (get_or objects at d).number → AreRising least (set objects at object) fresh
rising_set [] least fresh at object d rising within same = absurd (omega arith)
rising_set (first ∷ objects) least fresh zero object d rising within same =
    (omega (arith, rising.0), subst (λ (n : ℕ). AreRising (n + 1) objects fresh) (sym same) rising.1)
rising_set (first ∷ objects) least fresh (suc at) object d rising within same =
    (rising.0, rising_set objects _ fresh at object d rising.1 (omega arith) same)

pub rising_remove : (objects : List Object) (least fresh at : ℕ) → AreRising least objects fresh → at < length objects → AreRising least (take at objects ++ drop (suc at) objects) fresh
rising_remove [] least fresh at rising within = absurd (omega arith)
rising_remove (first ∷ objects) least fresh zero rising within = from_lower objects _ least fresh rising.1 (omega (arith, rising.0))
rising_remove (first ∷ objects) least fresh (suc at) rising within = (rising.0, rising_remove objects _ fresh at rising.1 (omega arith))

-- objects of greater numbers are left alone
others-written : (objects : List Object) (least fresh pointer value : ℕ) → AreRising least objects fresh → object_part pointer < least → map (written_in pointer value) objects ≡ objects
others-written [] least fresh pointer value rising less = refl
others-written (object ∷ objects) least fresh pointer value rising less =
    let other : eqb object.number (object_part pointer) ≡ false = ne_eqb object.number (object_part pointer) (λ e. absurd (omega (arith, rising.0))) in
    let rest : map (written_in pointer value) objects ≡ objects = others-written objects _ fresh pointer value rising.1 (omega (arith, rising.0)) in
    rw (other, rest) refl

others-kept : (objects : List Object) (least fresh number : ℕ) → AreRising least objects fresh → number < least → filter (λ (object : Object). not (object.number == number)) objects ≡ objects
others-kept [] least fresh number rising less = refl
others-kept (object ∷ objects) least fresh number rising less =
    let other : eqb object.number number ≡ false = ne_eqb object.number number (λ e. absurd (omega (arith, rising.0))) in
    let rest : filter (λ (object : Object). not (object.number == number)) objects ≡ objects = others-kept objects _ fresh number rising.1 (omega (arith, rising.0)) in
    rw (other, rest) refl

-- a write
pub written-set : (objects : List Object) (least fresh at pointer value : ℕ) (d : Object) → AreRising least objects fresh → at < length objects → (get_or objects at d).number ≡ object_part pointer → map (written_in pointer value) objects ≡ set objects at (with_cell (get_or objects at d) (offset_part pointer) value)
written-set [] least fresh at pointer value d rising within is = absurd (omega arith)
written-set (object ∷ objects) least fresh zero pointer value d rising within is =
    let this : eqb object.number (object_part pointer) ≡ true = eq-eqb object.number (object_part pointer) is in
    let rest : map (written_in pointer value) objects ≡ objects = others-written objects _ fresh pointer value rising.1 (omega arith) in
    rw (this, rest) refl
written-set (object ∷ objects) least fresh (suc at) pointer value d rising within is =
    let other : eqb object.number (object_part pointer) ≡ false = ne_eqb object.number (object_part pointer) (λ e. absurd (omega (arith, from_least objects _ fresh rising.1 d at (omega arith)))) in
    let rest : map (written_in pointer value) objects ≡ set objects at (with_cell (get_or objects at d) (offset_part pointer) value) = written-set objects _ fresh at pointer value d rising.1 (omega arith) is in
    rw (other, rest) refl

-- an end
pub filter-remove : (objects : List Object) (least fresh at number : ℕ) (d : Object) → AreRising least objects fresh → at < length objects → (get_or objects at d).number ≡ number → filter (λ (object : Object). not (object.number == number)) objects ≡ take at objects ++ drop (suc at) objects
filter-remove [] least fresh at number d rising within is = absurd (omega arith)
filter-remove (object ∷ objects) least fresh zero number d rising within is =
    let this : eqb object.number number ≡ true = eq-eqb object.number number is in
    let rest : filter (λ (object : Object). not (object.number == number)) objects ≡ objects = others-kept objects _ fresh number rising.1 (omega arith) in
    rw (this, rest) refl
filter-remove (object ∷ objects) least fresh (suc at) number d rising within is =
    let other : eqb object.number number ≡ false = ne_eqb object.number number (λ e. absurd (omega (arith, from_least objects _ fresh rising.1 d at (omega arith)))) in
    let rest : filter (λ (object : Object). not (object.number == number)) objects ≡ take at objects ++ drop (suc at) objects = filter-remove objects _ fresh at number d rising.1 (omega arith) is in
    rw (other, rest) refl

pub filter-none : (objects : List Object) (number : ℕ) → find (λ (object : Object). object.number == number) objects ≡ None → filter (λ (object : Object). not (object.number == number)) objects ≡ objects
filter-none [] number none = refl
filter-none (object ∷ objects) number none = by_test (object.number == number) none (filter-none objects number)
  where
    by_test : (b : Bool) → cond b (Some object) (find (λ (object : Object). object.number == number) objects) ≡ None → (find (λ (object : Object). object.number == number) objects ≡ None → filter (λ (object : Object). not (object.number == number)) objects ≡ objects) → cond (not b) (object ∷ filter (λ (object : Object). not (object.number == number)) objects) (filter (λ (object : Object). not (object.number == number)) objects) ≡ object ∷ objects
    by_test true e h = cc
    by_test false e h = ap (λ (rest : List Object). object ∷ rest) (h e)

-- the cells so far and those of the next object are within all
pub used_more : (objects : List PlainObject) (at : ℕ) (d : PlainObject) → at < length objects → live_cells (plain 0 0 (take at objects)) + length (get_or objects at d).cells.items ≤ live_cells (plain 0 0 objects)
used_more objects at d within =
    let h = sum_by_more_le (λ (object : Object). length object.cells) (map as_object objects) at (as_object d) (rw length-map within) in
    rw (take-map, get_or-map as_object objects at d (as_object d) within) at h

-- what a plain store keeps, after a new object, a write and an end
pub plain_begun : (budget fresh number : ℕ) (objects : List PlainObject) (object : PlainObject) → IsPlain (plain budget fresh objects) → object.number ≡ number → fresh ≤ number → live_cells (plain 0 0 objects) + length object.cells.items ≤ budget → IsPlain (plain budget (number + 1) (objects ++ object ∷ []))
plain_begun budget fresh number objects object kept is above fits = record {
  rising = rw (map_push, ← is) (rising_push (map as_object objects) 0 fresh (as_object object) kept.rising (omega arith));
  few = rw (map_push, sum_by_push (λ (object : Object). length object.cells) (map as_object objects) (as_object object)) fits;
}

pub plain_written : (budget fresh at offset value : ℕ) (objects : List PlainObject) (old new : PlainObject) → IsPlain (plain budget fresh objects) → at < length objects → old ≡ get_or objects at old → as_object new ≡ with_cell (as_object old) offset value → IsPlain (plain budget fresh (set objects at new))
plain_written budget fresh at offset value objects old new kept within is write =
    let within' : at < length (map as_object objects) = rw length-map within in
    let before : get_or (map as_object objects) at (as_object old) ≡ as_object old = get_or-map as_object objects at old (as_object old) within ∙ ap as_object (sym is) in
    let after : map as_object (set objects at new) ≡ set (map as_object objects) at (with_cell (as_object old) offset value) = map-set as_object objects at new ∙ ap (set (map as_object objects) at) write in
    record {
      rising = rw after (rising_set (map as_object objects) 0 fresh at (with_cell (as_object old) offset value) (as_object old) kept.rising within' (rw before refl));
      few = rw after (omega (arith, kept.few, sum_by-set (λ (object : Object). length object.cells) (map as_object objects) at (with_cell (as_object old) offset value) (as_object old) within', ap (λ (object : Object). length object.cells) before, length-set (as_object old).cells offset value));
    }

pub put_listed : (writes : Bool) (budget fresh at offset pointer value : ℕ) (objects : List PlainObject) (old new : PlainObject) → IsPlain (plain budget fresh objects) → IsReached writes objects pointer at → old ≡ get_or objects at old → offset ≡ offset_part pointer → as_object new ≡ with_cell (as_object old) offset value → if_passed (λ _. written (plain budget fresh objects) pointer value) (access_of writes (plain budget fresh objects) pointer) ≡ Ok (plain budget fresh (set objects at new))
put_listed writes budget fresh at offset pointer value objects old new kept reached is part write =
    let within' : at < length (map as_object objects) = rw length-map reached.within in
    let before : get_or (map as_object objects) at (as_object old) ≡ as_object old = get_or-map as_object objects at old (as_object old) reached.within ∙ ap as_object (sym is) in
    let after : map as_object (set objects at new) ≡ set (map as_object objects) at (with_cell (as_object old) (offset_part pointer) value) =
    map-set as_object objects at new ∙ ap (set (map as_object objects) at) (write ∙ ap (λ (n : ℕ). with_cell (as_object old) n value) part) in
    let number : (get_or (map as_object objects) at (as_object old)).number ≡ object_part pointer = rw before (ap (λ (o : PlainObject). o.number) is ∙ reached.numbered old) in
    let all : map (written_in pointer value) (map as_object objects) ≡ set (map as_object objects) at (with_cell (as_object old) (offset_part pointer) value) =
    written-set (map as_object objects) 0 fresh at pointer value (as_object old) kept.rising within' number ∙ rw before refl in
    ap (if_passed (λ _. written (plain budget fresh objects) pointer value)) (reached.passes old)
    ∙ ap (λ (live : List Object). Ok (record { budget = budget; fresh = fresh; live = live })) (all ∙ sym after)

pub plain_ended : (budget fresh at : ℕ) (objects rest : List PlainObject) (d : PlainObject) → IsPlain (plain budget fresh objects) → at < length objects → rest ≡ remove objects at → IsPlain (plain budget fresh rest)
plain_ended budget fresh at objects rest d kept within is =
    let removed : map as_object rest ≡ remove (map as_object objects) at = ap (map as_object) is ∙ map-remove objects at in
    record {
      rising = rw removed (rising_remove (map as_object objects) 0 fresh at kept.rising (rw length-map within));
      few = rw removed (omega (arith, kept.few, sum_by-remove (λ (object : Object). length object.cells) (map as_object objects) at (as_object d) (rw length-map within)));
    }

pub end_listed : (budget fresh at number : ℕ) (objects rest : List PlainObject) (d : PlainObject) → IsPlain (plain budget fresh objects) → IsFoundAt objects number at → rest ≡ remove objects at → end_of (plain budget fresh objects) number ≡ plain budget fresh rest
end_listed budget fresh at number objects rest d kept found is =
    let number' : (get_or (map as_object objects) at (as_object d)).number ≡ number = rw (get_or-map as_object objects at d (as_object d) found.within) (found.numbered d) in
    let removed : map as_object rest ≡ remove (map as_object objects) at = ap (map as_object) is ∙ map-remove objects at in
    ap (λ (live : List Object). record { budget = budget; fresh = fresh; live = live })
    (filter-remove (map as_object objects) 0 fresh at number (as_object d) kept.rising (rw length-map found.within) number' ∙ sym removed)

pub end_unlisted : (budget fresh number : ℕ) (objects : List PlainObject) → found_in objects number ≡ None → end_of (plain budget fresh objects) number ≡ plain budget fresh objects
end_unlisted budget fresh number objects none =
    ap (λ (live : List Object). record { budget = budget; fresh = fresh; live = live }) (filter-none (map as_object objects) number none)
