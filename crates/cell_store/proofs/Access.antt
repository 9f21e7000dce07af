-- An access to the flat store is the access to the list of its objects.
use Rattle.std.proofs.Common.{ℕ, ◌+◌, ◌-◌, ◌<◌, ◌≤◌, ◌≡◌, zero, suc, Bool, true, false, ◌&&◌, List, [], ◌∷◌, length, map, get_or, set, take, drop, Option, Some, None, Result, Ok, Err, cond, eqb, leb, refl, ap, sym, subst, ◌∙◌, ⊎_elim, arith}
use Rattle.std.specs.Prelude.{slice_index, option_map, find, slice_get, ◌==◌, IfOk}
use Rattle.srmt_base.specs.declared.trap.Trap.TheVariants.{NullPointer, OutsideObject, ReadOnly}
use Rattle.std.proofs.lemmas.List.{length-take, length-drop, get_or-take, get_or-drop, drop-set-add, drop-set-lt, take-set-le}
use Rattle.std.proofs.Math.Seq.{take-set-lt}
use Rattle.std.proofs.lemmas.Bool.{ne_eqb, eqb-true, leb-false}
use Rattle.std.proofs.lemmas.Bool.Decides.{eqb_tells}
use Rattle.srmt_base.specs.declared.trap.Trap.{Trap}
use Rattle.srmt_base.specs.Objects.{Object, Objects, object_part, offset_part, live_at, access_in, access_of, if_passed, written_in, written, load_of}
use Rattle.cell_store.specs.declared.table.Row.{Row}
use Rattle.cell_store.specs.Flat.{object_in, AreLaid, row_of, reach_in, reach_of}

-- a function of the place that was reached
abbrev pub if_reached : {A : Type 0} → (ℕ → A) → Result ℕ Trap → Result A Trap
if_reached f (Ok place) = Ok (f place)
if_reached f (Err trap) = Err trap

-- what the flat store stands for
abbrev pub flat : ℕ → ℕ → List Row → List ℕ → Objects
flat budget fresh rows cells = record { budget = budget; fresh = fresh; live = map (object_in cells) rows }

-- looking for an object is looking for its line
pub find-map : (cells : List ℕ) (rows : List Row) (number : ℕ) → find (λ (o : Object). o.number == number) (map (object_in cells) rows) ≡ option_map (object_in cells) (row_of rows number)
find-map cells [] number = refl
find-map cells (row ∷ rows) number = by_test (row.number == number) (find-map cells rows number)
  where
    by_test : (b : Bool) → find (λ (o : Object). o.number == number) (map (object_in cells) rows) ≡ option_map (object_in cells) (row_of rows number) → cond b (Some (object_in cells row)) (find (λ (o : Object). o.number == number) (map (object_in cells) rows)) ≡ option_map (object_in cells) (cond b (Some row) (row_of rows number))
    by_test true h = refl
    by_test false h = h

-- where a line that is found lies
pub record LiesIn (row : Row) (start least end number : ℕ) : Type 0 where
  pub from : start ≤ row.start
  pub until : row.start + row.cells ≤ end
  pub above : least ≤ number
  pub is : row.number ≡ number

-- the cells of a table do not end before they begin
pub laid_upwards : (rows : List Row) (start least end fresh : ℕ) → AreLaid start least rows end fresh → start ≤ end
laid_upwards [] start least end fresh laid = omega (arith, laid.0)
laid_upwards (row ∷ rows) start least end fresh laid = omega (arith, laid_upwards rows _ _ end fresh laid.3)

pub found : (rows : List Row) (start least end fresh number : ℕ) (row : Row) → AreLaid start least rows end fresh → row_of rows number ≡ Some row → LiesIn row start least end number
found [] start least end fresh number row laid e = cc
found (first ∷ rows) start least end fresh number row laid e =
    ⊎_elim
    (λ h. let e' : Some first ≡ Some row = rw h.0 at e in let same : first ≡ row = cc in
    subst (λ (x : Row). LiesIn x start least end number) same
    record { from = omega (arith, laid.0); until = omega (arith, laid.0, laid_upwards rows _ _ end fresh laid.3); above = omega (arith, laid.1, h.1); is = h.1 })
    (λ h. let e' : row_of rows number ≡ Some row = rw h.0 at e in let lies = found rows _ _ end fresh number row laid.3 e' in
    record { from = omega (arith, lies.from); until = lies.until; above = omega (arith, lies.above, laid.1); is = lies.is })
    (eqb_tells first.number number)

-- a cell of an object is a cell of the row
slice_index-part : (cells : List ℕ) (start count offset : ℕ) → offset < count → slice_index (take count (drop start cells)) offset ≡ slice_index cells (start + offset)
slice_index-part cells start count offset within =
    get_or-take count (drop start cells) offset 0 within ∙ get_or-drop start cells offset 0

-- the two tests of what was found have the same outcome
tests_same : {A : Type 0} (f : Object → A) (g : ℕ → A) (object : Object) (place : ℕ) (beyond forbidden : Bool) → (beyond ≡ false → f object ≡ g place) → if_passed f (cond beyond (Err OutsideObject) (cond forbidden (Err ReadOnly) (Ok object))) ≡ if_reached g (cond beyond (Err OutsideObject) (cond forbidden (Err ReadOnly) (Ok place)))
tests_same f g object place true forbidden h = refl
tests_same f g object place false true h = refl
tests_same f g object place false false h = ap Ok (h refl)

-- an access to an object that was found has the outcome of the access to its line
same_in : {A : Type 0} (f : Object → A) (g : ℕ → A) (writes : Bool) (cells : List ℕ) (row : Row) (offset : ℕ) → row.start + row.cells ≤ length cells → (offset < row.cells → f (object_in cells row) ≡ g (row.start + offset)) → if_passed f (access_in writes (Some (object_in cells row)) offset) ≡ if_reached g (reach_in writes (Some row) offset)
same_in f g writes cells row offset fits same =
    let len : length (take row.cells (drop row.start cells)) ≡ row.cells = rw (length-take, length-drop) (omega arith) in
    rw len (tests_same f g (object_in cells row) (row.start + offset) (leb row.cells offset) (writes && row.read_only)
    (λ e. same (leb-false row.cells offset e)))

same_at : {A : Type 0} (f : Object → A) (g : ℕ → A) (writes : Bool) (cells : List ℕ) (o : Option Row) (offset : ℕ) → ((row : Row) → o ≡ Some row → (row.start + row.cells ≤ length cells) × (offset < row.cells → f (object_in cells row) ≡ g (row.start + offset))) → if_passed f (access_in writes (option_map (object_in cells) o) offset) ≡ if_reached g (reach_in writes o offset)
same_at f g writes cells None offset h = refl
same_at f g writes cells (Some row) offset h = let k = h row refl in same_in f g writes cells row offset k.0 k.1

-- an access to the list has the outcome of the access to the flat store
pub access_flat : {A : Type 0} (f : Object → A) (g : ℕ → A) (writes : Bool) (budget fresh : ℕ) (rows : List Row) (cells : List ℕ) (pointer : ℕ) → AreLaid 0 0 rows (length cells) fresh → ((row : Row) → row_of rows (object_part pointer) ≡ Some row → offset_part pointer < row.cells → f (object_in cells row) ≡ g (row.start + offset_part pointer)) → if_passed f (access_of writes (flat budget fresh rows cells) pointer) ≡ if_reached g (reach_of writes rows pointer)
access_flat {A} f g writes budget fresh rows cells pointer laid same = by_null (object_part pointer == 0) there
  where
    by_null : (b : Bool) → if_passed f (access_in writes (live_at (flat budget fresh rows cells) (object_part pointer)) (offset_part pointer)) ≡ if_reached g (reach_in writes (row_of rows (object_part pointer)) (offset_part pointer)) → if_passed f (cond b (Err NullPointer) (access_in writes (live_at (flat budget fresh rows cells) (object_part pointer)) (offset_part pointer))) ≡ if_reached g (cond b (Err NullPointer) (reach_in writes (row_of rows (object_part pointer)) (offset_part pointer)))
    by_null true h = refl
    by_null false h = h

    there : if_passed f (access_in writes (live_at (flat budget fresh rows cells) (object_part pointer)) (offset_part pointer)) ≡ if_reached g (reach_in writes (row_of rows (object_part pointer)) (offset_part pointer))
    there = ap (λ (o : Option Object). if_passed f (access_in writes o (offset_part pointer))) (find-map cells rows (object_part pointer)) ∙ same_at f g writes cells (row_of rows (object_part pointer)) (offset_part pointer) (λ row e. ((found rows 0 0 (length cells) fresh _ row laid e).until, same row e))

-- reading
pub load_flat : (budget fresh : ℕ) (rows : List Row) (cells : List ℕ) (pointer : ℕ) → AreLaid 0 0 rows (length cells) fresh → load_of (flat budget fresh rows cells) pointer ≡ if_reached (slice_index cells) (reach_of false rows pointer)
load_flat budget fresh rows cells pointer laid =
    access_flat (λ object. slice_index object.cells (offset_part pointer)) (slice_index cells) false budget fresh rows cells pointer laid
    (λ row e within. slice_index-part cells row.start row.cells (offset_part pointer) within)

-- a part of the row before the place that is written stays
part-before : (cells : List ℕ) (start count place value : ℕ) → start + count ≤ place → take count (drop start (set cells place value)) ≡ take count (drop start cells)
part-before cells start count place value before =
    let e : place ≡ start + (place - start) = omega arith in
    let moved : drop start (set cells place value) ≡ set (drop start cells) (place - start) value =
    ap (λ (k : ℕ). drop start (set cells k value)) e ∙ drop-set-add start cells (place - start) value in
    rw (moved, take-set-le count (drop start cells) (place - start) value (omega arith)) refl

-- the objects behind the place that is written, and not of the number, stay
behind : (rows : List Row) (start least end fresh : ℕ) (cells : List ℕ) (pointer place value : ℕ) → AreLaid start least rows end fresh → object_part pointer < least → place < start → map (written_in pointer value) (map (object_in cells) rows) ≡ map (object_in (set cells place value)) rows
behind [] start least end fresh cells pointer place value laid other before = refl
behind (row ∷ rows) start least end fresh cells pointer place value laid other before =
    let number : eqb row.number (object_part pointer) ≡ false = ne_eqb row.number (object_part pointer) (λ e. absurd (omega (arith, laid.1))) in
    let apart : drop row.start (set cells place value) ≡ drop row.start cells = drop-set-lt row.start cells place value (omega (arith, laid.0)) in
    let rest : map (written_in pointer value) (map (object_in cells) rows) ≡ map (object_in (set cells place value)) rows = behind rows _ _ end fresh cells pointer place value laid.3 (omega (arith, laid.1)) (omega arith) in
    rw (number, apart, rest) refl

-- writing a cell of an object is writing the row
pub written-map : (rows : List Row) (start least end fresh : ℕ) (cells : List ℕ) (pointer value : ℕ) (found_row : Row) → AreLaid start least rows end fresh → row_of rows (object_part pointer) ≡ Some found_row → offset_part pointer < found_row.cells → map (written_in pointer value) (map (object_in cells) rows) ≡ map (object_in (set cells (found_row.start + offset_part pointer) value)) rows
written-map [] start least end fresh cells pointer value found_row laid e within = cc
written-map (row ∷ rows) start least end fresh cells pointer value found_row laid e within =
    ⊎_elim
    (λ h. let e' : Some row ≡ Some found_row = rw h.0 at e in let same : row ≡ found_row = cc in
    here h.0 (rw (← same) at within) ∙ ap (λ (r : Row). map (object_in (set cells (r.start + offset_part pointer) value)) (row ∷ rows)) same)
    (λ h. let e' : row_of rows (object_part pointer) ≡ Some found_row = rw h.0 at e in
    there h.0 (found rows _ _ end fresh _ found_row laid.3 e') (written-map rows _ _ end fresh cells pointer value found_row laid.3 e' within))
    (eqb_tells row.number (object_part pointer))
  where
    here : eqb row.number (object_part pointer) ≡ true → offset_part pointer < row.cells → map (written_in pointer value) (map (object_in cells) (row ∷ rows)) ≡ map (object_in (set cells (row.start + offset_part pointer) value)) (row ∷ rows)
    here number inside =
        let is : row.number ≡ object_part pointer = eqb-true row.number (object_part pointer) number in
        let part : take row.cells (drop row.start (set cells (row.start + offset_part pointer) value)) ≡ set (take row.cells (drop row.start cells)) (offset_part pointer) value =
        ap (take row.cells) (drop-set-add row.start cells (offset_part pointer) value) ∙ take-set-lt row.cells (drop row.start cells) (offset_part pointer) value inside in
        let rest : map (written_in pointer value) (map (object_in cells) rows) ≡ map (object_in (set cells (row.start + offset_part pointer) value)) rows =
        behind rows _ _ end fresh cells pointer (row.start + offset_part pointer) value laid.3 (omega arith) (omega (arith, laid.0)) in
        rw (number, part, rest) refl

    there : eqb row.number (object_part pointer) ≡ false → LiesIn found_row (start + row.cells) (row.number + 1) end (object_part pointer) → map (written_in pointer value) (map (object_in cells) rows) ≡ map (object_in (set cells (found_row.start + offset_part pointer) value)) rows → map (written_in pointer value) (map (object_in cells) (row ∷ rows)) ≡ map (object_in (set cells (found_row.start + offset_part pointer) value)) (row ∷ rows)
    there number lies rest =
        let part : take row.cells (drop row.start (set cells (found_row.start + offset_part pointer) value)) ≡ take row.cells (drop row.start cells) =
        part-before cells row.start row.cells (found_row.start + offset_part pointer) value (omega (arith, lies.from, laid.0)) in
        rw (number, part, rest) refl

-- writing
pub put_flat : (writes : Bool) (budget fresh : ℕ) (rows : List Row) (cells : List ℕ) (pointer value : ℕ) → AreLaid 0 0 rows (length cells) fresh → if_passed (λ _. written (flat budget fresh rows cells) pointer value) (access_of writes (flat budget fresh rows cells) pointer) ≡ if_reached (λ place. flat budget fresh rows (set cells place value)) (reach_of writes rows pointer)
put_flat writes budget fresh rows cells pointer value laid =
    access_flat (λ _. written (flat budget fresh rows cells) pointer value) (λ place. flat budget fresh rows (set cells place value)) writes budget fresh rows cells pointer laid
    (λ row e within. ap (λ (live : List Object). record { budget = budget; fresh = fresh; live = live }) (written-map rows 0 0 (length cells) fresh cells pointer value row laid e within))

-- what is reached is a cell
pub reach-within : (writes : Bool) (rows : List Row) (end fresh pointer : ℕ) → AreLaid 0 0 rows end fresh → IfOk (reach_of writes rows pointer) (λ place. place < end)
reach-within writes rows end fresh pointer laid = by_null (object_part pointer == 0)
  where
    by_tests : (beyond forbidden : Bool) (place : ℕ) → (beyond ≡ false → place < end) → IfOk (cond beyond (Err OutsideObject) (cond forbidden (Err ReadOnly) (Ok place))) (λ p. p < end)
    by_tests true forbidden place h = tt
    by_tests false true place h = tt
    by_tests false false place h = h refl

    by_row : (o : Option Row) → ((row : Row) → o ≡ Some row → row.start + row.cells ≤ end) → IfOk (reach_in writes o (offset_part pointer)) (λ p. p < end)
    by_row None h = tt
    by_row (Some row) h = by_tests (leb row.cells (offset_part pointer)) (writes && row.read_only) _ (λ e. omega (arith, h row refl, leb-false row.cells (offset_part pointer) e))

    by_null : (b : Bool) → IfOk (cond b (Err NullPointer) (reach_in writes (row_of rows (object_part pointer)) (offset_part pointer))) (λ p. p < end)
    by_null true = tt
    by_null false = by_row (row_of rows (object_part pointer)) (λ row e. (found rows 0 0 end fresh _ row laid e).until)

-- the same, of the outcome r of the access to the flat store
pub load_reached : (budget fresh : ℕ) (rows : List Row) (cells : List ℕ) (pointer : ℕ) (r : Result ℕ Trap) → AreLaid 0 0 rows (length cells) fresh → reach_of false rows pointer ≡ r → load_of (flat budget fresh rows cells) pointer ≡ if_reached (slice_index cells) r
load_reached budget fresh rows cells pointer r laid e =
    load_flat budget fresh rows cells pointer laid ∙ ap (if_reached (slice_index cells)) e

pub put_reached : (writes : Bool) (budget fresh : ℕ) (rows : List Row) (cells : List ℕ) (pointer value : ℕ) (r : Result ℕ Trap) → AreLaid 0 0 rows (length cells) fresh → reach_of writes rows pointer ≡ r → if_passed (λ _. written (flat budget fresh rows cells) pointer value) (access_of writes (flat budget fresh rows cells) pointer) ≡ if_reached (λ place. flat budget fresh rows (set cells place value)) r
put_reached writes budget fresh rows cells pointer value r laid e =
    put_flat writes budget fresh rows cells pointer value laid ∙ ap (if_reached (λ place. flat budget fresh rows (set cells place value))) e

pub place-within : (writes : Bool) (rows : List Row) (end fresh pointer place : ℕ) → AreLaid 0 0 rows end fresh → reach_of writes rows pointer ≡ Ok place → place < end
place-within writes rows end fresh pointer place laid e =
    subst (λ (r : Result ℕ Trap). IfOk r (λ p. p < end)) e (reach-within writes rows end fresh pointer laid)

-- the object at the place of a line
slice_get-map : (cells : List ℕ) (rows : List Row) (place : ℕ) (d : Row) → place < length rows → slice_get (map (object_in cells) rows) place ≡ Some (object_in cells (get_or rows place d))
slice_get-map cells [] place d within = absurd (omega arith)
slice_get-map cells (row ∷ rows) zero d within = refl
slice_get-map cells (row ∷ rows) (suc place) d within = slice_get-map cells rows place d (omega arith)

pub live_at-place : (budget fresh : ℕ) (rows : List Row) (cells : List ℕ) (number place : ℕ) (d : Row) → place < length rows → row_of rows number ≡ Some (get_or rows place d) → live_at (flat budget fresh rows cells) number ≡ slice_get (map (object_in cells) rows) place
live_at-place budget fresh rows cells number place d within e =
    find-map cells rows number ∙ ap (option_map (object_in cells)) e ∙ sym (slice_get-map cells rows place d within)

-- a write that passes its tests is made
pub passes : {A : Type 0} (r : Result Object Trap) (x y : A) → if_passed (λ _. x) r ≡ Ok y → if_passed (λ _. x) r ≡ Ok x
passes (Ok object) x y h = refl
passes (Err trap) x y h = absurd (cc)
