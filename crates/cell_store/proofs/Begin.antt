-- A new object behind all others.
use Rattle.std.proofs.Common.{ℕ, ◌+◌, ◌-◌, ◌^◌, ◌<◌, ◌≤◌, ◌≡◌, Bool, true, false, ◌||◌, List, [], ◌∷◌, ◌++◌, length, map, take, drop, replicate, Ok, Err, cond, ltb, refl, ap, sym, subst, ◌∙◌, ◌⊎◌, ⊎_elim, arith}
use Rattle.std.specs.Prelude.{sum_by}
use Rattle.std.proofs.lemmas.List.{length-take, length-drop, length-append, length-replicate, drop-append-le, take-append-le, drop_at, take_all, map_push, length_push}
use Rattle.std.proofs.lemmas.List.Elements.{All-append, All-replicate}
use Rattle.std.proofs.lemmas.List.Sums.{sum_by-cons}
use Rattle.std.proofs.lemmas.Bool.{lt-ltb, le-ltb}
use Rattle.srmt_base.specs.declared.trap.Trap.TheVariants.{Store}
use Rattle.srmt_base.specs.Objects.{Object, Objects, live_cells, add_of, begun}
use Rattle.cell_store.specs.declared.table.Row.{Row}
use Rattle.cell_store.specs.Flat.{object_in, AreLaid, IsFlat}
use Rattle.cell_store.proofs.Access.{flat, laid_upwards}

-- the cells of the objects are the cells of the row
pub sum-cells : (rows : List Row) (start least end fresh : ℕ) (cells : List ℕ) → AreLaid start least rows end fresh → end ≤ length cells → start + sum_by (λ (object : Object). length object.cells) (map (object_in cells) rows) ≡ end
sum-cells [] start least end fresh cells laid fits = omega (arith, laid.0)
sum-cells (row ∷ rows) start least end fresh cells laid fits =
    let rest = sum-cells rows _ _ end fresh cells laid.3 fits in
    let up = laid_upwards rows _ _ end fresh laid.3 in
    let len : length (take row.cells (drop row.start cells)) ≡ row.cells = rw (length-take, length-drop) (omega (arith, laid.0)) in
    rw sum_by-cons (omega (arith, rest, len))

pub live_cells-flat : (budget fresh : ℕ) (rows : List Row) (cells : List ℕ) → AreLaid 0 0 rows (length cells) fresh → live_cells (flat budget fresh rows cells) ≡ length cells
live_cells-flat budget fresh rows cells laid = omega (arith, sum-cells rows 0 0 (length cells) fresh cells laid (omega arith))

-- there are no more objects than cells
pub few_rows : (rows : List Row) (start least end fresh : ℕ) → AreLaid start least rows end fresh → start + length rows ≤ end
few_rows [] start least end fresh laid = omega (arith, laid.0)
few_rows (row ∷ rows) start least end fresh laid = omega (arith, laid.2, few_rows rows _ _ end fresh laid.3)

-- one line more
pub laid_push : (rows : List Row) (start least end fresh : ℕ) (row : Row) → AreLaid start least rows end fresh → row.start ≡ end → fresh ≤ row.number → 1 ≤ row.cells → AreLaid start least (rows ++ row ∷ []) (end + row.cells) (row.number + 1)
laid_push [] start least end fresh row laid from above some =
    (omega (arith, laid.0), omega (arith, laid.1), some, (omega (arith, laid.0), omega arith))
laid_push (first ∷ rows) start least end fresh row laid from above some =
    (laid.0, laid.1, laid.2, laid_push rows _ _ end fresh row laid.3 from above some)

-- the objects that were there stay
kept : (rows : List Row) (start least end fresh : ℕ) (cells more : List ℕ) → AreLaid start least rows end fresh → end ≤ length cells → map (object_in (cells ++ more)) rows ≡ map (object_in cells) rows
kept [] start least end fresh cells more laid fits = refl
kept (row ∷ rows) start least end fresh cells more laid fits =
    let up = laid_upwards rows _ _ end fresh laid.3 in
    let part : take row.cells (drop row.start (cells ++ more)) ≡ take row.cells (drop row.start cells) =
    ap (take row.cells) (drop-append-le row.start cells more (omega (arith, laid.0)))
    ∙ take-append-le row.cells (drop row.start cells) more (rw length-drop (omega (arith, laid.0))) in
    let rest : map (object_in (cells ++ more)) rows ≡ map (object_in cells) rows = kept rows _ _ end fresh cells more laid.3 fits in
    rw (part, rest) refl

-- the line of a new object
abbrev pub new_row : ℕ → ℕ → ℕ → Bool → Row
new_row number start cells read_only = record { number = number; start = start; cells = cells; read_only = read_only }

pub begun-flat : (budget fresh : ℕ) (rows : List Row) (cells : List ℕ) (number count : ℕ) (read_only : Bool) → AreLaid 0 0 rows (length cells) fresh → begun (flat budget fresh rows cells) number count read_only ≡ flat budget (number + 1) (rows ++ new_row number (length cells) count read_only ∷ []) (cells ++ replicate count 0)
begun-flat budget fresh rows cells number count read_only laid =
    let row = new_row number (length cells) count read_only in
    let zeros : take count (drop (length cells) (cells ++ replicate count 0)) ≡ replicate count 0 =
    ap (take count) (drop_at cells (replicate count 0) (length cells) refl) ∙ take_all count (replicate count 0) (rw length-replicate (omega arith)) in
    let all : map (object_in (cells ++ replicate count 0)) (rows ++ row ∷ []) ≡ map (object_in cells) rows ++ record { number = number; cells = replicate count 0; read_only = read_only } ∷ [] =
    map_push (object_in (cells ++ replicate count 0)) rows row ∙ rw (zeros, kept rows 0 0 (length cells) fresh cells (replicate count 0) laid (omega arith)) refl in
    ap (λ (live : List Object). record { budget = budget; fresh = number + 1; live = live }) (sym all)

pub add-ok : (budget fresh : ℕ) (rows : List Row) (cells : List ℕ) (number count : ℕ) (read_only : Bool) → AreLaid 0 0 rows (length cells) fresh → fresh ≤ number → length cells + count ≤ budget → add_of (flat budget fresh rows cells) number count read_only ≡ Ok (flat budget (number + 1) (rows ++ new_row number (length cells) count read_only ∷ []) (cells ++ replicate count 0))
add-ok budget fresh rows cells number count read_only laid above fits =
    let all = live_cells-flat budget fresh rows cells laid in
    let a : ltb number fresh ≡ false = le-ltb number fresh above in
    let b : ltb budget (live_cells (flat budget fresh rows cells) + count) ≡ false = le-ltb budget _ (omega arith) in
    rw (a, b) (ap Ok (begun-flat budget fresh rows cells number count read_only laid))

pub add-err : (budget fresh : ℕ) (rows : List Row) (cells : List ℕ) (number count : ℕ) (read_only : Bool) → AreLaid 0 0 rows (length cells) fresh → (number < fresh) ⊎ (budget < length cells + count) → add_of (flat budget fresh rows cells) number count read_only ≡ Err Store
add-err budget fresh rows cells number count read_only laid h =
    let all = live_cells-flat budget fresh rows cells laid in
    ⊎_elim
    (λ low. let a : ltb number fresh ≡ true = lt-ltb number fresh low in rw a refl)
    (λ full. let b : ltb budget (live_cells (flat budget fresh rows cells) + count) ≡ true = lt-ltb budget _ (omega arith) in rw b (either (ltb number fresh)))
    h
  where
    either : (b : Bool) → cond (b || true) (Err Store) (Ok (begun (flat budget fresh rows cells) number count read_only)) ≡ Err Store
    either true = refl
    either false = refl

-- what `resize` makes of the row is the row and zeros
pub resized : (cells : List ℕ) (len used count : ℕ) → length cells ≡ len → used ≡ len → take (used + count) cells ++ replicate (used + count - len) 0 ≡ cells ++ replicate count 0
resized cells len used count a b =
    let e : used + count - len ≡ count = omega arith in
    rw (e, take_all (used + count) cells (omega arith)) refl

-- the invariant with a new object
pub flat_begun : (budget fresh : ℕ) (rows : List Row) (cells : List ℕ) (row_capacity cell_capacity new_row_capacity new_cell_capacity number count : ℕ) (read_only : Bool) → IsFlat budget fresh rows cells row_capacity cell_capacity → fresh ≤ number → 1 ≤ count → length cells + count ≤ budget → row_capacity ≤ new_row_capacity → cell_capacity ≤ new_cell_capacity → IsFlat budget (number + 1) (rows ++ new_row number (length cells) count read_only ∷ []) (cells ++ replicate count 0) new_row_capacity new_cell_capacity
flat_begun budget fresh rows cells row_capacity cell_capacity new_row_capacity new_cell_capacity number count read_only flat above some fits more_rows more_cells =
    let len : length (cells ++ replicate count 0) ≡ length cells + count = rw (length-append, length-replicate) refl in
    record {
      laid = rw len (laid_push rows 0 0 (length cells) fresh (new_row number (length cells) count read_only) flat.laid refl above some);
      few = rw len fits;
      small = All-append (λ cell. cell < 2 ^ 44) cells (replicate count 0) flat.small (All-replicate (λ cell. cell < 2 ^ 44) count 0 (omega arith));
      bounded = flat.bounded;
      row_room = omega (arith, flat.row_room);
      cell_room = omega (arith, flat.cell_room);
    }

-- one object more
pub length-added : (old new : Objects) (number cells : ℕ) (read_only : Bool) → add_of old number cells read_only ≡ Ok new → length new.live ≡ length old.live + 1
length-added old new number cells read_only e = by_test (ltb number old.fresh || ltb old.budget (live_cells old + cells)) e
  where
    by_test : (b : Bool) → cond b (Err Store) (Ok (begun old number cells read_only)) ≡ Ok new → length new.live ≡ length old.live + 1
    by_test true e = cc
    by_test false e = let is : begun old number cells read_only ≡ new = cc in subst (λ (s : Objects). length s.live ≡ length old.live + 1) is (length_push old.live _)
