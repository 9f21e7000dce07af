-- The end of an object.
use Rattle.std.proofs.Common.{ℕ, ◌+◌, ◌-◌, ◌^◌, ◌<◌, ◌≤◌, ◌≡◌, zero, suc, Bool, true, false, not, List, [], ◌∷◌, ◌++◌, length, map, take, drop, get_or, set, Option, Some, None, cond, eqb, refl, ap, sym, subst, ◌∙◌, add-one, arith}
use Rattle.std.specs.Prelude.{filter, option_map, is_some, ◌==◌, All}
use Rattle.std.proofs.lemmas.List.{length-take, length-take-le, length-drop, length-append, drop-append-le, take-append-le, drop-drop, drop-take, take-take, take_at, take_rest, drop_at, get_or-drop, length-map, drop_more, get_or_at, set_at, append_assoc, map_more}
use Rattle.std.proofs.lemmas.Slice.{take-put_mid}
use borrow.Rule.Slice.PartMut.{post_of}
use Rattle.std.proofs.lemmas.List.Elements.{All-append, All-take, All-drop}
use Rattle.std.proofs.lemmas.Bool.{ne_eqb, eq-eqb}
use Rattle.srmt_base.specs.Objects.{Object, is_live, end_of}
use Rattle.cell_store.specs.declared.table.Row.{Row}
use Rattle.cell_store.specs.Flat.{object_in, AreLaid, IsFlat, row_of, moved_down, without}
use Rattle.cell_store.proofs.Rows.{row_of_at}
use Rattle.cell_store.proofs.Access.{flat, find-map, found, laid_upwards, LiesIn}

-- a turn of a loop that changes each line in place
pub mapped_more : (f : Row → Row) (rows : List Row) (i : ℕ) (d : Row) → i < length rows → set (map f (take i rows) ++ drop i rows) i (f (get_or (map f (take i rows) ++ drop i rows) i d)) ≡ map f (take (i + 1) rows) ++ drop (i + 1) rows
mapped_more f rows i d within =
    let front : length (map f (take i rows)) ≡ i = rw length-map (length-take-le i rows (omega arith)) in
    let next = drop_more rows i d within in
    let item : get_or (map f (take i rows) ++ get_or rows i d ∷ drop (i + 1) rows) i d ≡ get_or rows i d = get_or_at (map f (take i rows)) (get_or rows i d) (drop (i + 1) rows) d i front in
    rw (next, item)
    (set_at (map f (take i rows)) (get_or rows i d) (drop (i + 1) rows) (f (get_or rows i d)) i front
    ∙ (sym (append_assoc (map f (take i rows)) (f (get_or rows i d) ∷ []) (drop (i + 1) rows))
    ∙ ap (λ (front : List Row). front ++ drop (i + 1) rows) (sym (map_more f rows i d within))))

-- where a line lies
lies_at : (rows : List Row) (start least end fresh : ℕ) → AreLaid start least rows end fresh → (d : Row) (k : ℕ) → k < length rows → LiesIn (get_or rows k d) start least end (get_or rows k d).number
lies_at rows start least end fresh laid d k within =
    found rows start least end fresh _ (get_or rows k d) laid (row_of_at rows start least end fresh laid d k _ within refl)

-- lines from a lower number on
from_lower : (rows : List Row) (start least lower end fresh : ℕ) → AreLaid start least rows end fresh → lower ≤ least → AreLaid start lower rows end fresh
from_lower [] start least lower end fresh laid h = (laid.0, omega (arith, laid.1))
from_lower (row ∷ rows) start least lower end fresh laid h = (laid.0, omega (arith, laid.1), laid.2, laid.3)

-- lines whose cells moved down
laid_moved : (rows : List Row) (start count least end fresh : ℕ) → AreLaid (start + count) least rows end fresh → AreLaid start least (map (moved_down count) rows) (end - count) fresh
laid_moved [] start count least end fresh laid = (omega (arith, laid.0), laid.1)
laid_moved (row ∷ rows) start count least end fresh laid =
    let e : start + count + row.cells ≡ start + row.cells + count = omega arith in
    (omega (arith, laid.0), laid.1, laid.2, laid_moved rows (start + row.cells) count _ end fresh (subst (λ (s : ℕ). AreLaid s (row.number + 1) rows end fresh) e laid.3))

-- the table without a line
pub laid_without : (rows : List Row) (start least end fresh : ℕ) (d : Row) (at : ℕ) → AreLaid start least rows end fresh → at < length rows → AreLaid start least (take at rows ++ map (moved_down (get_or rows at d).cells) (drop (suc at) rows)) (end - (get_or rows at d).cells) fresh
laid_without [] start least end fresh d at laid within = absurd (omega arith)
laid_without (row ∷ rows) start least end fresh d zero laid within =
    laid_moved rows start row.cells least end fresh (from_lower rows (start + row.cells) (row.number + 1) least end fresh laid.3 (omega (arith, laid.1)))
laid_without (row ∷ rows) start least end fresh d (suc at) laid within =
    (laid.0, laid.1, laid.2, laid_without rows _ _ end fresh d at laid.3 (omega arith))

-- a part of the row before what is taken out
part-front : (cells : List ℕ) (start count from long : ℕ) → from + long ≤ start → start ≤ length cells → take long (drop from (without cells start count)) ≡ take long (drop from cells)
part-front cells start count from long before fits =
    let len : length (take start cells) ≡ start = length-take-le start cells fits in
    let e : start ≡ from + (start - from) = omega arith in
    let inner : drop from (take start cells) ≡ take (start - from) (drop from cells) =
    ap (λ (s : ℕ). drop from (take s cells)) e ∙ drop-take from (start - from) cells in
    ap (take long) (drop-append-le from (take start cells) (drop (start + count) cells) (omega arith))
    ∙ take-append-le long (drop from (take start cells)) (drop (start + count) cells) (rw length-drop (omega arith))
    ∙ ap (take long) inner ∙ take-take long (start - from) (drop from cells) (omega arith)

-- and behind it
drop-behind : (front back : List ℕ) (n : ℕ) → length front ≤ n → drop n (front ++ back) ≡ drop (n - length front) back
drop-behind [] back n h = let e : n - 0 ≡ n = omega arith in ap (λ (k : ℕ). drop k back) (sym e)
drop-behind (x ∷ front) back zero h = absurd (omega arith)
drop-behind (x ∷ front) back (suc n) h =
    let e : suc n - length (x ∷ front) ≡ n - length front = omega arith in
    rw e (drop-behind front back n (omega arith))

part-back : (cells : List ℕ) (start count from long : ℕ) → start + count ≤ from → start ≤ length cells → take long (drop (from - count) (without cells start count)) ≡ take long (drop from cells)
part-back cells start count from long behind fits =
    let len : length (take start cells) ≡ start = length-take-le start cells fits in
    let e : start + count + (from - count - length (take start cells)) ≡ from = omega arith in
    ap (take long) (drop-behind (take start cells) (drop (start + count) cells) (from - count) (omega arith)
    ∙ drop-drop (from - count - length (take start cells)) (start + count) cells ∙ ap (λ (n : ℕ). drop n cells) e)

-- the objects behind the one that ends
moved-objects : (rows : List Row) (from least end fresh : ℕ) (cells : List ℕ) (start count : ℕ) → AreLaid from least rows end fresh → start + count ≤ from → start ≤ length cells → map (object_in (without cells start count)) (map (moved_down count) rows) ≡ map (object_in cells) rows
moved-objects [] from least end fresh cells start count laid behind fits = refl
moved-objects (row ∷ rows) from least end fresh cells start count laid behind fits =
    let part : take row.cells (drop (row.start - count) (without cells start count)) ≡ take row.cells (drop row.start cells) =
    part-back cells start count row.start row.cells (omega (arith, laid.0)) fits in
    let rest : map (object_in (without cells start count)) (map (moved_down count) rows) ≡ map (object_in cells) rows =
    moved-objects rows _ _ end fresh cells start count laid.3 (omega arith) fits in
    rw (part, rest) refl

-- no object of greater number is the one that ends
others-kept : (rows : List Row) (start least end fresh : ℕ) (cells : List ℕ) (number : ℕ) → AreLaid start least rows end fresh → number < least → filter (λ (object : Object). not (object.number == number)) (map (object_in cells) rows) ≡ map (object_in cells) rows
others-kept [] start least end fresh cells number laid less = refl
others-kept (row ∷ rows) start least end fresh cells number laid less =
    let other : eqb row.number number ≡ false = ne_eqb row.number number (λ e. absurd (omega (arith, laid.1))) in
    let rest : filter (λ (object : Object). not (object.number == number)) (map (object_in cells) rows) ≡ map (object_in cells) rows = others-kept rows _ _ end fresh cells number laid.3 (omega (arith, laid.1)) in
    rw (other, rest) refl

-- the objects without the one that ends
pub objects-without : (rows : List Row) (start least end fresh : ℕ) (cells : List ℕ) (d : Row) (at : ℕ) → AreLaid start least rows end fresh → end ≤ length cells → at < length rows → map (object_in (without cells (get_or rows at d).start (get_or rows at d).cells)) (take at rows ++ map (moved_down (get_or rows at d).cells) (drop (suc at) rows)) ≡ filter (λ (object : Object). not (object.number == (get_or rows at d).number)) (map (object_in cells) rows)
objects-without [] start least end fresh cells d at laid fits within = absurd (omega arith)
objects-without (row ∷ rows) start least end fresh cells d zero laid fits within =
    let this : eqb row.number row.number ≡ true = eq-eqb row.number row.number refl in
    let up = laid_upwards rows _ _ end fresh laid.3 in
    let back : map (object_in (without cells row.start row.cells)) (map (moved_down row.cells) rows) ≡ map (object_in cells) rows =
    moved-objects rows _ _ end fresh cells row.start row.cells laid.3 (omega (arith, laid.0)) (omega (arith, laid.0)) in
    let rest : filter (λ (object : Object). not (object.number == row.number)) (map (object_in cells) rows) ≡ map (object_in cells) rows = others-kept rows _ _ end fresh cells row.number laid.3 (omega arith) in
    rw (this, back, rest) refl
objects-without (row ∷ rows) start least end fresh cells d (suc at) laid fits within =
    let lies = lies_at rows _ _ end fresh laid.3 d at (omega arith) in
    let other : eqb row.number (get_or rows at d).number ≡ false = ne_eqb row.number (get_or rows at d).number (λ e. absurd (omega (arith, lies.above))) in
    let front : take row.cells (drop row.start (without cells (get_or rows at d).start (get_or rows at d).cells)) ≡ take row.cells (drop row.start cells) =
    part-front cells (get_or rows at d).start (get_or rows at d).cells row.start row.cells (omega (arith, laid.0, lies.from)) (omega (arith, lies.until)) in
    let rest = objects-without rows _ _ end fresh cells d at laid.3 fits (omega arith) in
    rw (other, front, rest) refl

-- where no line has the number all objects stay
pub none-filtered : (rows : List Row) (cells : List ℕ) (number : ℕ) → row_of rows number ≡ None → filter (λ (object : Object). not (object.number == number)) (map (object_in cells) rows) ≡ map (object_in cells) rows
none-filtered [] cells number none = refl
none-filtered (row ∷ rows) cells number none = by_test (row.number == number) none (none-filtered rows cells number)
  where
    by_test : (b : Bool) → cond b (Some row) (row_of rows number) ≡ None → (row_of rows number ≡ None → filter (λ (object : Object). not (object.number == number)) (map (object_in cells) rows) ≡ map (object_in cells) rows) → cond (not b) (object_in cells row ∷ filter (λ (object : Object). not (object.number == number)) (map (object_in cells) rows)) (filter (λ (object : Object). not (object.number == number)) (map (object_in cells) rows)) ≡ object_in cells row ∷ map (object_in cells) rows
    by_test true e h = cc
    by_test false e h = ap (λ (rest : List Object). object_in cells row ∷ rest) (h e)

-- whether an object lives is whether its line is there
pub is_live-flat : (budget fresh : ℕ) (rows : List Row) (cells : List ℕ) (number : ℕ) (o : Option Row) → row_of rows number ≡ o → is_live (flat budget fresh rows cells) number ≡ is_some o
is_live-flat budget fresh rows cells number o e =
    ap is_some (find-map cells rows number) ∙ kept_by (row_of rows number) ∙ ap is_some e
  where
    kept_by : (o : Option Row) → is_some (option_map (object_in cells) o) ≡ is_some o
    kept_by None = refl
    kept_by (Some row) = refl

-- where none lives nothing changes
pub end-none : (budget fresh : ℕ) (rows : List Row) (cells : List ℕ) (number : ℕ) → row_of rows number ≡ None → end_of (flat budget fresh rows cells) number ≡ flat budget fresh rows cells
end-none budget fresh rows cells number none =
    ap (λ (live : List Object). record { budget = budget; fresh = fresh; live = live }) (none-filtered rows cells number none)

-- the flat store without an object
pub end-some : (budget fresh : ℕ) (rows : List Row) (cells : List ℕ) (d : Row) (at number : ℕ) → AreLaid 0 0 rows (length cells) fresh → at < length rows → row_of rows number ≡ Some (get_or rows at d) → end_of (flat budget fresh rows cells) number ≡ flat budget fresh (take at rows ++ map (moved_down (get_or rows at d).cells) (drop (at + 1) rows)) (without cells (get_or rows at d).start (get_or rows at d).cells)
end-some budget fresh rows cells d at number laid within e =
    let is : (get_or rows at d).number ≡ number = (found rows 0 0 (length cells) fresh number (get_or rows at d) laid e).is in
    rw (← is, add-one) (ap (λ (live : List Object). record { budget = budget; fresh = fresh; live = live }) (sym (objects-without rows 0 0 (length cells) fresh cells d at laid (omega arith) within)))

-- the invariant without an object
pub flat_without : (budget fresh : ℕ) (rows : List Row) (cells : List ℕ) (row_capacity cell_capacity : ℕ) (d : Row) (at : ℕ) → IsFlat budget fresh rows cells row_capacity cell_capacity → at < length rows → IsFlat budget fresh (take at rows ++ map (moved_down (get_or rows at d).cells) (drop (at + 1) rows)) (without cells (get_or rows at d).start (get_or rows at d).cells) row_capacity cell_capacity
flat_without budget fresh rows cells row_capacity cell_capacity d at flat within =
    let row = get_or rows at d in
    let lies = lies_at rows 0 0 (length cells) fresh flat.laid d at within in
    let len : length (without cells row.start row.cells) ≡ length cells - row.cells =
    rw (length-append, length-take, length-drop) (omega (arith, lies.until)) in
    record {
      laid = rw (len, add-one) (laid_without rows 0 0 (length cells) fresh d at flat.laid within);
      few = rw len (omega (arith, flat.few));
      small = All-append (λ cell. cell < 2 ^ 44) (take row.start cells) (drop (row.start + row.cells) cells)
          (All-take (λ cell. cell < 2 ^ 44) row.start cells flat.small) (All-drop (λ cell. cell < 2 ^ 44) (row.start + row.cells) cells flat.small);
      bounded = flat.bounded;
      row_room = flat.row_room;
      cell_room = flat.cell_room;
    }

-- what ends lies within the cells
pub ends_within : (rows : List Row) (end fresh : ℕ) (d : Row) (at : ℕ) → AreLaid 0 0 rows end fresh → at < length rows → (get_or rows at d).start + (get_or rows at d).cells ≤ end
ends_within rows end fresh d at laid within = (lies_at rows 0 0 end fresh laid d at within).until

-- the cells of a line lie behind those of each line before it
after : (rows : List Row) (start least end fresh : ℕ) → AreLaid start least rows end fresh → (d e : Row) (i j : ℕ) → i < j → j < length rows → (get_or rows i d).start + (get_or rows i d).cells ≤ (get_or rows j e).start
after [] start least end fresh laid d e i j before within = absurd (omega arith)
after (row ∷ rows) start least end fresh laid d e i zero before within = absurd (omega arith)
after (row ∷ rows) start least end fresh laid d e zero (suc j) before within =
    omega (arith, laid.0, (lies_at rows _ _ end fresh laid.3 e j (omega arith)).from)
after (row ∷ rows) start least end fresh laid d e (suc i) (suc j) before within =
    after rows _ _ end fresh laid.3 d e i j (omega arith) (omega arith)

-- so a line that is taken out leaves room for those behind it
pub room_behind : (rows : List Row) (end fresh : ℕ) (d : Row) (at : ℕ) → AreLaid 0 0 rows end fresh → at < length rows → All (λ row. (get_or rows at d).cells ≤ row.start) (drop (at + 1) rows)
room_behind rows end fresh d at laid within = λ k e h.
    rw (get_or-drop (at + 1) rows k e)
    (let len : length (drop (at + 1) rows) ≡ length rows - (at + 1) = length-drop (at + 1) rows in
    let h' = after rows 0 0 end fresh laid d e at (at + 1 + k) (omega arith) (omega (arith, h)) in
    omega (arith, h'))

-- the table after a removal, behind the place
pub drop-removed : (rows xs : List Row) (at : ℕ) → at < length rows → xs ≡ take at rows ++ drop (at + 1) rows → drop at xs ≡ drop (at + 1) rows
drop-removed rows xs at within e = rw e (drop_at (take at rows) (drop (at + 1) rows) at (length-take-le at rows (omega arith)))

pub room_after : (rows xs : List Row) (end fresh at by : ℕ) (row : Row) → AreLaid 0 0 rows end fresh → at < length rows → xs ≡ take at rows ++ drop (at + 1) rows → row ≡ get_or rows at row → by ≡ row.cells → All (λ behind. by ≤ behind.start) (take (length xs - at) (drop at xs))
room_after rows xs end fresh at by row laid within removed is e =
    let cells : by ≡ (get_or rows at row).cells = e ∙ ap (λ (r : Row). r.cells) is in
    rw (take_rest xs at, drop-removed rows xs at within removed, cells) (room_behind rows end fresh row at laid within)

-- a removal, and then a change of all that is behind it
pub took_out : (f : Row → Row) (rows xs ys zs : List Row) (at len : ℕ) → at < length rows → len + 1 ≡ length rows → xs ≡ take at rows ++ drop (at + 1) rows → ys ≡ map f (take (length xs - at) (drop at xs)) → take len (take at xs ++ (ys ++ post_of at (length xs - at) xs) ++ zs) ≡ take at rows ++ map f (drop (at + 1) rows)
took_out f rows xs ys zs at len within long removed changed =
    let front : length (take at rows) ≡ at = length-take-le at rows (omega arith) in
    let all : length xs ≡ len = rw removed (rw (length-append, front, length-drop) (omega arith)) in
    let before : take at xs ≡ take at rows = rw removed (take_at (take at rows) (drop (at + 1) rows) at front) in
    let behind : ys ≡ map f (drop (at + 1) rows) = changed ∙ ap (map f) (take_rest xs at ∙ drop-removed rows xs at within removed) in
    let count : length ys ≡ len - at = rw behind (rw (length-map, length-drop) (omega arith)) in
    let whole : len ≤ length (take at xs ++ (ys ++ post_of at (length xs - at) xs)) = rw (length-append, length-append, before, front) (omega arith) in
    take-append-le len (take at xs ++ (ys ++ post_of at (length xs - at) xs)) zs whole
    ∙ take-put_mid at (length xs - at) xs ys len (omega arith) (omega arith)
    ∙ rw (before, behind) refl

-- the same, of the line that was taken out
pub end-row : (budget fresh : ℕ) (rows : List Row) (cells : List ℕ) (row : Row) (at number : ℕ) → AreLaid 0 0 rows (length cells) fresh → at < length rows → row_of rows number ≡ Some (get_or rows at row) → row ≡ get_or rows at row → end_of (flat budget fresh rows cells) number ≡ flat budget fresh (take at rows ++ map (moved_down row.cells) (drop (at + 1) rows)) (without cells row.start row.cells)
end-row budget fresh rows cells row at number laid within e is =
    rw (← is) at (end-some budget fresh rows cells row at number laid within e)

pub flat_without_row : (budget fresh : ℕ) (rows : List Row) (cells : List ℕ) (row_capacity cell_capacity : ℕ) (row : Row) (at : ℕ) → IsFlat budget fresh rows cells row_capacity cell_capacity → at < length rows → row ≡ get_or rows at row → IsFlat budget fresh (take at rows ++ map (moved_down row.cells) (drop (at + 1) rows)) (without cells row.start row.cells) row_capacity cell_capacity
flat_without_row budget fresh rows cells row_capacity cell_capacity row at flat within is =
    rw (← is) at (flat_without budget fresh rows cells row_capacity cell_capacity row at flat within)

pub row_within : (rows : List Row) (end fresh : ℕ) (row : Row) (at : ℕ) → AreLaid 0 0 rows end fresh → at < length rows → row ≡ get_or rows at row → row.start + row.cells ≤ end
row_within rows end fresh row at laid within is = rw (← is) at (ends_within rows end fresh row at laid within)

-- there is a line less
pub length-without : (rows : List Row) (at : ℕ) (f : Row → Row) → at < length rows → length rows ≤ length (take at rows ++ map f (drop (at + 1) rows)) + 1
length-without rows at f within =
    let front : length (take at rows) ≡ at = length-take-le at rows (omega arith) in
    let back : length (map f (drop (at + 1) rows)) ≡ length rows - (at + 1) = length-map (drop (at + 1) rows) f ∙ length-drop (at + 1) rows in
    let all = length-append (take at rows) (map f (drop (at + 1) rows)) in
    omega (arith, front, back, all)
