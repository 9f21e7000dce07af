-- Versions, instruction by instruction and function by function.
use Rattle.std.proofs.Common.{◌≡◌, ℕ, zero, suc, ◌+◌, ◌<◌, ◌≤◌, List, [], ◌∷◌, ◌++◌, length, drop, Some, sym, ap, ◌∙◌, arith, inl, inr, get_or}
use Rattle.std.specs.Prelude.{slice_get, slice_index, ◌^◌}
use Rattle.std.proofs.Math.ListN.{get_or-append}
use Rattle.std.proofs.Math.Seq.{drop-cons}
use Rattle.std.proofs.lemmas.List.{get_or_push}
use Rattle.std.proofs.lemmas.Bool.{cases_lt}
use Rattle.std.proofs.lemmas.Option.{slice_get-get_or, slice_get_within, get_or_from_slice_get}
use Rattle.mid_code.specs.declared.class.Class.{Class}
use Rattle.mid_code.specs.declared.program.MidLine.{MidLine}
use Rattle.mid_code.specs.declared.program.MidFunction.{MidFunction}
use Rattle.mid_code.specs.Versions.{Table, with_line, size_of, place_in, group_of, groups_from, version_of, versions_from}
use Rattle.mid_code.proofs.VersionGroups.{IsSized, few_size, place_in-next, place_in-few}

-- what is left begins with the item at its place
pub left_from : {X : Type 0} (xs : List X) (i : ℕ) (x : X) → slice_get xs i ≡ Some x → drop i xs ≡ x ∷ drop (i + 1) xs
left_from xs i x at =
    let next : suc i ≡ i + 1 = omega arith in
    drop-cons xs i x (slice_get_within xs i x at) ∙ ap (λ y. y ∷ drop (suc i) xs) (get_or_from_slice_get xs i x x at) ∙ ap (λ n. x ∷ drop n xs) next

pub item_at : {X : Type 0} (xs : List X) (i : ℕ) (x : X) → i < length xs → x ≡ get_or xs i x → slice_get xs i ≡ Some x
item_at xs i x within is = slice_get-get_or xs i x within ∙ ap Some (sym is)

-- the place of a group is never behind that of a later one
pub place_in-rises : (table : Table) (cs : List Class) (code : List MidLine) (place further : ℕ) → place ≤ further → place_in table cs code place ≤ place_in table cs code further
place_in-rises table cs code zero further order = omega arith
place_in-rises table [] code (suc p) zero order = absurd (omega (arith, order))
place_in-rises table [] code (suc p) (suc q) order = omega arith
place_in-rises table (c ∷ cs) [] (suc p) zero order = absurd (omega (arith, order))
place_in-rises table (c ∷ cs) [] (suc p) (suc q) order = omega arith
place_in-rises table (c ∷ cs) (l ∷ ls) (suc p) zero order = absurd (omega (arith, order))
place_in-rises table (c ∷ cs) (l ∷ ls) (suc p) (suc q) order = omega (arith, place_in-rises table cs ls p q (omega (arith, order)))

module _ (table : Table) (cs : List Class) (code : List MidLine) (i : ℕ) (c : Class) (l : MidLine)
    (at_class : slice_get cs i ≡ Some c) (at : slice_get code i ≡ Some l) where
  pub next_place : place_in table cs code (i + 1) ≡ place_in table cs code i + size_of table c l.mid
  next_place = place_in-next table cs code i c l at_class at

  -- a place of 32 bits
  pub small_place : IsSized table → i < 65535 → place_in table cs code i + size_of table c l.mid < 2 ^ 32
  small_place sized within = omega (arith, place_in-few table cs code i sized, few_size table c l.mid sized)

  -- the end of its group is no further than the end of all
  pub room_left : place_in table cs code i + size_of table c l.mid ≤ place_in table cs code (length code)
  room_left =
      let within : i < length code = slice_get_within code i l at in
      omega (arith, next_place, place_in-rises table cs code (i + 1) (length code) (omega arith))

  pub groups_left : (moved : ℕ → ℕ) → groups_from table moved i (drop i cs) (drop i code)
      ≡ with_line l.line (group_of table moved i c l.mid) ++ groups_from table moved (i + 1) (drop (i + 1) cs) (drop (i + 1) code)
  groups_left moved =
      ap (λ ds. groups_from table moved i ds (drop i code)) (left_from cs i c at_class)
      ∙ ap (groups_from table moved i (c ∷ drop (i + 1) cs)) (left_from code i l at)

-- the row of places with one more
pub more_starts : (table : Table) (cs : List Class) (code : List MidLine) (starts : List ℕ) (i start : ℕ) → length starts ≡ i + 1 →
    ((place : ℕ) → place ≤ i → slice_index starts place ≡ place_in table cs code place) → start ≡ place_in table cs code (i + 1) →
    (place : ℕ) → place ≤ i + 1 → slice_index (starts ++ start ∷ []) place ≡ place_in table cs code place
more_starts table cs code starts i start count each is place below =
    elim (cases_lt place (length starts)) as (λ _. slice_index (starts ++ start ∷ []) place ≡ place_in table cs code place) [
      | inl before ↦ get_or-append starts (start ∷ []) 0 place before ∙ each place (omega (arith, count))
      | inr past ↦
          let last : length starts ≡ place = omega (arith, count) in
          let same : i + 1 ≡ place = omega (arith, count) in
          get_or_push starts start 0 place last ∙ is ∙ ap (place_in table cs code) same
    ]

pub versions_left : (table : Table) (rows : List (List Class)) (fs : List MidFunction) (i : ℕ) (cs : List Class) (f : MidFunction) →
    slice_get rows i ≡ Some cs → slice_get fs i ≡ Some f →
    versions_from table (drop i rows) (drop i fs) ≡ version_of table cs f ∷ versions_from table (drop (i + 1) rows) (drop (i + 1) fs)
versions_left table rows fs i cs f at_row at =
    ap (λ ds. versions_from table ds (drop i fs)) (left_from rows i cs at_row)
    ∙ ap (versions_from table (cs ∷ drop (i + 1) rows)) (left_from fs i f at)
