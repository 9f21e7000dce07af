-- One step of the pass over open objects: the row comes one place further, and its numbers tell what is wrong.
use Rattle.std.proofs.Common.{inl, inr, ◌≡◌, ◌≢◌, ℕ, suc, ◌+◌, ◌<◌, ◌≤◌, List, [], ◌∷◌, length, Option, Some, None, Bool, true, false, refl, sym, ap, ◌∙◌, subst, arith}
use Rattle.std.specs.Prelude.{nat_lt, not, ◌==◌, ◌&&◌, ◌||◌, if◌then◌else◌, slice_get, slice_index}
use Rattle.std.specs.List.{list_any}
use Rattle.std.specs.Bool.{OnFalse}
use Rattle.std.proofs.lemmas.Option.{slice_get_cases}
use Rattle.std.proofs.lemmas.Bool.{cases_eq, cases_lt, cases_Bool, not-false, eqb-true, ltb-true, eq-eqb, ne_eqb}
use Rattle.mid_code.specs.declared.mid.Mid.{Mid}
use Rattle.mid_code.specs.Ways.{Way, Next, Counts, Begins, Ends, Jumps, Branches, Returns, Stops, way_of}
use Rattle.mid_code.specs.declared.program.MidLine.{MidLine}
use Rattle.mid_code.specs.Flow.{goes_to, way_opened, way_closes_wrongly, open_behind, is_target, open_into, or_else, entered_by, found_at, same_places, has_others, closes_wrongly, enters_wrongly, breaks_order, breaks_order_by}
use Rattle.mid_code.specs.Row.{number_of, Holds, number_behind, number_closes_wrongly, row_after, has_other_number}
use Rattle.mid_code.proofs.Flowing.{same_places-true}
use Rattle.mid_code.proofs.FlowLemmas.{IsStacked, stacked, stacked_behind, entered_after, stays}
use Rattle.mid_code.proofs.RowLemmas.{kept_behind, kept_full, kept_other, filled}

-- a place that is reached has a number that is not 0
pub some_number : (os : List ℕ) → number_of (Some os) ≢ 0
some_number [] e = omega arith
some_number (x ∷ xs) e = omega arith

-- stacked objects are known by the newest
same_numbers : (code : List MidLine) (n m : ℕ) (a b : List ℕ) → IsStacked code n a → IsStacked code m b → number_of (Some a) ≡ number_of (Some b) → a ≡ b
same_numbers code n m [] [] sa sb e = refl
same_numbers code n m [] (y ∷ ys) sa sb e = absurd (omega arith)
same_numbers code n m (x ∷ xs) [] sa sb e = absurd (omega arith)
same_numbers code n m (x ∷ xs) (y ∷ ys) sa sb e =
    let h : x ≡ y = omega arith in
    let one : (x < n) × (found_at code x ≡ Some xs) = sa x xs refl in
    let two : (y < m) × (found_at code y ≡ Some ys) = sb y ys refl in
    let s : Some xs ≡ Some ys = sym one.1 ∙ ap (found_at code) h ∙ two.1 in
    let r : xs ≡ ys = cc in
    ap (λ z. z ∷ xs) h ∙ ap (λ zs. y ∷ zs) r

pub same_refl : (a : List ℕ) → same_places a a ≡ true
same_refl [] = refl
same_refl (x ∷ xs) = ap (λ b. b && same_places xs xs) (eq-eqb x x refl) ∙ same_refl xs

-- a place has other open objects exactly where it has another number
others_found : (code : List MidLine) (n m : ℕ) (found left : List ℕ) → IsStacked code n found → IsStacked code m left → has_others (Some found) left ≡ not (number_of (Some found) == number_of (Some left))
others_found code n m found left sf sl =
    elim (cases_Bool (same_places found left)) [
      | inl is_same ↦
          let e : number_of (Some found) ≡ number_of (Some left) = ap (λ os. number_of (Some os)) (same_places-true found left is_same) in
          ap not is_same ∙ sym (ap not (eq-eqb (number_of (Some found)) (number_of (Some left)) e))
      | inr is_other ↦
          let differ : number_of (Some found) ≢ number_of (Some left) = λ e.
          let same : found ≡ left = same_numbers code n m found left sf sl e in
          let is_same : same_places found left ≡ true = subst (λ os. same_places found os ≡ true) same (same_refl found) in
          cc in
          ap not is_other ∙ sym (ap not (ne_eqb (number_of (Some found)) (number_of (Some left)) differ))
    ]

others_number : (code : List MidLine) (n m : ℕ) (state : Option (List ℕ)) (left : List ℕ) → ((os : List ℕ) → state ≡ Some os → IsStacked code n os) → IsStacked code m left → has_others state left ≡ not (number_of state == number_of (Some left))
others_number code n m None left sf sl = sym (ap not (ne_eqb 0 (number_of (Some left)) (λ e. some_number left (sym e))))
others_number code n m (Some found) left sf sl = others_found code n m found left (sf found refl) sl

-- closing wrongly, by numbers
shifted : (a b : ℕ) → (a + 2 == b + 2) ≡ (a == b)
shifted a b =
    elim (cases_eq a b) [
      | inl same ↦ eq-eqb (a + 2) (b + 2) (omega arith) ∙ sym (eq-eqb a b same)
      | inr other ↦ ne_eqb (a + 2) (b + 2) (λ e. other (omega arith)) ∙ sym (ne_eqb a b other)
    ]

pub closes_number : (way : Way) (found : List ℕ) → number_closes_wrongly way (number_of (Some found)) ≡ way_closes_wrongly way found
closes_number Next found = refl
closes_number Counts found = refl
closes_number Begins found = refl
closes_number (Ends begun) [] = ap not (ne_eqb 1 (begun + 2) (λ e. omega arith))
closes_number (Ends begun) (newest ∷ rest) = ap not (shifted newest begun)
closes_number (Jumps target) found = refl
closes_number (Branches target) found = refl
closes_number Returns [] = refl
closes_number Returns (newest ∷ rest) = ap not (ne_eqb (newest + 2) 1 (λ e. omega arith))
closes_number Stops found = refl

-- what is left, by numbers
left_close : (row : List ℕ) (code : List MidLine) (p begun newest : ℕ) (r : List ℕ) → Holds row code p → p < length code → found_at code p ≡ Some (newest ∷ r) → newest ≡ begun → slice_index row begun ≡ number_of (Some r)
left_close row code p begun newest r holds within here same =
    let one : (newest < p) × (found_at code newest ≡ Some r) = stacked code p p (newest ∷ r) here newest r refl in
    let before : begun < p = omega (arith, one.0) in
    holds.behind begun before (omega arith) ∙ ap (λ n. number_of (found_at code n)) (sym same) ∙ ap number_of one.1

numbers_behind : (row : List ℕ) (code : List MidLine) (p : ℕ) (way : Way) (found : List ℕ) → Holds row code p → p < length code → found_at code p ≡ Some found → way_closes_wrongly way found ≡ false → number_behind row p way (number_of (Some found)) ≡ number_of (Some (way_opened p way found))
numbers_behind row code p Next found holds within here right = refl
numbers_behind row code p Counts found holds within here right = refl
numbers_behind row code p Begins found holds within here right = refl
numbers_behind row code p (Ends begun) [] holds within here right = absurd (cc)
numbers_behind row code p (Ends begun) (newest ∷ r) holds within here right =
    let closes : (newest == begun) ≡ true = not-false (newest == begun) right in
    left_close row code p begun newest r holds within here (eqb-true newest begun closes) ∙ ap (λ b. number_of (Some (if b then r else newest ∷ r))) (sym closes)
numbers_behind row code p (Jumps target) found holds within here right = refl
numbers_behind row code p (Branches target) found holds within here right = refl
numbers_behind row code p Returns found holds within here right = refl
numbers_behind row code p Stops found holds within here right = refl

-- a place that is not reached changes nothing
quiet : (first : Option (List ℕ)) (line : Option MidLine) (p t : ℕ) → or_else first (open_into t p None line) ≡ first
quiet None line p t = refl
quiet (Some os) line p t = refl

behind_next : (row : List ℕ) (code : List MidLine) (p : ℕ) → Holds row code p → (t : ℕ) → t < suc p → t < length code → slice_index row t ≡ number_of (found_at code t)
behind_next row code p holds t before within =
    elim (cases_lt t p) [
      | inl more ↦ holds.behind t more within
      | inr past ↦ let e : p ≡ t = omega arith in subst (λ n. slice_index row n ≡ number_of (found_at code n)) e (holds.ahead p (omega arith) (omega arith))
    ]

pub next_quiet : (row : List ℕ) (code : List MidLine) (p : ℕ) → Holds row code p → found_at code p ≡ None → Holds row code (suc p)
unfolding entered_by
next_quiet row code p holds none = record {
  behind = behind_next row code p holds;
  ahead = λ t past within.
      holds.ahead t (omega arith) within
      ∙ ap number_of (sym (ap (λ state. or_else (entered_by code p t) (open_into t p state (slice_get code p))) none ∙ quiet (entered_by code p t) (slice_get code p) p t));
}

-- the row after the entries of an instruction
module _ (row : List ℕ) (code : List MidLine) (p left : ℕ) (l : MidLine) (found : List ℕ) where
  abbrev next_row : List ℕ
  next_row = row_after (length code) p left (goes_to p l.mid) row

  chosen : (t : ℕ) (goes : Bool) → left ≡ number_of (Some (open_behind p l.mid found)) → length code ≤ length row → p < t → t < length code → slice_index row t ≡ 0 → is_target p l.mid t ≡ goes →
      slice_index next_row t ≡ number_of (if goes then Some (open_behind p l.mid found) else None)
  chosen t true leave room past within empty goes =
      filled (length code) p left (goes_to p l.mid) row t (λ e. some_number (open_behind p l.mid found) (sym leave ∙ e)) past within room empty goes ∙ leave
  chosen t false leave room past within empty goes = kept_other (length code) p left (goes_to p l.mid) row t goes ∙ empty

  ahead_by : (t : ℕ) (first : Option (List ℕ)) → left ≡ number_of (Some (open_behind p l.mid found)) → length code ≤ length row → p < t → t < length code → slice_index row t ≡ number_of first →
      slice_index next_row t ≡ number_of (or_else first (open_into t p (Some found) (Some l)))
  ahead_by t None leave room past within known = chosen t (is_target p l.mid t) leave room past within known refl
  ahead_by t (Some os) leave room past within known = kept_full (length code) p left (goes_to p l.mid) row t (λ e. some_number os (sym known ∙ e)) ∙ known

  pub next_entered : Holds row code p → left ≡ number_of (Some (open_behind p l.mid found)) → length code ≤ length row → found_at code p ≡ Some found → slice_get code p ≡ Some l → Holds next_row code (suc p)
  unfolding entered_by
  next_entered holds leave room here at = record {
    behind = λ t before within. kept_behind (length code) p left (goes_to p l.mid) row t (omega arith) ∙ behind_next row code p holds t before within;
    ahead = λ t past within.
        ahead_by t (entered_by code p t) leave room (omega arith) within (holds.ahead t (omega arith) within)
        ∙ ap number_of (sym (ap (λ state. or_else (entered_by code p t) (open_into t p state (slice_get code p))) here ∙ ap (λ line. or_else (entered_by code p t) (open_into t p (Some found) line)) at));
  }

  -- a place that the instruction enters has its own number by now
  settled : (t : ℕ) → Holds next_row code (suc p) → found_at code p ≡ Some found → slice_get code p ≡ Some l → is_target p l.mid t ≡ true → t < length code → slice_index next_row t ≡ number_of (found_at code t)
  settled t next here at goes within =
      elim (cases_lt t (suc p)) [
        | inl before ↦ next.behind t before within
        | inr past ↦
            let after = entered_after code p t l found here at goes in
            next.ahead t past within ∙ ap number_of (after.1 ∙ sym (stays code (suc p) t t after.0 past after.1))
      ]

  other_at : (t : ℕ) (inside : Bool) → nat_lt t (length code) ≡ inside → Holds next_row code (suc p) → left ≡ number_of (Some (open_behind p l.mid found)) → found_at code p ≡ Some found → slice_get code p ≡ Some l → is_target p l.mid t ≡ true →
      (inside && not (slice_index next_row t == left)) ≡ (inside && has_others (found_at code t) (open_behind p l.mid found))
  other_at t false at_end next leave here at goes = refl
  other_at t true inside next leave here at goes =
      let known : slice_index next_row t ≡ number_of (found_at code t) = settled t next here at goes (ltb-true t (length code) inside) in
      ap (λ n. not (n == left)) known ∙ ap (λ n. not (number_of (found_at code t) == n)) leave
      ∙ sym (others_number code t (suc p) (found_at code t) (open_behind p l.mid found) (λ os h. stacked code t t os h) (stacked_behind code p l.mid found here))

-- two tests of each element are the same
any_same : (f g : ℕ → Bool) (ts : List ℕ) → ((t : ℕ) → list_any (λ n. n == t) ts ≡ true → f t ≡ g t) → list_any f ts ≡ list_any g ts
any_same f g [] h = refl
any_same f g (x ∷ xs) h =
    let first : f x ≡ g x = h x (ap (λ b. b || list_any (λ n. n == x) xs) (eq-eqb x x refl)) in
    let rest : list_any f xs ≡ list_any g xs = any_same f g xs (λ t among. h t (or_last (x == t) (list_any (λ n. n == t) xs) among)) in
    ap (λ b. b || list_any f xs) first ∙ ap (λ b. g x || b) rest
  where
    or_last : (a b : Bool) → b ≡ true → (a || b) ≡ true
    or_last true b e = refl
    or_last false b e = e

pub enters_number : (row : List ℕ) (code : List MidLine) (p left : ℕ) (l : MidLine) (found : List ℕ) → Holds (row_after (length code) p left (goes_to p l.mid) row) code (suc p) → left ≡ number_of (Some (open_behind p l.mid found)) → found_at code p ≡ Some found → slice_get code p ≡ Some l →
    list_any (λ t. has_other_number (length code) left (row_after (length code) p left (goes_to p l.mid) row) t) (goes_to p l.mid) ≡ enters_wrongly code p l.mid found
enters_number row code p left l found next leave here at =
    any_same (λ t. has_other_number (length code) left (row_after (length code) p left (goes_to p l.mid) row) t)
    (λ t. nat_lt t (length code) && has_others (found_at code t) (open_behind p l.mid found)) (goes_to p l.mid)
    (λ t among. other_at row code p left l found t (nat_lt t (length code)) refl next leave here at among)

-- what the number of a place tells
none_number : (state : Option (List ℕ)) → number_of state ≡ 0 → state ≡ None
none_number None h = refl
none_number (Some os) h = absurd (some_number os h)

pub unreached : (row : List ℕ) (code : List MidLine) (p : ℕ) → Holds row code p → p < length code → slice_index row p ≡ 0 → found_at code p ≡ None
unreached row code p holds within empty = none_number (found_at code p) (sym (holds.ahead p (omega arith) within) ∙ empty)

found_by : (state : Option (List ℕ)) → number_of state ≢ 0 → (found : List ℕ) × (state ≡ Some found)
found_by None some = absurd (some refl)
found_by (Some os) some = (os, refl)

pub reached : (row : List ℕ) (code : List MidLine) (p : ℕ) → Holds row code p → p < length code → slice_index row p ≢ 0 → (found : List ℕ) × (found_at code p ≡ Some found)
reached row code p holds within some = found_by (found_at code p) (λ e. some (holds.ahead p (omega arith) within ∙ e))

pub known_here : (row : List ℕ) (code : List MidLine) (p : ℕ) (found : List ℕ) → Holds row code p → p < length code → found_at code p ≡ Some found → slice_index row p ≡ number_of (Some found)
known_here row code p found holds within here = holds.ahead p (omega arith) within ∙ ap number_of here

-- what the step answers
pub answer_quiet : (code : List MidLine) (p : ℕ) (mid : Mid) → found_at code p ≡ None → false ≡ breaks_order code p mid
unfolding breaks_order
answer_quiet code p mid none = sym (ap (breaks_order_by code p mid) none)

pub answer_closes : (row : List ℕ) (code : List MidLine) (p : ℕ) (mid : Mid) → Holds row code p → p < length code → slice_index row p ≢ 0 → number_closes_wrongly (way_of mid) (slice_index row p) ≡ true → true ≡ breaks_order code p mid
unfolding breaks_order
answer_closes row code p mid holds within some wrong =
    let there = reached row code p holds within some in
    let closes : closes_wrongly mid there.0 ≡ true = sym (closes_number (way_of mid) there.0) ∙ ap (number_closes_wrongly (way_of mid)) (sym (known_here row code p there.0 holds within there.1)) ∙ wrong in
    sym (ap (breaks_order_by code p mid) there.1 ∙ ap (λ b. b || enters_wrongly code p mid there.0) closes)

-- and where the row has come then
module _ (row : List ℕ) (code : List MidLine) (p left : ℕ) (l : MidLine) where
  abbrev passed_row : List ℕ
  passed_row = row_after (length code) p left (goes_to p l.mid) row

  leave_right : Holds row code p → p < length code → (found : List ℕ) → found_at code p ≡ Some found → number_closes_wrongly (way_of l.mid) (slice_index row p) ≡ false → left ≡ number_behind row p (way_of l.mid) (slice_index row p) → left ≡ number_of (Some (open_behind p l.mid found))
  leave_right holds within found here right is_left =
      let known = known_here row code p found holds within here in
      let closes : closes_wrongly l.mid found ≡ false = sym (closes_number (way_of l.mid) found) ∙ ap (number_closes_wrongly (way_of l.mid)) (sym known) ∙ right in
      is_left ∙ ap (number_behind row p (way_of l.mid)) known ∙ numbers_behind row code p (way_of l.mid) found holds within here closes

  pub next_passed : Holds row code p → p < length code → length code ≤ length row → slice_get code p ≡ Some l → slice_index row p ≢ 0 → number_closes_wrongly (way_of l.mid) (slice_index row p) ≡ false → left ≡ number_behind row p (way_of l.mid) (slice_index row p) → Holds passed_row code (suc p)
  next_passed holds within room at some right is_left =
      let there = reached row code p holds within some in
      next_entered row code p left l there.0 holds (leave_right holds within there.0 there.1 right is_left) room there.1 at

  pub answer_enters : Holds row code p → p < length code → length code ≤ length row → slice_get code p ≡ Some l → slice_index row p ≢ 0 → number_closes_wrongly (way_of l.mid) (slice_index row p) ≡ false → left ≡ number_behind row p (way_of l.mid) (slice_index row p) →
      list_any (λ t. has_other_number (length code) left passed_row t) (goes_to p l.mid) ≡ breaks_order code p l.mid
  unfolding breaks_order
  answer_enters holds within room at some right is_left =
      let there = reached row code p holds within some in
      let known = known_here row code p there.0 holds within there.1 in
      let closes : closes_wrongly l.mid there.0 ≡ false = sym (closes_number (way_of l.mid) there.0) ∙ ap (number_closes_wrongly (way_of l.mid)) (sym known) ∙ right in
      enters_number row code p left l there.0 (next_passed holds within room at some right is_left) (leave_right holds within there.0 there.1 right is_left) there.1 at
      ∙ sym (ap (breaks_order_by code p l.mid) there.1 ∙ ap (λ b. b || enters_wrongly code p l.mid there.0) closes)

pub on_false : {P : Type 0} (b : Bool) → P → OnFalse b P
on_false true p = tt
on_false false p = p

-- there is an instruction at each place within
pub line_there : (code : List MidLine) (place : ℕ) → place < length code → (l : MidLine) × (slice_get code place ≡ Some l)
line_there code place within =
    elim (slice_get_cases code place).1 as (λ _. (l : _) × (slice_get code place ≡ Some l)) [
      | inl found ↦ (found.0, found.2)
      | inr past ↦ absurd (omega (arith, past.0))
    ]
