-- What entries do to the row.
use Rattle.std.proofs.Common.{inl, inr, ◌≡◌, ◌≢◌, ℕ, ◌<◌, ◌≤◌, List, [], ◌∷◌, length, Bool, true, false, refl, sym, ap, ◌∙◌, subst, arith}
use Rattle.std.specs.Prelude.{nat_lt, ◌==◌, ◌&&◌, ◌||◌, if◌then◌else◌, slice_index, slice_set}
use Rattle.std.specs.List.{list_any}
use Rattle.std.proofs.lemmas.List.{length-set, get_or-set_other, get_or-set_same}
use Rattle.std.proofs.lemmas.Bool.{cases_eq, eqb-true, ltb-true}
use Rattle.std.proofs.lemmas.Bool.Decides.{nat_tests}
use Rattle.mid_code.specs.Row.{row_entered, row_after}

length_if : (row : List ℕ) (target left : ℕ) (b : Bool) → length (if b then slice_set row target left else row) ≡ length row
length_if row target left true = length-set row target left
length_if row target left false = refl

length_entered : (limit place left target : ℕ) (row : List ℕ) → length (row_entered limit place left target row) ≡ length row
length_entered limit place left target row = length_if row target left (nat_lt place target && nat_lt target limit && slice_index row target == 0)

-- an entry keeps every number but a 0 beyond the place at the target
kept_if : (row : List ℕ) (target left t : ℕ) (b : Bool) → (b ≡ true → t ≢ target) → slice_index (if b then slice_set row target left else row) t ≡ slice_index row t
kept_if row target left t true other = get_or-set_other row target t left 0 (other refl)
kept_if row target left t false other = refl

both : (a b c : Bool) → (a && b && c) ≡ true → (a ≡ true) × (b ≡ true) × (c ≡ true)
both true true true h = (refl, refl, refl)
both true true false h = absurd (cc)
both true false c h = absurd (cc)
both false b c h = absurd (cc)

one_behind : (limit place left target : ℕ) (row : List ℕ) (t : ℕ) → t ≤ place → slice_index (row_entered limit place left target row) t ≡ slice_index row t
one_behind limit place left target row t behind =
    kept_if row target left t (nat_lt place target && nat_lt target limit && slice_index row target == 0)
    (λ h e. let beyond : place < target = ltb-true place target (both (nat_lt place target) (nat_lt target limit) (slice_index row target == 0) h).0 in omega arith)

one_full : (limit place left target : ℕ) (row : List ℕ) (t : ℕ) → slice_index row t ≢ 0 → slice_index (row_entered limit place left target row) t ≡ slice_index row t
one_full limit place left target row t full =
    kept_if row target left t (nat_lt place target && nat_lt target limit && slice_index row target == 0)
    (λ h e. full (ap (λ n. slice_index row n) e ∙ eqb-true (slice_index row target) 0 (both (nat_lt place target) (nat_lt target limit) (slice_index row target == 0) h).2))

one_other : (limit place left target : ℕ) (row : List ℕ) (t : ℕ) → t ≢ target → slice_index (row_entered limit place left target row) t ≡ slice_index row t
one_other limit place left target row t other =
    kept_if row target left t (nat_lt place target && nat_lt target limit && slice_index row target == 0) (λ h. other)

-- and fills that
all_true : (place target limit here : ℕ) → place < target → target < limit → here ≡ 0 → (nat_lt place target && nat_lt target limit && here == 0) ≡ true
all_true place target limit here beyond within empty = grind (arith, nat_tests)

one_filled : (limit place left target : ℕ) (row : List ℕ) → place < target → target < limit → limit ≤ length row → slice_index row target ≡ 0 → slice_index (row_entered limit place left target row) target ≡ left
one_filled limit place left target row beyond within room empty =
    ap (λ b. slice_index (if b then slice_set row target left else row) target) (all_true place target limit (slice_index row target) beyond within empty)
    ∙ get_or-set_same row target left 0 (omega arith)

-- the same of entries of several targets
pub kept_behind : (limit place left : ℕ) (targets : List ℕ) (row : List ℕ) (t : ℕ) → t ≤ place → slice_index (row_after limit place left targets row) t ≡ slice_index row t
kept_behind limit place left [] row t behind = refl
kept_behind limit place left (x ∷ xs) row t behind = kept_behind limit place left xs (row_entered limit place left x row) t behind ∙ one_behind limit place left x row t behind

pub kept_full : (limit place left : ℕ) (targets : List ℕ) (row : List ℕ) (t : ℕ) → slice_index row t ≢ 0 → slice_index (row_after limit place left targets row) t ≡ slice_index row t
kept_full limit place left [] row t full = refl
kept_full limit place left (x ∷ xs) row t full =
    let one = one_full limit place left x row t full in
    kept_full limit place left xs (row_entered limit place left x row) t (λ e. full (sym one ∙ e)) ∙ one

not_head : (x t : ℕ) (rest : Bool) → (x == t || rest) ≡ false → (t ≢ x) × (rest ≡ false)
not_head x t true h = absurd (grind arith)
not_head x t false h = (λ e. absurd (grind (arith, nat_tests)), refl)

pub kept_other : (limit place left : ℕ) (targets : List ℕ) (row : List ℕ) (t : ℕ) → list_any (λ next. next == t) targets ≡ false → slice_index (row_after limit place left targets row) t ≡ slice_index row t
kept_other limit place left [] row t none = refl
kept_other limit place left (x ∷ xs) row t none =
    let head = not_head x t (list_any (λ next. next == t) xs) none in
    kept_other limit place left xs (row_entered limit place left x row) t head.1 ∙ one_other limit place left x row t head.0

or_later : (x t : ℕ) (rest : Bool) → (x == t || rest) ≡ true → (x ≢ t) → rest ≡ true
or_later x t true h other = refl
or_later x t false h other = absurd (grind (arith, nat_tests))

pub filled : (limit place left : ℕ) (targets : List ℕ) (row : List ℕ) (t : ℕ) → left ≢ 0 → place < t → t < limit → limit ≤ length row → slice_index row t ≡ 0 →
    list_any (λ next. next == t) targets ≡ true → slice_index (row_after limit place left targets row) t ≡ left
filled limit place left [] row t some beyond within room empty goes = absurd (cc)
filled limit place left (x ∷ xs) row t some beyond within room empty goes =
    elim (cases_eq x t) [
      | inl here ↦
          let one : slice_index (row_entered limit place left x row) t ≡ left =
          subst (λ n. slice_index (row_entered limit place left x row) n ≡ left) here
          (one_filled limit place left x row (omega arith) (omega arith) room (ap (λ n. slice_index row n) here ∙ empty)) in
          kept_full limit place left xs (row_entered limit place left x row) t (λ e. some (sym one ∙ e)) ∙ one
      | inr other ↦
          let long : limit ≤ length (row_entered limit place left x row) = omega (arith, length_entered limit place left x row) in
          filled limit place left xs (row_entered limit place left x row) t some beyond within long
          (one_other limit place left x row t (λ e. other (sym e)) ∙ empty) (or_later x t (list_any (λ next. next == t) xs) goes other)
    ]
