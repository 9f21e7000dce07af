-- What is open at the places that a valid function's instructions enter.
use Rattle.std.proofs.Common.{◌≡◌, ℕ, ◌+◌, ◌<◌, List, [], ◌∷◌, length, Option, Some, None, Bool, true, false, inl, inr, refl, sym, ap, ◌∙◌, subst, arith}
use Rattle.std.specs.Prelude.{◌&&◌, not, ◌==◌, nat_lt}
use Rattle.std.specs.List.{list_any}
use Rattle.std.proofs.lemmas.Bool.{cases_lt, and_parts, and_from, not-false, eqb-true, eq-eqb, lt-ltb, both_ways}
use Rattle.mid_code.specs.declared.mid.Mid.{Mid}
use Rattle.mid_code.specs.declared.program.MidLine.{MidLine}
use Rattle.mid_code.specs.declared.program.MidProgram.{MidProgram}
use Rattle.mid_code.specs.declared.program.MidFunction.{MidFunction}
use Rattle.mid_code.specs.Flow.{entered_by, found_at, same_places, has_others, closes_wrongly, enters_wrongly, breaks_order, breaks_order_by, goes_to, open_behind}
use Rattle.mid_code.specs.Rules.{runs_out}
use Rattle.mid_code.specs.Ways.{is_final}
use Rattle.mid_code.proofs.Keeping.{KeepsRules, neither}

pub same_places-true : (xs ys : List ℕ) → same_places xs ys ≡ true → xs ≡ ys
same_places-true [] [] h = refl
same_places-true [] (y ∷ ys) h = absurd (cc)
same_places-true (x ∷ xs) [] h = absurd (cc)
same_places-true (x ∷ xs) (y ∷ ys) h =
    let both = and_parts (x == y) (same_places xs ys) h in
    let first : x ≡ y = eqb-true x y both.0 in
    let rest : xs ≡ ys = same_places-true xs ys both.1 in
    cc

found_same : (found : Option (List ℕ)) (left : List ℕ) → has_others found left ≡ false → found ≡ Some left
found_same None left h = absurd (cc)
found_same (Some found) left h = ap Some (same_places-true found left (not-false (same_places found left) h))

-- a place of the code that is entered has what is left
pub entered_here : (code : List MidLine) (target : ℕ) (left : List ℕ) → (nat_lt target (length code) && has_others (found_at code target) left) ≡ false → target < length code → found_at code target ≡ Some left
entered_here code target left h within =
    found_same (found_at code target) left (subst (λ b. (b && has_others (found_at code target) left) ≡ false) (lt-ltb target (length code) within) h)

-- what the order of open objects says of an instruction that is reached
pub in_order : (code : List MidLine) (place : ℕ) (mid : Mid) (found : List ℕ) → breaks_order code place mid ≡ false → found_at code place ≡ Some found → (closes_wrongly mid found ≡ false) × (enters_wrongly code place mid found ≡ false)
unfolding breaks_order
in_order code place mid found h at = neither (closes_wrongly mid found) (enters_wrongly code place mid found) (sym (ap (breaks_order_by code place mid) at) ∙ h)

-- the first place that it enters, and the second
pub first_entered : (code : List MidLine) (place : ℕ) (mid : Mid) (found : List ℕ) (target : ℕ) (rest : List ℕ) → goes_to place mid ≡ target ∷ rest → enters_wrongly code place mid found ≡ false → target < length code → found_at code target ≡ Some (open_behind place mid found)
first_entered code place mid found target rest e h within =
    let test : ℕ → Bool = λ t. nat_lt t (length code) && has_others (found_at code t) (open_behind place mid found) in
    entered_here code target (open_behind place mid found) (neither (test target) (list_any test rest) (subst (λ ts. list_any test ts ≡ false) e h)).0 within

pub second_entered : (code : List MidLine) (place : ℕ) (mid : Mid) (found : List ℕ) (first target : ℕ) (rest : List ℕ) → goes_to place mid ≡ first ∷ target ∷ rest → enters_wrongly code place mid found ≡ false → target < length code → found_at code target ≡ Some (open_behind place mid found)
second_entered code place mid found first target rest e h within =
    let test : ℕ → Bool = λ t. nat_lt t (length code) && has_others (found_at code t) (open_behind place mid found) in
    let later = (neither (test first) (list_any test (target ∷ rest)) (subst (λ ts. list_any test ts ≡ false) e h)).1 in
    entered_here code target (open_behind place mid found) (neither (test target) (list_any test rest) later).0 within

-- at the start nothing is open
pub none_at_start : (code : List MidLine) → found_at code 0 ≡ Some []
unfolding entered_by
none_at_start code = refl

-- an instruction that is not final is followed by another
pub followed : (program : MidProgram) (number : ℕ) (f : MidFunction) (place : ℕ) (mid : Mid) → KeepsRules program number f place mid → is_final mid ≡ false → place < length f.code → place + 1 < length f.code
followed program number f place mid k more within =
    elim (cases_lt (place + 1) (length f.code)) as (λ _. place + 1 < length f.code) [
      | inl next ↦ next
      | inr none ↦
          let last : (place + 1 == length f.code) ≡ true = eq-eqb (place + 1) (length f.code) (omega arith) in
          let goes_on : not (is_final mid) ≡ true = ap not more in
          absurd (both_ways (runs_out f.code place mid) k.followed (and_from (place + 1 == length f.code) (not (is_final mid)) last goes_on))
    ]
