-- Open objects are stacked: below the newest stand those that were found where it began.
use Rattle.std.proofs.Common.{inl, inr, ◌≡◌, ℕ, zero, suc, ◌<◌, ◌≤◌, List, [], ◌∷◌, Option, Some, None, Bool, true, false, refl, ap, ◌∙◌, subst, arith}
use Rattle.std.specs.Prelude.{slice_get, if◌then◌else◌, ◌==◌}
use Rattle.std.proofs.lemmas.Bool.{cases_lt}
use Rattle.mid_code.specs.declared.mid.Mid.{Mid}
use Rattle.mid_code.specs.Ways.{Way, Next, Counts, Begins, Ends, Jumps, Branches, Returns, Stops, way_of}
use Rattle.mid_code.specs.declared.program.MidLine.{MidLine}
use Rattle.mid_code.specs.Flow.{without, way_opened, open_behind, is_target, open_into, or_else, entered_by, found_at}

-- a place stays entered as it was entered first
pub stays : (code : List MidLine) (n m t : ℕ) (os : List ℕ) → n ≤ m → entered_by code n t ≡ Some os → entered_by code m t ≡ Some os
unfolding entered_by
stays code n zero t os below h = let e : n ≡ zero = omega arith in subst (λ k. entered_by code k t ≡ Some os) e h
stays code n (suc m) t os below h =
    elim (cases_lt m n) [
      | inl more ↦ let e : n ≡ suc m = omega arith in subst (λ k. entered_by code k t ≡ Some os) e h
      | inr within ↦ ap (λ first. or_else first (open_into t m (entered_by code m m) (slice_get code m))) (stays code n m t os within h)
    ]

-- the newest of the open objects began before, and those below it are what was found there
abbrev pub IsStacked : List MidLine → ℕ → List ℕ → Type 0
IsStacked code n os = (k : ℕ) (rest : List ℕ) → os ≡ k ∷ rest → (k < n) × (found_at code k ≡ Some rest)

abbrev pub AreStackedTo : List MidLine → ℕ → Type 0
AreStackedTo code p = (n t : ℕ) (os : List ℕ) → n ≤ p → entered_by code n t ≡ Some os → IsStacked code n os

pub none_stacked : (code : List MidLine) (n : ℕ) → IsStacked code n []
none_stacked code n = λ k rest e. absurd (cc)

widened : (code : List MidLine) (n m : ℕ) (os : List ℕ) → n ≤ m → IsStacked code n os → IsStacked code m os
widened code n m os below stacked = λ k rest e. let h : (k < n) × (found_at code k ≡ Some rest) = stacked k rest e in (omega (arith, h.0), h.1)

stacked_if : (code : List MidLine) (p newest : ℕ) (r : List ℕ) (closes : Bool) → AreStackedTo code p → found_at code p ≡ Some (newest ∷ r) → IsStacked code (suc p) (if closes then r else newest ∷ r)
stacked_if code p newest r true low h = λ k rest e.
    let one : (newest < p) × (found_at code newest ≡ Some r) = low p p (newest ∷ r) (omega arith) h newest r refl in
    let before : newest ≤ p = omega (arith, one.0) in
    let two : (k < newest) × (found_at code k ≡ Some rest) = low newest newest r before one.1 k rest e in
    (omega (arith, one.0, two.0), two.1)
stacked_if code p newest r false low h = widened code p (suc p) (newest ∷ r) (omega arith) (low p p (newest ∷ r) (omega arith) h)

stacked_without : (code : List MidLine) (p begun : ℕ) (found : List ℕ) → AreStackedTo code p → found_at code p ≡ Some found → IsStacked code (suc p) (without begun found)
stacked_without code p begun [] low h = none_stacked code (suc p)
stacked_without code p begun (newest ∷ r) low h = stacked_if code p newest r (newest == begun) low h

stacked_on : (code : List MidLine) (p : ℕ) (found : List ℕ) → found_at code p ≡ Some found → IsStacked code (suc p) (p ∷ found)
stacked_on code p found h = λ k rest e.
    let here : p ≡ k = cc in
    let below : found ≡ rest = cc in
    (omega arith, subst (λ q. found_at code q ≡ Some rest) here (h ∙ ap (λ os. Some os) below))

stacked_on_below : (code : List MidLine) (p : ℕ) (found : List ℕ) → AreStackedTo code p → found_at code p ≡ Some found → IsStacked code (suc p) found
stacked_on_below code p found low h = widened code p (suc p) found (omega arith) (low p p found (omega arith) h)

-- what is open behind an instruction is stacked
stacked_behind_to : (code : List MidLine) (p : ℕ) (way : Way) (found : List ℕ) → AreStackedTo code p → found_at code p ≡ Some found → IsStacked code (suc p) (way_opened p way found)
stacked_behind_to code p Next found low h = stacked_on_below code p found low h
stacked_behind_to code p Counts found low h = stacked_on_below code p found low h
stacked_behind_to code p Begins found low h = stacked_on code p found h
stacked_behind_to code p (Ends begun) found low h = stacked_without code p begun found low h
stacked_behind_to code p (Jumps target) found low h = stacked_on_below code p found low h
stacked_behind_to code p (Branches target) found low h = stacked_on_below code p found low h
stacked_behind_to code p Returns found low h = stacked_on_below code p found low h
stacked_behind_to code p Stops found low h = stacked_on_below code p found low h

stacked_taken : (code : List MidLine) (p : ℕ) (left os : List ℕ) (goes : Bool) → IsStacked code (suc p) left → (if goes then Some left else None) ≡ Some os → IsStacked code (suc p) os
stacked_taken code p left os true stacked h = let e : left ≡ os = cc in subst (λ xs. IsStacked code (suc p) xs) e stacked
stacked_taken code p left os false stacked h = absurd (cc)

stacked_into : (code : List MidLine) (p t : ℕ) (state : Option (List ℕ)) (line : Option MidLine) (os : List ℕ) → AreStackedTo code p → found_at code p ≡ state → open_into t p state line ≡ Some os → IsStacked code (suc p) os
stacked_into code p t None line os low at h = absurd (cc)
stacked_into code p t (Some found) None os low at h = absurd (cc)
stacked_into code p t (Some found) (Some l) os low at h =
    stacked_taken code p (open_behind p l.mid found) os (is_target p l.mid t) (stacked_behind_to code p (way_of l.mid) found low at) h

stacked_either : (code : List MidLine) (p t : ℕ) (first : Option (List ℕ)) (os : List ℕ) → AreStackedTo code p → entered_by code p t ≡ first → or_else first (open_into t p (found_at code p) (slice_get code p)) ≡ Some os → IsStacked code (suc p) os
stacked_either code p t None os low at h = stacked_into code p t (found_at code p) (slice_get code p) os low refl h
stacked_either code p t (Some first) os low at h =
    let e : first ≡ os = cc in
    widened code p (suc p) os (omega arith) (low p t os (omega arith) (at ∙ ap (λ xs. Some xs) e))

stacked_start : (code : List MidLine) (n : ℕ) (first : Bool) (os : List ℕ) → (if first then Some [] else None) ≡ Some os → IsStacked code n os
stacked_start code n true os h = let e : [] ≡ os = cc in subst (λ xs. IsStacked code n xs) e (none_stacked code n)
stacked_start code n false os h = absurd (cc)

stacked_to : (code : List MidLine) (bound : ℕ) → AreStackedTo code bound
unfolding entered_by
stacked_to code bound zero t os below h = stacked_start code zero (t == 0) os h
stacked_to code zero (suc p) t os below h = absurd (omega arith)
stacked_to code (suc bound) (suc p) t os below h =
    stacked_either code p t (entered_by code p t) os (λ n u xs under e. stacked_to code bound n u xs (omega arith) e) refl h

pub stacked : (code : List MidLine) (n t : ℕ) (os : List ℕ) → entered_by code n t ≡ Some os → IsStacked code n os
stacked code n t os h = stacked_to code n n t os (omega arith) h

pub stacked_behind : (code : List MidLine) (p : ℕ) (mid : Mid) (found : List ℕ) → found_at code p ≡ Some found → IsStacked code (suc p) (open_behind p mid found)
stacked_behind code p mid found h = stacked_behind_to code p (way_of mid) found (stacked_to code p) h

-- the places that an instruction enters are entered after it
taken : (left : List ℕ) (goes : Bool) → goes ≡ true → (if goes then Some left else None) ≡ Some left
taken left true h = refl
taken left false h = absurd (cc)

entry_after : (first : Option (List ℕ)) (left : List ℕ) → (os : List ℕ) × (or_else first (Some left) ≡ Some os)
entry_after None left = (left, refl)
entry_after (Some os) left = (os, refl)

pub entered_after : (code : List MidLine) (p t : ℕ) (l : MidLine) (found : List ℕ) → found_at code p ≡ Some found → slice_get code p ≡ Some l → is_target p l.mid t ≡ true → (os : List ℕ) × (entered_by code (suc p) t ≡ Some os)
unfolding entered_by
entered_after code p t l found here at goes =
    let one : open_into t p (found_at code p) (slice_get code p) ≡ Some (open_behind p l.mid found) =
    ap (λ state. open_into t p state (slice_get code p)) here ∙ ap (open_into t p (Some found)) at ∙ taken (open_behind p l.mid found) (is_target p l.mid t) goes in
    let all = entry_after (entered_by code p t) (open_behind p l.mid found) in
    (all.0, ap (or_else (entered_by code p t)) one ∙ all.1)
