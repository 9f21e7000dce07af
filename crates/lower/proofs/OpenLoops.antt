-- Where loops lead by their numbers, as loops begin and end.
use Rattle.std.proofs.Common.{◌≡◌, ◌<◌, ◌≤◌, ◌==◌, ℕ, ◌+◌, Bool, true, false, if◌then◌else◌, List, [], ◌∷◌, ◌++◌, length, set, Some, refl, sym, ◌∙◌, ap, subst, arith}
use Rattle.std.proofs.lemmas.List.{get_or_append_left, get_or_push, get_or-set_same, get_or-set_other, set-append_left}
use Rattle.std.proofs.lemmas.List.{length-set, length_push, reverse-append}
use Rattle.std.specs.Prelude.{All, reverse, map}
use Rattle.std.proofs.lemmas.List.Elements.{All-weaker}
use Rattle.std.proofs.lemmas.Bool.{ne_eqb, eqb-true, eqb-false, true≢false}
use Rattle.mid_code.specs.declared.mid.Mid.{Mid}
use Rattle.lower.specs.declared.code.Places.{Places}
use Rattle.lower.specs.Emitting.{Line}
use Rattle.lower.specs.SoFar.{Leads, leads_of, leads_around, no_leads}
use Rattle.lower.specs.declared.code.Draft.{Draft}
use Rattle.lower.specs.declared.code.Target.{Target}
use Rattle.lower.specs.declared.code.Target.TheVariants.{Known, Break, Continue}
use Rattle.lower.specs.Drafts.{IsHeld, leads_view, known_leads, leads_by, line_of, lines_if, IsBelow, OpenBelow}
use Rattle.lower.proofs.Targets.{same-lines}

abbrev unknown : Places
unknown = record { break_at = 0; continue_at = 0 }

-- ---- what is known

known-more : (loops : List Places) (u : Places) (n : ℕ) → n < length loops → known_leads (loops ++ u ∷ []) n ≡ known_leads loops n
known-more loops u n h = ap leads_view (get_or_append_left loops (u ∷ []) unknown n h)

known-last : (loops : List Places) (u : Places) → known_leads (loops ++ u ∷ []) (length loops) ≡ leads_view u
known-last loops u = ap leads_view (get_or_push loops u unknown (length loops) refl)

known-same : (loops : List Places) (m : ℕ) (p : Places) → m < length loops → known_leads (set loops m p) m ≡ leads_view p
known-same loops m p h = ap leads_view (get_or-set_same loops m p unknown h)

known-other : (loops : List Places) (m n : ℕ) (p : Places) → (n ≡ m → ⊥) → known_leads (set loops m p) n ≡ known_leads loops n
known-other loops m n p h = ap leads_view (get_or-set_other loops m n p unknown h)

-- ---- a loop begins

leads-more : (loops : List Places) (u : Places) (numbers : List ℕ) (leads : List Leads) (n : ℕ)
    → n < length loops → leads_by (loops ++ u ∷ []) numbers leads n ≡ leads_by loops numbers leads n
leads-more loops u [] leads n h = known-more loops u n h
leads-more loops u (m ∷ numbers) leads n h =
    ap (λ (z : Leads). if n == m then leads_of leads else z) (leads-more loops u numbers (leads_around leads) n h)

begun : (loops : List Places) (u : Places) (k : ℕ) (numbers : List ℕ) (leads : List Leads) (n : ℕ) → length loops ≤ k → n < length loops
    → leads_by (loops ++ u ∷ []) (k ∷ numbers) leads n ≡ leads_by loops numbers (leads_around leads) n
begun loops u k numbers leads n le h =
    ap (λ (b : Bool). if b then leads_of leads else leads_by (loops ++ u ∷ []) numbers (leads_around leads) n) (ne_eqb n k (λ e. omega (arith, e)))
    ∙ leads-more loops u numbers (leads_around leads) n h

-- those that are open stay so
open-weaker : (loops : List Places) (a b : ℕ) (numbers : List ℕ) → a ≤ b → OpenBelow loops a numbers → OpenBelow loops b numbers
open-weaker loops a b [] le h = tt
open-weaker loops a b (m ∷ numbers) le h = (omega (arith, h.0), h.1, h.2)

open-more : (loops : List Places) (u : Places) (bound : ℕ) (numbers : List ℕ) → bound ≤ length loops
    → OpenBelow loops bound numbers → OpenBelow (loops ++ u ∷ []) bound numbers
open-more loops u bound [] le h = tt
open-more loops u bound (m ∷ numbers) le h =
    let below : m < bound = h.0 in
    (below, known-more loops u m (omega arith) ∙ h.1, open-more loops u m numbers (omega arith) h.2)

open-begun : (loops : List Places) (numbers : List ℕ)
    → OpenBelow loops (length loops) numbers → OpenBelow (loops ++ unknown ∷ []) (length loops + 1) (length loops ∷ numbers)
open-begun loops numbers h = (omega arith, known-last loops unknown, open-more loops unknown (length loops) numbers (omega arith) h)

-- ---- a loop ends

leads-below : (loops : List Places) (bound : ℕ) (numbers : List ℕ) (leads : List Leads) (n : ℕ)
    → OpenBelow loops bound numbers → bound ≤ n → leads_by loops numbers leads n ≡ known_leads loops n
leads-below loops bound [] leads n h le = refl
leads-below loops bound (m ∷ numbers) leads n h le =
    let below : m < bound = h.0 in
    ap (λ (b : Bool). if b then leads_of leads else leads_by loops numbers (leads_around leads) n) (ne_eqb n m (λ e. omega (arith, e)))
    ∙ leads-below loops m numbers (leads_around leads) n h.2 (omega arith)

leads-other : (loops : List Places) (k : ℕ) (p : Places) (numbers : List ℕ) (leads : List Leads) (n : ℕ)
    → (n ≡ k → ⊥) → leads_by (set loops k p) numbers leads n ≡ leads_by loops numbers leads n
leads-other loops k p [] leads n h = known-other loops k n p h
leads-other loops k p (m ∷ numbers) leads n h =
    ap (λ (z : Leads). if n == m then leads_of leads else z) (leads-other loops k p numbers (leads_around leads) n h)

open-set : (loops : List Places) (k : ℕ) (p : Places) (bound : ℕ) (numbers : List ℕ) → bound ≤ k
    → OpenBelow loops bound numbers → OpenBelow (set loops k p) bound numbers
open-set loops k p bound [] le h = tt
open-set loops k p bound (m ∷ numbers) le h =
    let below : m < bound = h.0 in
    (below, known-other loops k m p (λ e. omega (arith, e)) ∙ h.1, open-set loops k p m numbers (omega arith) h.2)

ended : (loops : List Places) (m : ℕ) (p : Places) (numbers : List ℕ) (leads : List Leads) (n : ℕ)
    → m < length loops → OpenBelow loops m numbers
    → leads_by (set loops m p) numbers leads n ≡ leads_by loops (m ∷ numbers) (leads_view p ∷ leads) n
ended loops m p numbers leads n within below = by (n == m) refl
  where
    by : (b : Bool) → (n == m) ≡ b → leads_by (set loops m p) numbers leads n ≡ (if b then leads_view p else leads_by loops numbers leads n)
    by true e =
        let same : n ≡ m = eqb-true n m e in
        leads-below (set loops m p) m numbers leads n (open-set loops m p m numbers (omega arith) below) (omega arith)
        ∙ ap (known_leads (set loops m p)) same ∙ known-same loops m p within
    by false e = leads-other loops m p numbers leads n (eqb-false n m e)

-- ---- the end

-- where those that are open lead to nothing
leads-known : (loops : List Places) (bound : ℕ) (numbers : List ℕ) (n : ℕ)
    → OpenBelow loops bound numbers → leads_by loops numbers [] n ≡ known_leads loops n
leads-known loops bound [] n h = refl
leads-known loops bound (m ∷ numbers) n h = by (n == m) refl (leads-known loops m numbers n h.2)
  where
    by : (b : Bool) → (n == m) ≡ b → leads_by loops numbers [] n ≡ known_leads loops n
        → (if b then no_leads else leads_by loops numbers [] n) ≡ known_leads loops n
    by true e rest = sym (ap (known_leads loops) (eqb-true n m e) ∙ h.1)
    by false e rest = rest

-- ---- the code

-- those around the innermost, the innermost first
last-first : (outer : List ℕ) (n : ℕ) → reverse (outer ++ n ∷ []) ≡ n ∷ reverse outer
last-first outer n = reverse-append outer (n ∷ [])

pub begun-lines : (ds : List Draft) (b : Bool) (loops loops-2 : List Places) (number current : ℕ) (outer outer-2 : List ℕ) (leads : List Leads)
    → loops-2 ≡ loops ++ unknown ∷ [] → number ≡ length loops → outer-2 ≡ outer ++ current ∷ [] → All (IsBelow (length loops)) ds
    → lines_if b (map (line_of (leads_by loops-2 (number ∷ reverse outer-2) leads)) ds)
    ≡ lines_if b (map (line_of (leads_by loops (current ∷ reverse outer) (leads_around leads))) ds)
begun-lines ds b loops loops-2 number current outer outer-2 leads more is added below =
    (λ i. lines_if b (map (line_of (leads_by (more i) (number ∷ (ap reverse added ∙ last-first outer current) i) leads)) ds))
    ∙ ap (lines_if b)
    (same-lines (leads_by (loops ++ unknown ∷ []) (number ∷ current ∷ reverse outer) leads) (leads_by loops (current ∷ reverse outer) (leads_around leads))
    (length loops) (λ n h. begun loops unknown number (current ∷ reverse outer) leads n (omega arith) h) ds below)

pub ended-lines : (ds : List Draft) (b : Bool) (loops : List Places) (number current : ℕ) (outer outer-2 : List ℕ) (p : Places) (leads : List Leads)
    → outer ≡ outer-2 ++ number ∷ [] → current < length loops → OpenBelow loops current (reverse outer) → All (IsBelow (length loops)) ds
    → lines_if b (map (line_of (leads_by (set loops current p) (number ∷ reverse outer-2) leads)) ds)
    ≡ lines_if b (map (line_of (leads_by loops (current ∷ reverse outer) (leads_view p ∷ leads))) ds)
ended-lines ds b loops number current outer outer-2 p leads taken within opened below =
    ap (λ (numbers : List ℕ). lines_if b (map (line_of (leads_by (set loops current p) numbers leads)) ds)) (sym (ap reverse taken ∙ last-first outer-2 number))
    ∙ ap (lines_if b)
    (same-lines (leads_by (set loops current p) (reverse outer) leads) (leads_by loops (current ∷ reverse outer) (leads_view p ∷ leads))
    (length loops) (λ n h. ended loops current p (reverse outer) leads n within opened) ds below)

-- the one of the function ends too
last-ended : (loops : List Places) (number current n : ℕ) (p : Places) (leads : List Leads)
    → number ≡ length loops → current < length loops → n < length loops
    → leads_by (set (loops ++ unknown ∷ []) current p) (number ∷ []) leads n ≡ leads_by loops (current ∷ []) (leads_view p ∷ leads) n
last-ended loops number current n p leads is within h =
    let same : length (set loops current p) ≡ length loops = length-set loops current p in
    ap (λ (xs : List Places). leads_by xs (number ∷ []) leads n) (set-append_left loops (unknown ∷ []) current p within)
    ∙ begun (set loops current p) unknown number [] leads n (omega arith) (omega arith)
    ∙ ended loops current p [] leads n within tt

pub last-lines : (ds : List Draft) (b : Bool) (loops loops-2 : List Places) (number current : ℕ) (outer outer-2 : List ℕ) (p : Places) (leads : List Leads)
    → loops-2 ≡ loops ++ unknown ∷ [] → number ≡ length loops → outer ≡ [] → outer-2 ≡ [] → current < length loops → All (IsBelow (length loops)) ds
    → lines_if b (map (line_of (leads_by (set loops-2 current p) (number ∷ reverse outer-2) leads)) ds)
    ≡ lines_if b (map (line_of (leads_by loops (current ∷ reverse outer) (leads_view p ∷ leads))) ds)
last-lines ds b loops loops-2 number current outer outer-2 p leads more is none none-2 within below =
    (λ i. lines_if b (map (line_of (leads_by (set (more i) current p) (number ∷ reverse (none-2 i)) leads)) ds))
    ∙ ap (lines_if b)
    (same-lines (leads_by (set (loops ++ unknown ∷ []) current p) (number ∷ []) leads) (leads_by loops (current ∷ []) (leads_view p ∷ leads))
    (length loops) (λ n h. last-ended loops number current n p leads is within h) ds below)
    ∙ ap (λ (xs : List ℕ). lines_if b (map (line_of (leads_by loops (current ∷ reverse xs) (leads_view p ∷ leads))) ds)) (sym none)

-- at the end it is known where each loop leads
pub known-lines : (ds : List Draft) (b : Bool) (loops : List Places) (current : ℕ) (outer : List ℕ) (ls : List Line)
    → b ≡ false → ls ≡ map (line_of (known_leads loops)) ds
    → IsHeld (record { is_long = b; loops = loops; current = current; outer = outer; drafts = ds })
    → lines_if b (map (line_of (leads_by loops (current ∷ reverse outer) [])) ds) ≡ Some ls
known-lines ds true loops current outer ls short is h = absurd (true≢false short)
known-lines ds false loops current outer ls short is h =
    ap Some
    (same-lines (leads_by loops (current ∷ reverse outer) []) (known_leads loops) (length loops)
    (λ n _. leads-known loops (length loops) (current ∷ reverse outer) n h.opened) ds h.below ∙ sym is)

-- ---- what always holds

below-weaker : (a b line : ℕ) (m : Mid) (t : Target) → a ≤ b → IsBelow a (record { line = line; mid = m; target = t })
    → IsBelow b (record { line = line; mid = m; target = t })
below-weaker a b line m Known le h = tt
below-weaker a b line m (Break n) le h = omega (arith, h)
below-weaker a b line m (Continue n) le h = omega (arith, h)

drafts-weaker : (a b : ℕ) (ds : List Draft) → a ≤ b → All (IsBelow a) ds → All (IsBelow b) ds
drafts-weaker a b ds le = All-weaker (IsBelow a) (IsBelow b) (λ (d : Draft) h. below-weaker a b d.line d.mid d.target le h) ds

pub held-begun : (ds : List Draft) (b : Bool) (loops loops-2 : List Places) (number current : ℕ) (outer outer-2 : List ℕ)
    → loops-2 ≡ loops ++ unknown ∷ [] → number ≡ length loops → outer-2 ≡ outer ++ current ∷ []
    → IsHeld (record { is_long = b; loops = loops; current = current; outer = outer; drafts = ds })
    → IsHeld (record { is_long = b; loops = loops-2; current = number; outer = outer-2; drafts = ds })
held-begun ds b loops loops-2 number current outer outer-2 more is added h =
    let longer : length (loops ++ unknown ∷ []) ≡ length loops + 1 = length_push loops unknown in
    let longer-2 : length loops-2 ≡ length loops + 1 = ap length more ∙ longer in
    record {
      few = h.few;
      full = h.full;
      below = drafts-weaker (length loops) (length loops-2) ds (omega arith) h.below;
      opened = subst (λ (z : List Places × ℕ × ℕ × List ℕ). OpenBelow z.0 z.1 (z.2 ∷ z.3))
          (λ i. (sym more i, sym longer-2 i, sym is i, sym (ap reverse added ∙ last-first outer current) i))
          (open-begun loops (current ∷ reverse outer) h.opened);
    }

pub held-more : (ds : List Draft) (b : Bool) (loops loops-2 : List Places) (current : ℕ) (outer outer-2 : List ℕ)
    → loops-2 ≡ loops ++ unknown ∷ [] → outer-2 ≡ outer
    → IsHeld (record { is_long = b; loops = loops; current = current; outer = outer; drafts = ds })
    → IsHeld (record { is_long = b; loops = loops-2; current = current; outer = outer-2; drafts = ds })
held-more ds b loops loops-2 current outer outer-2 more same h =
    let longer : length (loops ++ unknown ∷ []) ≡ length loops + 1 = length_push loops unknown in
    let longer-2 : length loops-2 ≡ length loops + 1 = ap length more ∙ longer in
    record {
      few = h.few;
      full = h.full;
      below = drafts-weaker (length loops) (length loops-2) ds (omega arith) h.below;
      opened = subst (λ (z : List Places × ℕ × List ℕ). OpenBelow z.0 z.1 (current ∷ reverse z.2))
          (λ i. (sym more i, sym longer-2 i, sym same i))
          (open-weaker (loops ++ unknown ∷ []) (length loops) (length loops + 1) (current ∷ reverse outer) (omega arith)
          (open-more loops unknown (length loops) (current ∷ reverse outer) (omega arith) h.opened));
    }

pub held-ended : (ds : List Draft) (b : Bool) (loops : List Places) (number current : ℕ) (outer outer-2 : List ℕ) (p : Places)
    → outer ≡ outer-2 ++ number ∷ []
    → IsHeld (record { is_long = b; loops = loops; current = current; outer = outer; drafts = ds })
    → IsHeld (record { is_long = b; loops = set loops current p; current = number; outer = outer-2; drafts = ds })
held-ended ds b loops number current outer outer-2 p taken h =
    let same : length (set loops current p) ≡ length loops = length-set loops current p in
    let within : current < length loops = h.opened.0 in
    record {
      few = h.few;
      full = h.full;
      below = drafts-weaker (length loops) (length (set loops current p)) ds (omega arith) h.below;
      opened = subst (OpenBelow (set loops current p) (length (set loops current p))) (ap reverse taken ∙ last-first outer-2 number)
          (open-weaker (set loops current p) current (length (set loops current p)) (reverse outer) (omega arith)
          (open-set loops current p current (reverse outer) (omega arith) h.opened.2));
    }
