-- The code of a loop, once it is known where its jumps lead.
use Rattle.std.proofs.Common.{◌≡◌, ◌≤◌, ◌<◌, ℕ, suc, ◌+◌, Bool, true, false, List, [], ◌∷◌, ◌++◌, length, Option, Some, None, option_map, ◌⊎◌, inl, inr}
use Rattle.std.proofs.Common.{refl, sym, ◌∙◌, ap, subst, arith, nat_lt}
use Rattle.std.proofs.lemmas.List.{length-append, append_assoc, append-nil}
use Rattle.std.proofs.lemmas.Bool.Decides.{nat_tests}
use Rattle.mid_code.specs.declared.mid.Mid.TheVariants as mid
use Rattle.lower.specs.Emitting.{Line, Code, Around, at_line}
use Rattle.lower.specs.Jumps.{LandsIn}
use Rattle.lower.specs.Expressions.{Inside}
use Rattle.lower.specs.SoFar.{Lines, with_line, if_room, added, grown, landed, line_to, IsHere, most_instructions}
use Rattle.lower.specs.Statements.{leaves_at, loop_code, do_code, within}
use Rattle.lower.proofs.Growing.{added-none, added-append, grown-at}

-- ---- code that fits, or does not

abbrev pub Fitting : List Line → List Line → Lines → Type 0
Fitting xs ls s =
    ((length ls + length xs ≤ most_instructions) × (s ≡ Some (ls ++ xs))) ⊎ ((most_instructions < length ls + length xs) × (s ≡ None))

length-more : (ls : List Line) (l : Line) → length (ls ++ l ∷ []) ≡ suc (length ls)
length-more ls l = length-append ls (l ∷ []) ∙ omega arith

test : (n : ℕ) → nat_lt n most_instructions ≡ true → n < most_instructions
test n is = grind (arith, nat_tests)

test_not : (n : ℕ) → nat_lt n most_instructions ≡ false → most_instructions ≤ n
test_not n is = grind (arith, nat_tests)

pub fits : (xs ls : List Line) → length ls ≤ most_instructions → Fitting xs ls (added xs (Some ls))
unfolding with_line
fits [] ls few = inl (omega arith, ap Some (sym (append-nil ls)))
fits (x ∷ xs) ls few = by (nat_lt (length ls) most_instructions) refl (fits xs (ls ++ x ∷ []))
  where
    by : (b : Bool) → nat_lt (length ls) most_instructions ≡ b
        → (length (ls ++ x ∷ []) ≤ most_instructions → Fitting xs (ls ++ x ∷ []) (added xs (Some (ls ++ x ∷ [])))) → Fitting (x ∷ xs) ls
        (added xs (if_room x ls b))
    by true is next = more (next (subst (λ n. n ≤ most_instructions) (sym (length-more ls x)) (test (length ls) is)))
      where
        more : Fitting xs (ls ++ x ∷ []) (added xs (Some (ls ++ x ∷ []))) → Fitting (x ∷ xs) ls (added xs (Some (ls ++ x ∷ [])))
        more (inl h) = inl (omega (arith, length-more ls x, h.0), h.1 ∙ ap Some (append_assoc ls (x ∷ []) xs))
        more (inr h) = inr (omega (arith, length-more ls x, h.0), h.1)
    by false is next = inr (omega (arith, test_not (length ls) is), added-none xs)

fit-some : (xs ls : List Line) → length ls ≤ most_instructions → length ls + length xs ≤ most_instructions → added xs (Some ls) ≡ Some (ls ++ xs)
fit-some xs ls few room = by (fits xs ls few)
  where
    by : Fitting xs ls (added xs (Some ls)) → added xs (Some ls) ≡ Some (ls ++ xs)
    by (inl h) = h.1
    by (inr h) = absurd (omega (arith, h.0))

fit-none : (xs ls : List Line) → length ls ≤ most_instructions → most_instructions < length ls + length xs → added xs (Some ls) ≡ None
fit-none xs ls few room = by (fits xs ls few)
  where
    by : Fitting xs ls (added xs (Some ls)) → added xs (Some ls) ≡ None
    by (inl h) = absurd (omega (arith, h.0))
    by (inr h) = h.1

-- ---- a place, of which it is known what comes before it

abbrev Placed : ℕ → ℕ → Type 0
Placed place n = ((n ≤ most_instructions) × (place ≡ n)) ⊎ ((most_instructions < n) × (place ≡ suc most_instructions))

placed : (place : ℕ) (xs ls : List Line) → length ls ≤ most_instructions → IsHere place (added xs (Some ls)) → Placed place (length ls + length xs)
placed place xs ls few here = by (fits xs ls few)
  where
    by : Fitting xs ls (added xs (Some ls)) → Placed place (length ls + length xs)
    by (inl h) = inl (h.0, (subst (IsHere place) h.1 here).0 ∙ length-append ls xs)
    by (inr h) = inr (h.0, subst (IsHere place) h.1 here)

-- three that end at one place
same-places : (place n0 n1 n2 : ℕ) → Placed place n0 → Placed place n1 → Placed place n2
    → ((place ≡ n0) × (n1 ≡ n0) × (n2 ≡ n0)) ⊎ ((most_instructions < n1) × (most_instructions < n2))
same-places place n0 n1 n2 (inl a) (inl b) (inl c) = inl (a.1, omega (arith, a.1, b.1), omega (arith, a.1, c.1))
same-places place n0 n1 n2 (inl a) (inl b) (inr c) = absurd (omega (arith, a.0, a.1, c.0, c.1))
same-places place n0 n1 n2 (inl a) (inr b) c = absurd (omega (arith, a.0, a.1, b.0, b.1))
same-places place n0 n1 n2 (inr a) (inl b) c = absurd (omega (arith, a.0, a.1, b.0, b.1))
same-places place n0 n1 n2 (inr a) (inr b) (inl c) = absurd (omega (arith, c.0, c.1, b.0, b.1))
same-places place n0 n1 n2 (inr a) (inr b) (inr c) = inr (b.0, c.0)

leaves-length : (i : Inside) (line : ℕ) (r : Option ℕ) (to : ℕ) → length (leaves_at i line r to) ≡ length (leaves_at i line r 0)
leaves-length i line None to = refl
leaves-length i line (Some r) to = refl

-- ---- a loop's lines

module _ (i : Inside) (line : ℕ) (r : Option ℕ) (body : ℕ → ℕ → List Line) (step : ℕ → List Line) (jump : Line) (pre ls : List Line) (body_at : ℕ) where
  abbrev pub whole : ℕ → ℕ → ℕ → ℕ → List Line
  whole b c to at = pre ++ leaves_at i line r to ++ body b c ++ step at ++ jump ∷ []

  abbrev pub next_round : ℕ
  next_round = body_at + length (body 0 0)

  abbrev pub behind_loop : ℕ
  behind_loop = suc (next_round + length (step next_round))

  module _ (starts : length ls + length pre + length (leaves_at i line r 0) ≡ body_at) where
    whole-length : (b c to at : ℕ) → length ls + length (whole b c to at) ≡ suc (body_at + length (body b c) + length (step at))
    whole-length b c to at =
        let p1 = length-append (pre ++ leaves_at i line r to ++ body b c ++ step at) (jump ∷ []) in
        let p2 = length-append (pre ++ leaves_at i line r to ++ body b c) (step at) in
        let p3 = length-append (pre ++ leaves_at i line r to) (body b c) in
        let p4 = length-append pre (leaves_at i line r to) in
        let p5 = leaves-length i line r to in
        omega arith

    front-length : (b c : ℕ) → length ls + length (pre ++ leaves_at i line r 0 ++ body b c) ≡ body_at + length (body b c)
    front-length b c =
        let p3 = length-append (pre ++ leaves_at i line r 0) (body b c) in
        let p4 = length-append pre (leaves_at i line r 0) in
        omega arith

    pub loop-lines : (few : length ls ≤ most_instructions) (C E : ℕ) (s6 s7 : Lines)
        → ((b c : ℕ) → IsHere C (added (pre ++ leaves_at i line r 0 ++ body b c) (Some ls)))
        → s6 ≡ added (whole E C 0 (body_at + length (body E C))) (Some ls) → (s6 ≡ None → s7 ≡ None)
        → ((x : ℕ) → s6 ≡ Some (ls ++ whole E C 0 x) → s7 ≡ Some (ls ++ whole E C (length (ls ++ whole E C 0 x)) x))
        → IsHere E s7
        → s7 ≡ added (whole behind_loop next_round behind_loop next_round) (Some ls)
    loop-lines few C E s6 s7 here is none some behind =
        by (same-places C next_round x n2 (ends 0 0) (ends E C) (ends behind_loop next_round))
      where
        x : ℕ
        x = body_at + length (body E C)

        n2 : ℕ
        n2 = body_at + length (body behind_loop next_round)

        ends : (b c : ℕ) → Placed C (body_at + length (body b c))
        ends b c = subst (Placed C) (front-length b c) (placed C (pre ++ leaves_at i line r 0 ++ body b c) ls few (here b c))

        done : List Line
        done = whole behind_loop next_round behind_loop next_round

        long : most_instructions < length ls + length (whole E C 0 x) → most_instructions < length ls + length done → s7 ≡ added done (Some ls)
        long a b = none (is ∙ fit-none (whole E C 0 x) ls few a) ∙ sym (fit-none done ls few b)

        by : ((C ≡ next_round) × (x ≡ next_round) × (n2 ≡ next_round)) ⊎ ((most_instructions < x) × (most_instructions < n2)) → s7 ≡ added done (Some ls)
        by (inr h) = long (omega (arith, h.0, whole-length E C 0 x)) (omega (arith, h.1, whole-length behind_loop next_round behind_loop next_round))
        by (inl h) = short (fits (whole E C 0 x) ls few)
          where
            steps : length (step x) ≡ length (step next_round)
            steps = ap (λ k. length (step k)) h.1

            total : length ls + length (whole E C 0 x) ≡ behind_loop
            total = whole-length E C 0 x ∙ ap suc (ap (λ k. k + length (step x)) h.1 ∙ ap (λ k. next_round + k) steps)

            total_done : length ls + length done ≡ behind_loop
            total_done = whole-length behind_loop next_round behind_loop next_round ∙ ap (λ k. suc (k + length (step next_round))) h.2

            short : Fitting (whole E C 0 x) ls (added (whole E C 0 x) (Some ls)) → s7 ≡ added done (Some ls)
            short (inr f) = long f.0 (omega (arith, f.0, total, total_done))
            short (inl f) = (s7-is ∙ (λ j. Some (ls ++ whole (E-is j) (h.0 j) (T-is j) (h.1 j)))) ∙ sym
                (fit-some done ls few (omega (arith, f.0, total, total_done)))
              where
                T : ℕ
                T = length (ls ++ whole E C 0 x)

                T-is : T ≡ behind_loop
                T-is = length-append ls (whole E C 0 x) ∙ total

                s7-is : s7 ≡ Some (ls ++ whole E C T x)
                s7-is = some x (is ∙ f.1)

                E-is : E ≡ behind_loop
                E-is =
                    (subst (IsHere E) s7-is behind).0 ∙ length-append ls (whole E C T x)
                    ∙ (whole-length E C T x ∙ sym (whole-length E C 0 x)) ∙ total

-- ---- the jump out of a loop

-- where there is a condition, the jump that waits behind it leads behind the loop
abbrev pub LeadsOut : Option ℕ → Option ℕ → Lines → Lines → Lines → Type 0
LeadsOut None None tested old new = new ≡ old
LeadsOut (Some r) (Some at) tested old new = IsHere at tested × LandsIn at old new
LeadsOut None (Some at) tested old new = ⊥
LeadsOut (Some r) None tested old new = ⊥

out-none : (r at : Option ℕ) (s2 s6 s7 : Lines) → LeadsOut r at s2 s6 s7 → s6 ≡ None → s7 ≡ None
out-none None None s2 s6 s7 out is = out ∙ is
out-none (Some r) (Some at) s2 s6 s7 out is = out.1.landed ∙ ap (option_map (landed at out.1.place)) is
out-none None (Some at) s2 s6 s7 out is = absurd out
out-none (Some r) None s2 s6 s7 out is = absurd out

landed-at : (to : ℕ) (ls : List Line) (l : Line) (ms : List Line) → landed (length ls) to (ls ++ l ∷ ms) ≡ ls ++ line_to to l ∷ ms
landed-at to [] l ms = refl
landed-at to (x ∷ ls) l ms = ap (λ z. x ∷ z) (landed-at to ls l ms)

regrouped : (ls pre B S T : List Line) (l : Line) → ls ++ (pre ++ (l ∷ []) ++ B ++ S ++ T) ≡ (ls ++ pre) ++ l ∷ (B ++ S ++ T)
regrouped ls pre B S T l = simp append_assoc

module _ (i : Inside) (line : ℕ) (body : ℕ → ℕ → List Line) (step : ℕ → List Line) (jump : Line) (pre ls : List Line) (few : length ls ≤ most_instructions)
    (body_at : ℕ) where
  out-some : (r at : Option ℕ) (E C x : ℕ) (s6 s7 : Lines) → LeadsOut r at (added pre (Some ls)) s6 s7
      → s6 ≡ Some (ls ++ whole i line r body step jump pre ls body_at E C 0 x) → length ls + length pre ≤ most_instructions
      → s7 ≡ Some (ls ++ whole i line r body step jump pre ls body_at E C (length (ls ++ whole i line r body step jump pre ls body_at E C 0 x)) x)
  out-some None None E C x s6 s7 out is room = out ∙ is
  out-some (Some r) (Some at) E C x s6 s7 out is room =
      out.1.landed ∙ ap (option_map (landed at out.1.place)) is ∙ ap Some (
      ap (landed at out.1.place) (regrouped ls pre (body E C) (step x) (jump ∷ []) (at_line line (mid.JumpZ r 0)))
      ∙ (λ j. landed (at-is j) (place-is j) ((ls ++ pre) ++ at_line line (mid.JumpZ r 0) ∷ (body E C ++ step x ++ jump ∷ [])))
      ∙ landed-at (length (ls ++ whole i line (Some r) body step jump pre ls body_at E C 0 x)) (ls ++ pre) (at_line line (mid.JumpZ r 0))
      (body E C ++ step x ++ jump ∷ [])
      ∙ sym (regrouped ls pre (body E C) (step x) (jump ∷ [])
      (at_line line (mid.JumpZ r (length (ls ++ whole i line (Some r) body step jump pre ls body_at E C 0 x))))))
    where
      at-is : at ≡ length (ls ++ pre)
      at-is = (subst (IsHere at) (fit-some pre ls few room) out.0).0

      place-is : out.1.place ≡ length (ls ++ whole i line (Some r) body step jump pre ls body_at E C 0 x)
      place-is = (subst (IsHere out.1.place) is out.1.here).0
  out-some None (Some at) E C x s6 s7 out is room = absurd out
  out-some (Some r) None E C x s6 s7 out is room = absurd out

-- ---- code that grows by a loop

pub grown-added : (around : Around) (c : Code) (xs ls : List Line) (at : ℕ) → length ls + length xs ≡ at
    → grown around c (added xs (Some ls)) ≡ added (xs ++ c around at) (Some ls)
grown-added around c xs ls at is =
    grown-at around c xs ls ∙ ap (λ n. added (c around n) (added xs (Some ls))) is ∙ sym (added-append xs (c around at) (Some ls))

abbrev is-some : Lines → Type 0
is-some None = ⊥
is-some (Some ls) = Unit {0}

module _ (i : Inside) (around : Around) (line : ℕ) (r : Option ℕ) (body step : Code) (jump : Line) (pre ls : List Line) (few : length ls ≤ most_instructions)
    (body_at : ℕ) (starts : length ls + length pre + length (leaves_at i line r 0) ≡ body_at) (s2 : Lines) (front : s2 ≡ added pre (Some ls)) where
  abbrev pub inner : ℕ → ℕ → List Line
  inner b c = body (within i b c around) body_at

  at-body : (b c : ℕ) → grown (within i b c around) body (added (leaves_at i line r 0) s2) ≡ added (pre ++ leaves_at i line r 0 ++ inner b c) (Some ls)
  at-body b c =
      ap (λ s. grown (within i b c around) body (added (leaves_at i line r 0) s)) front
      ∙ ap (grown (within i b c around) body) (sym (added-append pre (leaves_at i line r 0) (Some ls)))
      ∙ grown-added (within i b c around) body (pre ++ leaves_at i line r 0) ls body_at (omega (arith, length-append pre (leaves_at i line r 0), starts))

  pub round-lines : (C E : ℕ) (at : Option ℕ) (s6 s7 : Lines)
      → ((b c : ℕ) → IsHere C (grown (within i b c around) body (added (leaves_at i line r 0) s2)))
      → s6 ≡ with_line jump (grown around step (grown (within i E C around) body (added (leaves_at i line r 0) s2)))
      → LeadsOut r at s2 s6 s7 → IsHere E s7
      → s7 ≡ added (whole i line r inner (step around) jump pre ls body_at
      (behind_loop i line r inner (step around) jump pre ls body_at) (next_round i line r inner (step around) jump pre ls body_at)
      (behind_loop i line r inner (step around) jump pre ls body_at) (next_round i line r inner (step around) jump pre ls body_at)) (Some ls)
  round-lines C E at s6 s7 here is out behind =
      loop-lines i line r inner (step around) jump pre ls body_at starts few C E s6 s7 (λ b c. subst (IsHere C) (at-body b c) (here b c)) all-is
      (out-none r at s2 s6 s7 out) some behind
    where
      x : ℕ
      x = body_at + length (inner E C)

      front-is : length ls + length (pre ++ leaves_at i line r 0 ++ inner E C) ≡ x
      front-is =
          let p3 = length-append (pre ++ leaves_at i line r 0) (inner E C) in
          let p4 = length-append pre (leaves_at i line r 0) in
          omega arith

      all-is : s6 ≡ added (whole i line r inner (step around) jump pre ls body_at E C 0 x) (Some ls)
      all-is =
          is ∙ ap (λ s. with_line jump (grown around step s)) (at-body E C)
          ∙ ap (with_line jump) (grown-added around step (pre ++ leaves_at i line r 0 ++ inner E C) ls x front-is)
          ∙ sym (added-append (pre ++ leaves_at i line r 0 ++ inner E C ++ step around x) (jump ∷ []) (Some ls))

      room : (y : ℕ) → s6 ≡ Some (ls ++ whole i line r inner (step around) jump pre ls body_at E C 0 y) → length ls + length pre ≤ most_instructions
      room y some = by (fits (whole i line r inner (step around) jump pre ls body_at E C 0 x) ls few)
        where
          longer : length ls + length pre ≤ length ls + length (whole i line r inner (step around) jump pre ls body_at E C 0 x)
          longer =
              let p1 = length-append (pre ++ leaves_at i line r 0 ++ inner E C ++ step around x) (jump ∷ []) in
              let p2 = length-append (pre ++ leaves_at i line r 0 ++ inner E C) (step around x) in
              omega (arith, p1, p2, front-is, starts)

          by : Fitting (whole i line r inner (step around) jump pre ls body_at E C 0 x) ls
              (added (whole i line r inner (step around) jump pre ls body_at E C 0 x) (Some ls))
              → length ls + length pre ≤ most_instructions
          by (inl f) = omega (arith, f.0, longer)
          by (inr f) = absurd (subst is-some (sym some ∙ all-is ∙ f.1) tt)

      some : (y : ℕ) → s6 ≡ Some (ls ++ whole i line r inner (step around) jump pre ls body_at E C 0 y)
          → s7 ≡ Some (ls ++ whole i line r inner (step around) jump pre ls body_at E C
          (length (ls ++ whole i line r inner (step around) jump pre ls body_at E C 0 y)) y)
      some y sum = out-some i line inner (step around) jump pre ls few body_at r at E C y s6 s7 (subst (λ s. LeadsOut r at s s6 s7) front out) sum (room y sum)

-- ---- the code of a loop

none-stays : (i : Inside) (around inside : Around) (line : ℕ) (r : Option ℕ) (body step : Code) (jump : Line) (s2 : Lines) → s2 ≡ None
    → with_line jump (grown around step (grown inside body (added (leaves_at i line r 0) s2))) ≡ None
unfolding with_line
none-stays i around inside line r body step jump s2 is =
    ap (λ s. with_line jump (grown around step (grown inside body (added (leaves_at i line r 0) s)))) is
    ∙ ap (λ s. with_line jump (grown around step (grown inside body s))) (added-none (leaves_at i line r 0))

module _ (i : Inside) (around : Around) (line : ℕ) (body : Code) (top C E : ℕ) where
  pub loop-grown : (r at : Option ℕ) (test step : Code) (s0 s2 s6 s7 : Lines)
      → IsHere top s0 → s2 ≡ grown around test (with_line (at_line line mid.Turn) s0)
      → ((b c : ℕ) → IsHere C (grown (within i b c around) body (added (leaves_at i line r 0) s2)))
      → s6 ≡ with_line (at_line line (mid.Jump top)) (grown around step (grown (within i E C around) body (added (leaves_at i line r 0) s2)))
      → LeadsOut r at s2 s6 s7 → IsHere E s7 → s7 ≡ grown around (loop_code i line r test body step) s0
  unfolding with_line
  loop-grown r at test step None s2 s6 s7 start front here is out behind =
      out-none r at s2 s6 s7 out (is ∙ none-stays i around (within i E C around) line r body step (at_line line (mid.Jump top)) s2 front)
  loop-grown r at test step (Some ls) s2 s6 s7 start front here is out behind =
      round-lines i around line r body step (at_line line (mid.Jump top)) pre ls start.1 body_at starts s2 front-is C E at s6 s7 here is out behind
      ∙ ap (λ n. added (whole i line r inside (step around) (at_line line (mid.Jump n)) pre ls body_at end next end next) (Some ls)) start.0
    where
      first : List Line
      first = test around (suc (length ls))

      pre : List Line
      pre = at_line line mid.Turn ∷ first

      body_at : ℕ
      body_at = suc (length ls) + length first + length (leaves_at i line r 0)

      inside : ℕ → ℕ → List Line
      inside b c = body (within i b c around) body_at

      next : ℕ
      next = body_at + length (body (within i 0 0 around) body_at)

      end : ℕ
      end = suc (next + length (step around next))

      starts : length ls + length pre + length (leaves_at i line r 0) ≡ body_at
      starts = omega arith

      front-is : s2 ≡ added pre (Some ls)
      front-is = front ∙ grown-added around test (at_line line mid.Turn ∷ []) ls (suc (length ls)) (omega arith)

  pub do-grown : (x : ℕ) (test : Code) (s0 s2 s6 : Lines)
      → IsHere top s0 → s2 ≡ with_line (at_line line mid.Turn) s0
      → ((b c : ℕ) → IsHere C (grown (within i b c around) body s2))
      → s6 ≡ with_line (at_line line (mid.JumpN x top)) (grown around test (grown (within i E C around) body s2))
      → IsHere E s6 → s6 ≡ grown around (do_code i line x body test) s0
  unfolding with_line
  do-grown x test None s2 s6 start front here is behind =
      is ∙ none-stays i around (within i E C around) line None body test (at_line line (mid.JumpN x top)) s2 front
  do-grown x test (Some ls) s2 s6 start front here is behind =
      round-lines i around line None body test (at_line line (mid.JumpN x top)) (at_line line mid.Turn ∷ []) ls start.1 (suc (length ls)) starts s2 front C E
      None s6 s6
      here is refl behind
      ∙ ap (λ n. added (whole i line None inside (test around) (at_line line (mid.JumpN x n)) (at_line line mid.Turn ∷ []) ls (suc (length ls)) end next end
      next) (Some ls)) start.0
    where
      inside : ℕ → ℕ → List Line
      inside b c = body (within i b c around) (suc (length ls))

      next : ℕ
      next = suc (length ls) + length (body (within i 0 0 around) (suc (length ls)))

      end : ℕ
      end = suc (next + length (test around next))

      starts : length ls + length (at_line line mid.Turn ∷ []) + length (leaves_at i line None 0) ≡ suc (length ls)
      starts = omega arith
