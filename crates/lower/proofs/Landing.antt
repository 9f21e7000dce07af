-- What becomes of the code when a jump in it is led to the place behind it.
use Rattle.std.proofs.Common.{◌≡◌, ◌≤◌, ℕ, zero, suc, ◌+◌, Bool, true, false, List, [], ◌∷◌, ◌++◌, length, Option, Some, None, option_map, refl, sym, ◌∙◌, ap, subst, arith, nat_lt}
use Rattle.std.proofs.lemmas.List.{length-append, append_assoc}
use Rattle.mid_code.specs.declared.mid.Mid.{Mid}
use Rattle.mid_code.specs.declared.mid.Mid.TheVariants as mid
use Rattle.lower.specs.Emitting.{Line, Code, ◌⨟◌, at_line, one_at, jumped, parted, Around}
use Rattle.lower.specs.SoFar.{Lines, with_line, if_room, added, grown, landed, line_to, IsHere, most_instructions}
use Rattle.lower.specs.Jumps.{LandsIn}
use Rattle.lower.proofs.Growing.{added-none, grown-behind}

-- ---- code that fits

length-more : (ls : List Line) (l : Line) → length (ls ++ l ∷ []) ≡ suc (length ls)
length-more ls l = length-append ls (l ∷ []) ∙ omega arith

some-of : {x y : List Line} → Some x ≡ Some y → x ≡ y
some-of {x} {y} is = ap back is
  where
    back : Option (List Line) → List Line
    back None = x
    back (Some z) = z

pub added-length : (xs ls ms : List Line) → added xs (Some ls) ≡ Some ms → length ms ≡ length ls + length xs
unfolding with_line
added-length [] ls ms is = ap length (sym (some-of is)) ∙ omega arith
added-length (x ∷ xs) ls ms is = by (added-length xs (ls ++ x ∷ []) ms) (nat_lt (length ls) most_instructions) is
  where
    by : (added xs (Some (ls ++ x ∷ [])) ≡ Some ms → length ms ≡ length (ls ++ x ∷ []) + length xs)
        → (b : Bool) → added xs (if_room x ls b) ≡ Some ms → length ms ≡ length ls + suc (length xs)
    by more true e = more e ∙ ap (λ n. n + length xs) (length-more ls x) ∙ omega arith
    by more false e = absurd (apart (sym (added-none xs) ∙ e))
      where
        is-none : Option (List Line) → Type 0
        is-none None = Unit {0}
        is-none (Some z) = ⊥

        apart : None ≡ Some ms → ⊥
        apart h = subst is-none h tt

-- ---- a jump in the code

pub length-landed : (at to : ℕ) (ls : List Line) → length (landed at to ls) ≡ length ls
length-landed at to [] = refl
length-landed zero to (l ∷ ls) = refl
length-landed (suc at) to (l ∷ ls) = ap suc (length-landed at to ls)

pub here-landed : (place at to : ℕ) (s : Lines) → IsHere place s → IsHere place (option_map (landed at to) s)
here-landed place at to None here = here
here-landed place at to (Some ls) here = (here.0 ∙ sym (length-landed at to ls), subst (λ n. n ≤ most_instructions) (sym (length-landed at to ls)) here.1)

pub landed-at : (to : ℕ) (ls : List Line) (l : Line) (ms : List Line) → landed (length ls) to (ls ++ l ∷ ms) ≡ ls ++ line_to to l ∷ ms
landed-at to [] l ms = refl
landed-at to (x ∷ ls) l ms = ap (λ z. x ∷ z) (landed-at to ls l ms)

same-length : (ls : List Line) (l k : Line) (ms : List Line) → length (ls ++ l ∷ ms) ≡ length (ls ++ k ∷ ms)
same-length ls l k ms = length-append ls (l ∷ ms) ∙ sym (length-append ls (k ∷ ms))

-- whatever comes behind
pub landed-added : (to : ℕ) (xs ls : List Line) (l : Line) (ms : List Line)
    → option_map (landed (length ls) to) (added xs (Some (ls ++ l ∷ ms))) ≡ added xs (Some (ls ++ line_to to l ∷ ms))
unfolding with_line
landed-added to [] ls l ms = ap Some (landed-at to ls l ms)
landed-added to (x ∷ xs) ls l ms =
    by (landed-added to xs ls l (ms ++ x ∷ [])) (nat_lt (length (ls ++ l ∷ ms)) most_instructions)
    ∙ ap (λ n. added xs (if_room x (ls ++ line_to to l ∷ ms) (nat_lt n most_instructions))) (same-length ls l (line_to to l) ms)
  where
    by : option_map (landed (length ls) to) (added xs (Some (ls ++ l ∷ (ms ++ x ∷ [])))) ≡ added xs (Some (ls ++ line_to to l ∷ (ms ++ x ∷ [])))
        → (b : Bool) → option_map (landed (length ls) to) (added xs (if_room x (ls ++ l ∷ ms) b)) ≡ added xs (if_room x (ls ++ line_to to l ∷ ms) b)
    by more true =
        ap (λ z. option_map (landed (length ls) to) (added xs (Some z))) (append_assoc ls (l ∷ ms) (x ∷ []))
        ∙ more
        ∙ ap (λ z. added xs (Some z)) (sym (append_assoc ls (line_to to l ∷ ms) (x ∷ [])))
    by more false = ap (option_map (landed (length ls) to)) (added-none xs) ∙ sym (added-none xs)

-- the place behind is known
landed-behind : (at place n to : ℕ) (s : Lines) → at ≡ n → ((ms : List Line) → s ≡ Some ms → length ms ≡ to) → IsHere place s
    → option_map (landed at place) s ≡ option_map (landed n to) s
landed-behind at place n to None start end here = refl
landed-behind at place n to (Some ms) start end here = λ i. Some (landed (start i) ((here.0 ∙ end ms refl) i) ms)

-- ---- the same code

pub same-code : (around : Around) (c d : Code) → ((start : ℕ) → c around start ≡ d around start) → (s : Lines) → grown around c s ≡ grown around d s
same-code around c d is None = refl
same-code around c d is (Some ls) = ap (λ xs. added xs (Some ls)) (is (length ls))

-- one instruction more
pub one-more : (around : Around) (line : ℕ) (m : Mid) (s : Lines) → with_line (at_line line m) s ≡ grown around (one_at line (λ start. m)) s
unfolding with_line
one-more around line m None = refl
one-more around line m (Some ls) = refl

-- ---- code behind a jump over it

module _ (around : Around) (line : ℕ) (jump : ℕ → Mid) (c : Code) (led : (to : ℕ) → line_to to (at_line line (jump 0)) ≡ at_line line (jump to)) where
  abbrev waiting : Line
  waiting = at_line line (jump 0)

  -- the jump leads to the place behind, once it is reached
  pub behind-jump : (at : ℕ) (s0 s2 s3 : Lines) → IsHere at s0 → s2 ≡ grown around c (with_line (at_line line (jump 0)) s0) → LandsIn at s2 s3
      → s3 ≡ grown around (jumped line jump c) s0
  unfolding with_line
  behind-jump at None s2 s3 here is lands = lands.landed ∙ ap (option_map (landed at lands.place)) is
  behind-jump at (Some ls) s2 s3 here is lands = by (nat_lt (length ls) most_instructions) is
    where
      skipped : List Line
      skipped = c around (suc (length ls))

      to : ℕ
      to = suc (length ls) + length skipped

      filled : s2 ≡ added skipped (Some (ls ++ waiting ∷ [])) → s3 ≡ added skipped (Some (ls ++ at_line line (jump to) ∷ []))
      filled e =
          lands.landed
          ∙ landed-behind at lands.place (length ls) to s2 here.0 end lands.here
          ∙ ap (option_map (landed (length ls) to)) e
          ∙ landed-added to skipped ls waiting []
          ∙ ap (λ l. added skipped (Some (ls ++ l ∷ []))) (led to)
        where
          end : (ms : List Line) → s2 ≡ Some ms → length ms ≡ to
          end ms h = added-length skipped (ls ++ waiting ∷ []) ms (sym e ∙ h) ∙ ap (λ n. n + length skipped) (length-more ls waiting)

      by : (b : Bool) → s2 ≡ grown around c (if_room waiting ls b) → s3 ≡ added skipped (if_room (at_line line (jump to)) ls b)
      by true e = filled (e ∙ ap (λ n. added (c around n) (Some (ls ++ waiting ∷ []))) (length-more ls waiting))
      by false e = lands.landed ∙ ap (option_map (landed at lands.place)) e ∙ sym (added-none skipped)

-- ---- two ways, of which the second begins behind the first

module _ (around : Around) (line : ℕ) (jump : ℕ → Mid) (c : Code) (led : (to : ℕ) → line_to to (at_line line (jump 0)) ≡ at_line line (jump to)) where
  -- the first way, behind its jump
  abbrev first_way : Code
  first_way around' start = at_line line (jump (suc (suc start + length (c around' (suc start))))) ∷ c around' (suc start)

  here-first : (place : ℕ) (s : Lines) → IsHere place (grown around c (with_line (at_line line (jump 0)) s)) → IsHere place (grown around first_way s)
  unfolding with_line
  here-first place None here = here
  here-first place (Some ls) here = by (nat_lt (length ls) most_instructions) here
    where
      first : List Line
      first = c around (suc (length ls))

      to : ℕ
      to = suc (suc (length ls) + length first)

      by : (b : Bool) → IsHere place (grown around c (if_room (at_line line (jump 0)) ls b)) → IsHere place
          (added first (if_room (at_line line (jump to)) ls b))
      by true h =
          subst (IsHere place) (landed-added to first ls (at_line line (jump 0)) [] ∙ ap (λ l. added first (Some (ls ++ l ∷ []))) (led to))
          (here-landed place (length ls) to (added first (Some (ls ++ at_line line (jump 0) ∷ [])))
          (subst (λ n. IsHere place (added (c around n) (Some (ls ++ at_line line (jump 0) ∷ [])))) (length-more ls (at_line line (jump 0))) h))
      by false h = subst (IsHere place) (sym (added-none first)) h

  -- the jump behind the first way
  abbrev over_it : Code
  over_it = one_at line (λ start. mid.Jump 0)

  turned : (start : ℕ) → jumped line jump (c ⨟ over_it) around start ≡ (first_way ⨟ over_it) around start
  turned start = ap (λ n. at_line line (jump n) ∷ (c around (suc start) ++ at_line line (mid.Jump 0) ∷ []))
      (ap (λ n. suc start + n) (length-more (c around (suc start)) (at_line line (mid.Jump 0))) ∙ omega arith)

  first-done : (at : ℕ) (s0 s2 s3 : Lines) → IsHere at s0 → s2 ≡ grown around c (with_line (at_line line (jump 0)) s0)
      → LandsIn at (with_line (at_line line (mid.Jump 0)) s2) s3 → s3 ≡ with_line (at_line line (mid.Jump 0)) (grown around first_way s0)
  first-done at s0 s2 s3 here is lands =
      behind-jump around line jump (c ⨟ over_it) led at s0 (with_line (at_line line (mid.Jump 0)) s2) s3 here
      (one-more around line (mid.Jump 0) s2 ∙ ap (grown around over_it) is ∙ grown-behind around c over_it (with_line (at_line line (jump 0)) s0)) lands
      ∙ same-code around (jumped line jump (c ⨟ over_it)) (first_way ⨟ over_it) turned s0
      ∙ sym (grown-behind around first_way over_it s0)
      ∙ sym (one-more around line (mid.Jump 0) (grown around first_way s0))

-- the jump over the second way leads to the place behind that one
pub behind-both : (around : Around) (line : ℕ) (jump : ℕ → Mid) (c d : Code) → ((to : ℕ) → line_to to (at_line line (jump 0)) ≡ at_line line (jump to))
    → (at over : ℕ) (s0 s2 s3 s4 s5 : Lines)
    → IsHere at s0 → s2 ≡ grown around c (with_line (at_line line (jump 0)) s0)
    → IsHere over s2 → LandsIn at (with_line (at_line line (mid.Jump 0)) s2) s3
    → s4 ≡ grown around d s3 → LandsIn over s4 s5
    → s5 ≡ grown around (parted line jump c d) s0
behind-both around line jump c d led at over s0 s2 s3 s4 s5 here is here-over lands grows lands-over =
    behind-jump around line mid.Jump d (λ to. refl) over (grown around (first_way around line jump c led) s0) s4 s5
    (here-first around line jump c led over s0 (subst (IsHere over) is here-over))
    (grows ∙ ap (grown around d) (first-done around line jump c led at s0 s2 s3 here is lands)) lands-over
    ∙ grown-behind around (first_way around line jump c led) (jumped line mid.Jump d) s0
    ∙ same-code around (first_way around line jump c led ⨟ jumped line mid.Jump d) (parted line jump c d) both s0
  where
    both : (start : ℕ) → (first_way around line jump c led ⨟ jumped line mid.Jump d) around start ≡ parted line jump c d around start
    both start =
        ap (λ n. at_line line (jump (suc (suc start + length (c around (suc start))))) ∷
        (c around (suc start) ++ at_line line (mid.Jump (n + length (d around n))) ∷ d around n))
        (behind start (length (c around (suc start))))
      where
        behind : (start n : ℕ) → suc (start + suc n) ≡ suc (suc start + n)
        behind start n = omega arith
