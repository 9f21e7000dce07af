-- Levels stay small, and each token's nesting is that of the levels so far.
use Rattle.std.proofs.Common.{◌≡◌, ℕ, zero, suc, ◌+◌, ◌-◌, ◌≤◌, ◌<◌, Bool, true, false, List, [], ◌∷◌, length, drop, get_or, refl, ap, sym, ◌∙◌, subst, Option, Some, None, option_map, if◌then◌else◌, ◌==◌, nat_lt, arith, rules}
use Rattle.c_lexer.specs.declared.token.Token.{Token}
use Rattle.c_parser.specs.declared.nesting.Level.{Level}
use Rattle.c_expr.specs.Codes.{code, one_of, open_bracket, close_bracket, open_paren, close_paren, open_brace, close_brace, comma, semicolon, do_word, else_word, while_word}
use Rattle.c_parser.specs.Nesting.{Levels, behind_end, settled, found_by, opened, closed, counted, is_nesting_word, is_operator, behind, weight, around, nesting_in, nestings, first_above, first_too_deep, at_start, max_nesting}
use Rattle.c_expr.proofs.Alike.{some_same}
use Rattle.c_parser.specs.LevelStack.{levels_of, IsCounted, IsTame, AreTame}
use Rattle.c_parser.specs.declared.nesting.LevelStack.{LevelStack}

-- a place so many places on
abbrev pub later : ℕ → Option ℕ → Option ℕ
later k o = option_map (λ j. k + j) o

later_next : (k : ℕ) (o : Option ℕ) → later k (option_map (λ j. suc j) o) ≡ later (k + 1) o
later_next k None = refl
later_next k (Some j) = let e : k + suc j ≡ k + 1 + j = omega arith in ap Some e

-- ---- a level as a token finds it

abbrev Below : Level → Level → Type 0
Below a b = (a.operators ≤ b.operators) × (a.words ≤ b.words) × (IsTame b → IsTame a)

below_same : (l : Level) → Below l l
below_same l = (omega arith, omega arith, λ h. h)

none_open : (d : ℕ) → nat_lt 0 d ≡ false → d ≤ 0
none_open d e = grind (arith, e)

end_below : (k : ℕ) (l : Level) → Below (behind_end k l) l
end_below k l = by_dos (nat_lt 0 l.dos) refl
  where
    by_while : (b : Bool) → Below (if b then record l { dos = l.dos - 1 } else l) l
    by_while true = (omega arith, omega arith, λ h. omega (arith, h))
    by_while false = below_same l

    by_else : (b : Bool) → l.dos ≤ 0 → Below (if b then l else record l { words = 0 }) l
    by_else true h = below_same l
    by_else false h = (omega arith, omega arith, λ _. h)

    by_dos : (b : Bool) → nat_lt 0 l.dos ≡ b → Below (if b then (if k == while_word then record l { dos = l.dos - 1 } else l) else (if k == else_word then l else record l { words = 0 })) l
    by_dos true e = by_while (k == while_word)
    by_dos false e = by_else (k == else_word) (none_open l.dos e)

settled_below : (k : ℕ) (l : Level) (b : Bool) → Below (settled l (behind_end k l) b) l
settled_below k l true = end_below k l
settled_below k l false = below_same l

pub found_below : (k : ℕ) (s : Levels) → Below (found_by k s).innermost s.innermost
unfolding found_by
found_below k s = settled_below k s.innermost s.ended

-- ---- a level with a token more

abbrev Grows : Level → Level → Type 0
Grows a b = (weight a ≤ weight b + 1) × (IsTame b → IsTame a)

counted_grows : (k : ℕ) (l : Level) → Grows (counted k l) l
counted_grows k l = by_word (is_nesting_word k)
  where
    by_do : (b : Bool) → Grows (record l { words = l.words + 1; dos = (if b then l.dos + 1 else l.dos) }) l
    by_do true = (omega arith, λ h. omega (arith, h))
    by_do false = (omega arith, λ h. omega (arith, h))

    by_reset : (b : Bool) → Grows (if b then record l { operators = 0 } else l) l
    by_reset true = (omega arith, λ h. h)
    by_reset false = (omega arith, λ h. h)

    by_operator : (b : Bool) → Grows (if b then record l { operators = l.operators + 1 } else (if one_of (comma ∷ semicolon ∷ open_brace ∷ []) k then record l { operators = 0 } else l)) l
    by_operator true = (omega arith, λ h. h)
    by_operator false = by_reset (one_of (comma ∷ semicolon ∷ open_brace ∷ []) k)

    by_word : (b : Bool) → Grows (if b then record l { words = l.words + 1; dos = (if k == do_word then l.dos + 1 else l.dos) } else (if is_operator k then record l { operators = l.operators + 1 } else (if one_of (comma ∷ semicolon ∷ open_brace ∷ []) k then record l { operators = 0 } else l))) l
    by_word true = by_do (k == do_word)
    by_word false = by_operator (is_operator k)

abbrev All_tame : Levels → Type 0
All_tame s = AreTame (s.innermost ∷ s.others)

abbrev Steps : Levels → Level → List Level → Type 0
Steps s l others = (nesting_in s ≤ around others + weight l + 2) × (AreTame (l ∷ others) → All_tame s)

closed_steps : (here l : Level) (b : Bool) (others : List Level) → Grows here l → Steps (closed here b others) l others
unfolding nesting_in
closed_steps here l true [] g = let h = g.0 in (omega arith, λ t. (g.1 t.0, tt))
closed_steps here l false [] g = let h = g.0 in (omega arith, λ t. (g.1 t.0, tt))
closed_steps here l true (o ∷ os) g = (omega arith, λ t. t.1)
closed_steps here l false (o ∷ os) g = (omega arith, λ t. t.1)

behind_steps : (k : ℕ) (l : Level) (others : List Level) → Steps (behind k (record { innermost = l; others = others; ended = false })) l others
unfolding behind nesting_in
behind_steps k l others = by_open (one_of (open_paren ∷ open_bracket ∷ open_brace ∷ []) k)
  where
    by_close : (b : Bool) → Steps (if b then closed (counted k l) (k == close_brace) others else record { innermost = counted k l; others = others; ended = k == semicolon }) l others
    by_close true = closed_steps (counted k l) l (k == close_brace) others (counted_grows k l)
    by_close false = let g = (counted_grows k l).0 in (omega (arith, g), λ t. ((counted_grows k l).1 t.0, t.1))

    by_open : (b : Bool) → Steps (if b then opened (counted k l) (k == open_brace) others else (if one_of (close_paren ∷ close_bracket ∷ close_brace ∷ []) k then closed (counted k l) (k == close_brace) others else record { innermost = counted k l; others = others; ended = k == semicolon })) l others
    by_open true = let g = (counted_grows k l).0 in (omega (arith, g), λ t. (omega arith, ((counted_grows k l).1 t.0, t.1)))
    by_open false = by_close (one_of (close_paren ∷ close_bracket ∷ close_brace ∷ []) k)

pub behind_small : (k : ℕ) (l : Level) (others : List Level) → nesting_in (behind k (record { innermost = l; others = others; ended = false })) ≤ around others + weight l + 2
behind_small k l others = (behind_steps k l others).0

pub behind_tame : (k : ℕ) (l : Level) (others : List Level) → AreTame (l ∷ others) → All_tame (behind k (record { innermost = l; others = others; ended = false }))
behind_tame k l others h = (behind_steps k l others).1 h

pub found_tame : (k : ℕ) (s : Levels) → All_tame s → AreTame ((found_by k s).innermost ∷ s.others)
found_tame k s h = ((found_below k s).2 h.0, h.1)

-- ---- the search for the first token

pub here_deep : (at : ℕ) (s : Levels) (t : Token) (rest : List Token) → max_nesting < nesting_in (found_by (code t) s) → later at (first_above (nestings s (t ∷ rest))) ≡ Some at
unfolding nestings first_above
here_deep at s t rest h =
    let b : nat_lt max_nesting (nesting_in (found_by (code t) s)) ≡ true = search rules in
    let e : at + 0 ≡ at = omega arith in
    ap (λ v. later at (if v then Some 0 else option_map (λ k. suc k) (first_above (nestings (behind (code t) (found_by (code t) s)) rest)))) b ∙ ap Some e

pub not_here : (at : ℕ) (s : Levels) (t : Token) (rest : List Token) → nesting_in (found_by (code t) s) ≤ max_nesting → later at (first_above (nestings s (t ∷ rest))) ≡ later (at + 1) (first_above (nestings (behind (code t) (found_by (code t) s)) rest))
unfolding nestings first_above
not_here at s t rest h =
    let b : nat_lt max_nesting (nesting_in (found_by (code t) s)) ≡ false = search rules in
    ap (λ v. later at (if v then Some 0 else option_map (λ k. suc k) (first_above (nestings (behind (code t) (found_by (code t) s)) rest)))) b
    ∙ later_next at (first_above (nestings (behind (code t) (found_by (code t) s)) rest))

pub at_end : (at : ℕ) (s : Levels) → later at (first_above (nestings s [])) ≡ None
unfolding nestings first_above
at_end at s = refl

pub later_zero : (o : Option ℕ) → later 0 o ≡ o
later_zero None = refl
later_zero (Some j) = let e : 0 + j ≡ j = omega arith in ap Some e

-- what a token finds is the levels with another innermost one
pub found_form : (k : ℕ) (s : Levels) → found_by k s ≡ record { innermost = (found_by k s).innermost; others = s.others; ended = false }
unfolding found_by
found_form k s = refl

pub found_nesting : (k : ℕ) (s : Levels) → nesting_in (found_by k s) ≡ around s.others + weight (found_by k s).innermost
unfolding found_by nesting_in
found_nesting k s = refl

drop_past : (tokens : List Token) (at : ℕ) → length tokens ≤ at → drop at tokens ≡ []
drop_past [] zero h = refl
drop_past [] (suc at) h = refl
drop_past (t ∷ tokens) zero h = absurd (omega arith)
drop_past (t ∷ tokens) (suc at) h = drop_past tokens at (omega arith)

pub drop_at : (tokens : List Token) (at : ℕ) (d : Token) → at < length tokens → drop at tokens ≡ get_or tokens at d ∷ drop (at + 1) tokens
drop_at [] at d h = absurd (omega arith)
drop_at (t ∷ tokens) zero d h = refl
drop_at (t ∷ tokens) (suc at) d h =
    let e : suc at + 1 ≡ suc (at + 1) = omega arith in
    drop_at tokens at d (omega arith) ∙ ap (λ n. get_or tokens at d ∷ drop n (t ∷ tokens)) (sym e)

-- the nesting of a token that finds a level, by what is counted around it
pub nesting_of : (k outer : ℕ) (s : Levels) (found : Level) → outer ≡ around s.others → found ≡ (found_by k s).innermost → nesting_in (found_by k s) ≡ outer + weight found
nesting_of k outer s found e d = found_nesting k s ∙ (ap (λ n. n + weight (found_by k s).innermost) (sym e) ∙ ap (λ l. outer + weight l) (sym d))

-- the levels behind it
pub behind_of : (k : ℕ) (s : Levels) (found : Level) → found ≡ (found_by k s).innermost → behind k (found_by k s) ≡ behind k (record { innermost = found; others = s.others; ended = false })
behind_of k s found d = ap (behind k) (found_form k s ∙ ap (λ l. record { innermost = l; others = s.others; ended = false }) (sym d))

pub deep_at : (tokens : List Token) (at k : ℕ) (d : Token) (s : Levels) → at < length tokens → k ≡ code (get_or tokens at d) → max_nesting < nesting_in (found_by k s)
    → later at (first_above (nestings s (drop at tokens))) ≡ Some at
deep_at tokens at k d s h e deep =
    ap (λ v. later at (first_above (nestings s v))) (drop_at tokens at d h)
    ∙ here_deep at s (get_or tokens at d) (drop (at + 1) tokens) (let P : ℕ → Type 0 = λ j. max_nesting < nesting_in (found_by j s) in subst P e deep)

pub past_at : (tokens : List Token) (at k : ℕ) (d : Token) (s : Levels) → at < length tokens → k ≡ code (get_or tokens at d) → nesting_in (found_by k s) ≤ max_nesting
    → later at (first_above (nestings s (drop at tokens))) ≡ later (at + 1) (first_above (nestings (behind k (found_by k s)) (drop (at + 1) tokens)))
past_at tokens at k d s h e low =
    ap (λ v. later at (first_above (nestings s v))) (drop_at tokens at d h)
    ∙ (not_here at s (get_or tokens at d) (drop (at + 1) tokens) (let P : ℕ → Type 0 = λ j. nesting_in (found_by j s) ≤ max_nesting in subst P e low)
    ∙ ap (λ j. later (at + 1) (first_above (nestings (behind j (found_by j s)) (drop (at + 1) tokens)))) (sym e))

pub end_at : (tokens : List Token) (at : ℕ) (s : Levels) → length tokens ≤ at → later at (first_above (nestings s (drop at tokens))) ≡ None
end_at tokens at s h = ap (λ v. later at (first_above (nestings s v))) (drop_past tokens at h) ∙ at_end at s

-- the size of the levels as the code keeps them
pub nesting_after : (new : LevelStack) (s : Levels) → levels_of new ≡ s → IsCounted new → nesting_in s ≤ 402 → new.outer + weight new.innermost ≤ 402
unfolding nesting_in
nesting_after new s e counted small =
    let same : nesting_in (levels_of new) ≡ nesting_in s = ap nesting_in e in omega (arith, counted, same, small)

above_within : (tokens : List Token) (s : Levels) (k : ℕ) → first_above (nestings s tokens) ≡ Some k → k < length tokens
unfolding nestings first_above
above_within [] s k e = absurd (cc)
above_within (t ∷ rest) s k e = by_test (nat_lt max_nesting (nesting_in (found_by (code t) s))) (first_above (nestings (behind (code t) (found_by (code t) s)) rest)) (λ j d. above_within rest (behind (code t) (found_by (code t) s)) j d) e
  where
    next_within : (o : Option ℕ) → ((j : ℕ) → o ≡ Some j → j < length rest) → option_map (λ j. suc j) o ≡ Some k → k < length (t ∷ rest)
    next_within None h d = absurd (cc)
    next_within (Some j) h d = let same : suc j ≡ k = some_same d in let low = h j refl in omega (arith, same, low)

    by_test : (b : Bool) (o : Option ℕ) → ((j : ℕ) → o ≡ Some j → j < length rest) → (if b then Some 0 else option_map (λ j. suc j) o) ≡ Some k → k < length (t ∷ rest)
    by_test true o h d = let same : 0 ≡ k = some_same d in omega (arith, same)
    by_test false o h d = next_within o h d

-- the first token that is nested too deeply is one of the tokens
pub deep_within : (tokens : List Token) (at : ℕ) → first_too_deep tokens ≡ Some at → at < length tokens
unfolding first_too_deep
deep_within tokens at e = above_within tokens at_start at e
