-- The operators of a level are those read at it since its start or its last `,`, `;`, `{` or `}`.
use Rattle.std.proofs.Common.{◌≡◌, ℕ, suc, ◌+◌, ◌-◌, Bool, true, false, List, [], ◌∷◌, map, refl, ap, sym, ◌∙◌, if◌then◌else◌, ◌==◌, nat_lt, arith}
use Rattle.std.proofs.lemmas.Bool.Decides.{nat_tests}
use Rattle.std.proofs.lemmas.Bool.{cond_both}
use Rattle.c_lexer.specs.declared.token.Token.{Token}
use Rattle.c_expr.specs.Codes.{code, one_of, open_bracket, close_bracket, open_paren, close_paren, open_brace, close_brace, comma, semicolon, do_word, else_word, while_word}
use Rattle.c_parser.specs.declared.nesting.Level.{Level}
use Rattle.c_parser.specs.Nesting.{Levels, at_start, behind_end, settled, found_by, around_closed, opened, closed, counted, is_nesting_word, is_operator, behind}
use Rattle.c_parser.specs.LevelTokens.{Read, closing, read_further, read_all, operators_since, levels_behind, operators_in}

-- ---- a level as a token finds it keeps its operators

end_keeps : (k : ℕ) (l : Level) → (behind_end k l).operators ≡ l.operators
end_keeps k l = by_dos (nat_lt 0 l.dos)
  where
    by_while : (b : Bool) → (if b then record l { dos = l.dos - 1 } else l).operators ≡ l.operators
    by_while true = refl
    by_while false = refl

    by_else : (b : Bool) → (if b then l else record l { words = 0 }).operators ≡ l.operators
    by_else true = refl
    by_else false = refl

    by_dos : (b : Bool) → (if b then (if k == while_word then record l { dos = l.dos - 1 } else l) else (if k == else_word then l else record l { words = 0 })).operators ≡ l.operators
    by_dos true = by_while (k == while_word)
    by_dos false = by_else (k == else_word)

settled_keeps : (k : ℕ) (l : Level) (b : Bool) → (settled l (behind_end k l) b).operators ≡ l.operators
settled_keeps k l true = end_keeps k l
settled_keeps k l false = refl

-- ---- one token more

word_resets : (k : ℕ) → is_nesting_word k ≡ true → one_of (comma ∷ semicolon ∷ open_brace ∷ close_brace ∷ []) k ≡ false
word_resets k e = grind (arith, nat_tests)

word_operates : (k : ℕ) → is_nesting_word k ≡ true → is_operator k ≡ false
word_operates k e = grind (arith, nat_tests)

operator_resets : (k : ℕ) → is_operator k ≡ true → one_of (comma ∷ semicolon ∷ open_brace ∷ close_brace ∷ []) k ≡ false
operator_resets k e = grind (arith, nat_tests)

reset_resets : (k : ℕ) → one_of (comma ∷ semicolon ∷ open_brace ∷ []) k ≡ true → one_of (comma ∷ semicolon ∷ open_brace ∷ close_brace ∷ []) k ≡ true
reset_resets k e = grind (arith, nat_tests)

nothing_resets : (k : ℕ) → one_of (comma ∷ semicolon ∷ open_brace ∷ []) k ≡ false → (k == close_brace) ≡ false → one_of (comma ∷ semicolon ∷ open_brace ∷ close_brace ∷ []) k ≡ false
nothing_resets k e f = grind (arith, nat_tests)

-- a token other than `}`, read at a level
counted_since : (k : ℕ) (l : Level) (ks : List ℕ) → (k == close_brace) ≡ false → l.operators ≡ operators_since ks → (counted k l).operators ≡ operators_since (k ∷ ks)
counted_since k l ks c e = by_word (is_nesting_word k) refl
  where
    by_do : (b : Bool) → (record l { words = l.words + 1; dos = (if b then l.dos + 1 else l.dos) }).operators ≡ l.operators
    by_do true = refl
    by_do false = refl

    by_reset : (b : Bool) → one_of (comma ∷ semicolon ∷ open_brace ∷ []) k ≡ b → is_operator k ≡ false → (if b then record l { operators = 0 } else l).operators ≡ operators_since (k ∷ ks)
    by_reset true r o = rw (reset_resets k r) refl
    by_reset false r o = rw (nothing_resets k r c, o) e

    by_operator : (b : Bool) → is_operator k ≡ b → (if b then record l { operators = l.operators + 1 } else (if one_of (comma ∷ semicolon ∷ open_brace ∷ []) k then record l { operators = 0 } else l)).operators ≡ operators_since (k ∷ ks)
    by_operator true o = rw (operator_resets k o, o) (ap (λ n. n + 1) e)
    by_operator false o = by_reset (one_of (comma ∷ semicolon ∷ open_brace ∷ []) k) refl o

    by_word : (b : Bool) → is_nesting_word k ≡ b
        → (if b then record l { words = l.words + 1; dos = (if k == do_word then l.dos + 1 else l.dos) } else (if is_operator k then record l { operators = l.operators + 1 } else (if one_of (comma ∷ semicolon ∷ open_brace ∷ []) k then record l { operators = 0 } else l))).operators ≡ operators_since (k ∷ ks)
    by_word true w = rw (word_resets k w, word_operates k w) e
    by_word false w = by_operator (is_operator k) refl

close_word : (k : ℕ) → one_of (close_paren ∷ close_bracket ∷ close_brace ∷ []) k ≡ true → is_nesting_word k ≡ false
close_word k e = grind (arith, nat_tests)

close_operates : (k : ℕ) → one_of (close_paren ∷ close_bracket ∷ close_brace ∷ []) k ≡ true → is_operator k ≡ false
close_operates k e = grind (arith, nat_tests)

close_counts : (k : ℕ) → one_of (close_paren ∷ close_bracket ∷ close_brace ∷ []) k ≡ true → one_of (comma ∷ semicolon ∷ open_brace ∷ []) k ≡ false
close_counts k e = grind (arith, nat_tests)

brace_resets : (k : ℕ) → (k == close_brace) ≡ true → one_of (comma ∷ semicolon ∷ open_brace ∷ close_brace ∷ []) k ≡ true
brace_resets k e = grind (arith, nat_tests)

-- a bracket that closes, read at the level around it
closed_since : (k : ℕ) (l : Level) (ks : List ℕ) (b : Bool) → (k == close_brace) ≡ b → one_of (close_paren ∷ close_bracket ∷ close_brace ∷ []) k ≡ true → l.operators ≡ operators_since ks
    → (around_closed b l).operators ≡ operators_since (k ∷ ks)
closed_since k l ks true c e h = rw (brace_resets k c) refl
closed_since k l ks false c e h = rw (nothing_resets k (close_counts k e) c, close_operates k e) h

close_keeps : (k : ℕ) (l : Level) → one_of (close_paren ∷ close_bracket ∷ close_brace ∷ []) k ≡ true → counted k l ≡ l
close_keeps k l e = rw (close_word k e, close_operates k e, close_counts k e) refl

no_brace_opens : (k : ℕ) → one_of (open_paren ∷ open_bracket ∷ open_brace ∷ []) k ≡ true → (k == close_brace) ≡ false
no_brace_opens k e = grind (arith, nat_tests)

no_brace_else : (k : ℕ) → one_of (close_paren ∷ close_bracket ∷ close_brace ∷ []) k ≡ false → (k == close_brace) ≡ false
no_brace_else k e = grind (arith, nat_tests)

abbrev Same : Levels → Read → Type 0
Same s ls = operators_in s ≡ map operators_since ls

both : {a b : ℕ} {xs ys : List ℕ} → a ≡ b → xs ≡ ys → a ∷ xs ≡ b ∷ ys
both e f = cc

front_same : {a b : ℕ} {xs ys : List ℕ} → a ∷ xs ≡ b ∷ ys → (a ≡ b) × (xs ≡ ys)
front_same e = (cc, cc)

closed_same : (k : ℕ) (l : Level) (others : List Level) (ks : List ℕ) (ls : Read) → one_of (close_paren ∷ close_bracket ∷ close_brace ∷ []) k ≡ true → l.operators ≡ operators_since ks
    → map (λ o. o.operators) others ≡ map operators_since ls → Same (closed (counted k l) (k == close_brace) others) (closing k ks ls)
closed_same k l [] ks [] e h i = rw (close_keeps k l e) (both (closed_since k l ks (k == close_brace) refl e h) refl)
closed_same k l [] ks (m ∷ ms) e h i = absurd (cc)
closed_same k l (o ∷ os) ks [] e h i = absurd (cc)
closed_same k l (o ∷ os) ks (m ∷ ms) e h i = both (closed_since k o m (k == close_brace) refl e (front_same i).0) (front_same i).1

behind_same : (k : ℕ) (l : Level) (others : List Level) (ks : List ℕ) (ls : Read) → l.operators ≡ operators_since ks → map (λ o. o.operators) others ≡ map operators_since ls
    → Same (behind k (record { innermost = l; others = others; ended = false })) (read_further k (ks ∷ ls))
unfolding behind read_further
behind_same k l others ks ls h i = by_open (one_of (open_paren ∷ open_bracket ∷ open_brace ∷ []) k) refl
  where
    by_close : (b : Bool) → one_of (close_paren ∷ close_bracket ∷ close_brace ∷ []) k ≡ b
        → Same (if b then closed (counted k l) (k == close_brace) others else record { innermost = counted k l; others = others; ended = k == semicolon }) (if b then closing k ks ls else (k ∷ ks) ∷ ls)
    by_close true e = closed_same k l others ks ls e h i
    by_close false e = both (counted_since k l ks (no_brace_else k e) h) i

    by_open : (b : Bool) → one_of (open_paren ∷ open_bracket ∷ open_brace ∷ []) k ≡ b
        → Same (if b then opened (counted k l) (k == open_brace) others else (if one_of (close_paren ∷ close_bracket ∷ close_brace ∷ []) k then closed (counted k l) (k == close_brace) others else record { innermost = counted k l; others = others; ended = k == semicolon })) (if b then [] ∷ (k ∷ ks) ∷ ls else (if one_of (close_paren ∷ close_bracket ∷ close_brace ∷ []) k then closing k ks ls else (k ∷ ks) ∷ ls))
    by_open true e = both refl (both (counted_since k l ks (no_brace_opens k e) h) i)
    by_open false e = by_close (one_of (close_paren ∷ close_bracket ∷ close_brace ∷ []) k) refl

step_same : (k : ℕ) (s : Levels) (ls : Read) → Same s ls → Same (behind k (found_by k s)) (read_further k ls)
unfolding found_by
step_same k s [] e = absurd (cc)
step_same k s (ks ∷ ls) e = behind_same k (settled s.innermost (behind_end k s.innermost) s.ended) s.others ks ls (settled_keeps k s.innermost s.ended ∙ (front_same e).0) (front_same e).1

all_same : (s : Levels) (ls : Read) (tokens : List Token) → Same s ls → Same (levels_behind s tokens) (read_all ls tokens)
all_same s ls [] e = e
all_same s ls (t ∷ rest) e = all_same (behind (code t) (found_by (code t) s)) (read_further (code t) ls) rest (step_same (code t) s ls e)

pub operators_are : (tokens : List Token) → operators_in (levels_behind at_start tokens) ≡ map operators_since (read_all ([] ∷ []) tokens)
operators_are tokens = all_same at_start ([] ∷ []) tokens refl
