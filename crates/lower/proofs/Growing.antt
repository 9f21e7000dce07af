-- How code grows: part by part, as the parts stand behind one another.
use Rattle.std.proofs.Common.{◌≡◌, ℕ, suc, ◌+◌, nat_lt, Bool, true, false, List, [], ◌∷◌, ◌++◌, length, Some, None, refl, sym, ◌∙◌, ap, arith}
use Rattle.std.proofs.lemmas.List.{length-append}
use Rattle.lower.specs.Emitting.{Line, Code, ◌⨟◌, no_code, Around}
use Rattle.lower.specs.SoFar.{Lines, with_line, if_room, added, grown, most_instructions}

pub added-none : (xs : List Line) → added xs None ≡ None
unfolding with_line
added-none [] = refl
added-none (x ∷ xs) = added-none xs

pub added-append : (xs ys : List Line) (s : Lines) → added (xs ++ ys) s ≡ added ys (added xs s)
added-append [] ys s = refl
added-append (x ∷ xs) ys s = added-append xs ys (with_line x s)

plus-zero : (n : ℕ) → n + 0 ≡ n
plus-zero n = omega arith

plus-suc : (n m : ℕ) → n + 1 + m ≡ n + suc m
plus-suc n m = omega arith

-- what is made at the place behind
pub grown-at : (around : Around) (d : Code) (xs ls : List Line)
    → grown around d (added xs (Some ls)) ≡ added (d around (length ls + length xs)) (added xs (Some ls))
unfolding with_line
grown-at around d [] ls = ap (λ n. added (d around n) (Some ls)) (sym (plus-zero (length ls)))
grown-at around d (x ∷ xs) ls = next (nat_lt (length ls) most_instructions) (grown-at around d xs (ls ++ x ∷ []))
  where
    next : (b : Bool) → grown around d (added xs (Some (ls ++ x ∷ []))) ≡ added (d around (length (ls ++ x ∷ []) + length xs)) (added xs (Some (ls ++ x ∷ [])))
        → grown around d (added xs (if_room x ls b)) ≡ added (d around (length ls + suc (length xs))) (added xs (if_room x ls b))
    next true h =
        h
        ∙ ap (λ n. added (d around n) (added xs (Some (ls ++ x ∷ []))))
        (ap (λ n. n + length xs) (length-append ls (x ∷ [])) ∙ plus-suc (length ls) (length xs))
    next false h =
        ap (grown around d) (added-none xs) ∙ sym (ap (added (d around (length ls + suc (length xs)))) (added-none xs) ∙ added-none
        (d around (length ls + suc (length xs))))

pub grown-behind : (around : Around) (c d : Code) (s : Lines) → grown around d (grown around c s) ≡ grown around (c ⨟ d) s
grown-behind around c d None = refl
grown-behind around c d (Some ls) =
    grown-at around d (c around (length ls)) ls
    ∙ sym (added-append (c around (length ls)) (d around (length ls + length (c around (length ls)))) (Some ls))

pub grown-none : (around : Around) (s : Lines) → s ≡ grown around no_code s
grown-none around None = refl
grown-none around (Some ls) = refl
