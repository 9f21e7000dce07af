-- The levels of operators, read one after the other behind one operand.
use Rattle.std.proofs.Common.{◌≡◌, ℕ, zero, suc, Bool, true, false, eqb, ◌||◌, List, [], ◌∷◌, length, Result, Ok, Err, arith, refl, sym, ◌∙◌, ap, ◌-◌, ◌+◌, ◌<◌}
use Rattle.std.specs.List.{list_all}
use Rattle.std.proofs.lemmas.Bool.{and_parts, eqb-true, false≢true}
use Rattle.c_lexer.specs.declared.token.Token.{Token}
use Rattle.c_tree.specs.declared.expression.Expr.{Expr}
use Rattle.c_tree.specs.declared.expression.Declarator.{Declarator}
use Rattle.c_expr.specs.declared.start.Start.{Start}
use Rattle.c_expr.specs.declared.start.Naming.{Naming}
use Rattle.c_expr.specs.Codes.{code, one_of, kinds, binary_operators, is_among_binary}
use Rattle.c_expr.specs.Nodes.{Bytes}
use Rattle.c_expr.specs.Reading.{Reader, and_then, begins, grown_from, operated, operation, level, cast}
use Rattle.c_expr.specs.Parts.{may_go_on, operations, ladder, climbed}

Found : Type 0
Found = Result (Expr × List Token) ℕ

kept : (r : Result (Expr × List Token) ℕ) → and_then r (λ x v. Ok (x, v)) ≡ r
kept (Ok p) = refl
kept (Err n) = refl

regrouped : (r : Result (Expr × List Token) ℕ) (f g h : Expr → Reader Expr) → ((x : Expr) (v : List Token) → f x v ≡ and_then (g x v) h) → and_then r f ≡ and_then (and_then r g) h
regrouped (Ok p) f g h e = e p.0 p.1
regrouped (Err n) f g h e = refl

module _ (src : Bytes) (expr : Start → Reader Expr) (declarator : Naming → Reader Declarator) where
  last : (n k : ℕ) (x : Expr) (w : List Token) → ladder src expr declarator (suc n) k x w ≡ and_then (ladder src expr declarator n k x w) (operations src expr declarator (k + n))
  unfolding ladder
  last zero k x w = let e : k + 0 ≡ k = omega arith in rw e (kept (operations src expr declarator k x w))
  last (suc n) k x w =
      let e : (k + 1) + n ≡ k + suc n = omega arith in
      regrouped (operations src expr declarator k x w) (λ y. ladder src expr declarator (suc n) (k + 1) y) (λ y. ladder src expr declarator n (k + 1) y) (operations src expr declarator (k + suc n))
      (λ y v. last n (k + 1) y v ∙ ap (λ m. and_then (ladder src expr declarator n (k + 1) y v) (operations src expr declarator m)) e)

  pub level_is : (n : ℕ) (w : List Token) → climbed src expr declarator n w ≡ level src expr declarator n w
  unfolding ladder level
  level_is zero w = kept (cast src expr declarator w)
  level_is (suc n) w =
      let e : 0 + n ≡ n = omega arith in
      regrouped (cast src expr declarator w) (λ y. ladder src expr declarator (suc n) 0 y) (λ y. ladder src expr declarator n 0 y) (operations src expr declarator n)
      (λ y v. last n 0 y v ∙ ap (λ m. and_then (ladder src expr declarator n 0 y v) (operations src expr declarator m)) e)
      ∙ ap (λ r. and_then r (operations src expr declarator n)) (level_is n w)

  turn : (n k : ℕ) (x next : Expr) (w rest : List Token) → operations src expr declarator k x w ≡ Ok (next, rest)
      → ladder src expr declarator (suc n) k x w ≡ ladder src expr declarator n (k + 1) next rest
  unfolding ladder
  turn n k x next w rest e = ap (λ r. and_then r (λ y. ladder src expr declarator n (k + 1) y)) e

  pub ladder_turn : (end k : ℕ) (x next : Expr) (w rest : List Token) → k < end → operations src expr declarator k x w ≡ Ok (next, rest)
      → ladder src expr declarator (end - (k + 1)) (k + 1) next rest ≡ ladder src expr declarator (end - k) k x w
  ladder_turn end k x next w rest l e =
      let m : end - k ≡ suc (end - (k + 1)) = omega arith in
      sym (ap (λ n. ladder src expr declarator n k x w) m ∙ turn _ k x next w rest e)

  refusal : (n k : ℕ) (x : Expr) (w : List Token) (left : ℕ) → operations src expr declarator k x w ≡ Err left → ladder src expr declarator (suc n) k x w ≡ Err left
  unfolding ladder
  refusal n k x w left e = ap (λ r. and_then r (λ y. ladder src expr declarator n (k + 1) y)) e

  pub ladder_refused : (end k : ℕ) (x : Expr) (w : List Token) (left : ℕ) → k < end → operations src expr declarator k x w ≡ Err left → ladder src expr declarator (end - k) k x w ≡ Err left
  ladder_refused end k x w left l e =
      let m : end - k ≡ suc (end - (k + 1)) = omega arith in
      ap (λ n. ladder src expr declarator n k x w) m ∙ refusal _ k x w left e

-- ---- where no operator follows an operand

all_among : (k : ℕ) → list_all is_among_binary (kinds (binary_operators k)) ≡ true
unfolding binary_operators
all_among zero = refl
all_among (suc zero) = refl
all_among (suc (suc zero)) = refl
all_among (suc (suc (suc zero))) = refl
all_among (suc (suc (suc (suc zero)))) = refl
all_among (suc (suc (suc (suc (suc zero))))) = refl
all_among (suc (suc (suc (suc (suc (suc zero)))))) = refl
all_among (suc (suc (suc (suc (suc (suc (suc zero))))))) = refl
all_among (suc (suc (suc (suc (suc (suc (suc (suc zero)))))))) = refl
all_among (suc (suc (suc (suc (suc (suc (suc (suc (suc zero))))))))) = refl
all_among (suc (suc (suc (suc (suc (suc (suc (suc (suc (suc more)))))))))) = refl

none_of : (p : ℕ → Bool) (ks : List ℕ) (c : ℕ) → list_all p ks ≡ true → p c ≡ false → one_of ks c ≡ false
none_of p [] c h e = refl
none_of p (k ∷ ks) c h e =
    let parts = and_parts (p k) (list_all p ks) h in
    by_test (eqb c k) refl parts.0 (none_of p ks c parts.1 e)
  where
    by_test : (t : Bool) → eqb c k ≡ t → p k ≡ true → one_of ks c ≡ false → (eqb c k || one_of ks c) ≡ false
    by_test true f g later = absurd (false≢true (sym e ∙ ap p (eqb-true c k f) ∙ g))
    by_test false f g later = rw f later

module _ (src : Bytes) (expr : Start → Reader Expr) (declarator : Naming → Reader Declarator) where
  nothing_more : (k : ℕ) (x : Expr) (w : List Token) → may_go_on w ≡ false → operations src expr declarator k x w ≡ Ok (x, w)
  unfolding grown_from begins
  nothing_more k x [] e = refl
  nothing_more k x (t ∷ rest) e = rw (none_of is_among_binary (kinds (binary_operators k)) (code t) (all_among k) e) refl

  pub ladder_ends : (n k : ℕ) (x : Expr) (w : List Token) → may_go_on w ≡ false → ladder src expr declarator n k x w ≡ Ok (x, w)
  unfolding ladder
  ladder_ends zero k x w e = refl
  ladder_ends (suc n) k x w e = ap (λ r. and_then r (λ y. ladder src expr declarator n (k + 1) y)) (nothing_more k x w e) ∙ ladder_ends n (k + 1) x w e

  pub ends_here : (n : ℕ) (x : Expr) (w : List Token) → may_go_on w ≡ false → ladder src expr declarator n 0 x w ≡ Ok (x, w)
  ends_here n x w e = ladder_ends n 0 x w e
