-- Lists of tokens that begin alike.
use Rattle.std.proofs.Common.{◌≡◌, ℕ, Bool, true, false, List, [], ◌∷◌, ◌++◌, refl, ap, Option, Some, None, Result, Ok, Err, ◌⊎◌, inl, inr}
use Rattle.c_lexer.specs.declared.token.Token.{Token}
use Rattle.c_expr.specs.Codes.{code, one_of}
use Rattle.c_expr.specs.Reading.{Reader, begins, and_then}

-- the same first token, or none
abbrev pub Alike : List Token → List Token → Type 0
Alike [] [] = Unit {0}
Alike (t ∷ r) (u ∷ s) = t ≡ u
Alike [] (u ∷ s) = ⊥
Alike (t ∷ r) [] = ⊥

pub alike_append : (f r s : List Token) → Alike r s → Alike (f ++ r) (f ++ s)
alike_append [] r s h = h
alike_append (t ∷ f) r s h = refl

pub begins_alike : (ks : List ℕ) (r s : List Token) → Alike r s → begins ks r ≡ begins ks s
unfolding begins
begins_alike ks [] [] h = refl
begins_alike ks (t ∷ r) (u ∷ s) h = ap (λ v. one_of ks (code v)) h
begins_alike ks [] (u ∷ s) h = absurd h
begins_alike ks (t ∷ r) [] h = absurd h

-- the first token alone decides
abbrev pub Heads : (List Token → Bool) → Type 0
Heads test = (r s : List Token) → Alike r s → test r ≡ test s

pub heads_front : (test : List Token → Bool) → Heads test → (f r s : List Token) → Alike r s → test (f ++ r) ≡ test (f ++ s)
heads_front test h f r s a = h (f ++ r) (f ++ s) (alike_append f r s a)

-- ---- results

pub and_then_ok : {A B : Type 0} (r : Result (A × List Token) ℕ) (f : A → Reader B) (y : B × List Token) → and_then r f ≡ Ok y
    → (p : A × List Token) × (r ≡ Ok p) × (f p.0 p.1 ≡ Ok y)
and_then_ok (Ok p) f y h = (p, refl, h)
and_then_ok (Err k) f y h = absurd (cc)

abbrev ok_or_this : {X : Type 0} → X → Result X ℕ → X
ok_or_this d (Ok x) = x
ok_or_this d (Err k) = d

abbrev err_or_this : {X : Type 0} → ℕ → Result X ℕ → ℕ
err_or_this d (Ok x) = d
err_or_this d (Err k) = k

pub ok_same : {X : Type 0} (x y : X) (e : Path (Result X ℕ) (Ok x) (Ok y)) → x ≡ y
ok_same x y e = ap (ok_or_this x) e

pub ok_is_no_err : {X : Type 0} (x : X) (k : ℕ) (e : Path (Result X ℕ) (Ok x) (Err k)) → ⊥
ok_is_no_err x k e = cc

pub err_same : {X : Type 0} (j k : ℕ) (e : Path (Result X ℕ) (Err j) (Err k)) → j ≡ k
err_same {X = X} j k e = ap (err_or_this {X = X} j) e

pub and_then_err : {A B : Type 0} (r : Result (A × List Token) ℕ) (f : A → Reader B) (k : ℕ) → and_then r f ≡ Err k
    → (r ≡ Err k) ⊎ ((p : A × List Token) × (r ≡ Ok p) × (f p.0 p.1 ≡ Err k))
and_then_err (Ok p) f k h = inr (p, refl, h)
and_then_err {A = A} {B = B} (Err j) f k h = inl (ap Err (err_same {X = B × List Token} j k h))

abbrev head_or_this : Token → List Token → Token
head_or_this d [] = d
head_or_this d (t ∷ r) = t

pub head_same : {t u : Token} {r s : List Token} → t ∷ r ≡ u ∷ s → t ≡ u
head_same {t = t} e = ap (head_or_this t) e

pub false_is_not_true : false ≡ true → ⊥
false_is_not_true e = cc

abbrev some_or_this : {X : Type 0} → X → Option X → X
some_or_this d None = d
some_or_this d (Some x) = x

pub some_same : {X : Type 0} {x y : X} (e : Path (Option X) (Some x) (Some y)) → x ≡ y
some_same {x = x} e = ap (some_or_this x) e

abbrev tail_of : List Token → List Token
tail_of [] = []
tail_of (t ∷ r) = r

pub tail_same : {t u : Token} {r s : List Token} → t ∷ r ≡ u ∷ s → r ≡ s
tail_same e = ap tail_of e
