-- Two readers that agree on at most so many tokens: more depth than tokens changes nothing.
use Rattle.std.proofs.Common.{◌≡◌, ℕ, zero, suc, ◌+◌, ◌≤◌, ◌<◌, Bool, true, false, List, [], ◌∷◌, length, refl, ap, sym, ◌∙◌, Option, Some, None, Result, Ok, Err, if◌then◌else◌, length-append, arith}
use Rattle.c_lexer.specs.declared.token.Token.{Token}
use Rattle.c_expr.specs.Codes.{comma}
use Rattle.c_expr.specs.Spelling.{Spelling, push, line_at}
use Rattle.c_expr.specs.Reading.{Reader, begins, and_then, token, taken, pure, stop, choose, grown_from, grown, listed, in_parens, located}
use Rattle.c_expr.proofs.Alike.{and_then_ok, ok_same, ok_is_no_err}
use Rattle.c_expr.proofs.Sound.{Reads}
use Rattle.c_expr.proofs.Repeat.{Filled}

pub record Same {A : Type 0} (n : ℕ) (R R' : Reader A) : Type 0 where
  pub same : (w : List Token) → length w ≤ n → R w ≡ R' w
  pub short : (w : List Token) (a : A) (mid : List Token) → R w ≡ Ok (a, mid) → length mid ≤ length w

pub same_seq : {A B : Type 0} {n : ℕ} {R R' : Reader A} {f f' : A → Reader B} → Same n R R' → ((a : A) → Same n (f a) (f' a)) → Same n (λ w. and_then (R w) f) (λ w. and_then (R' w) f')
same_seq {A = A} {n = n} {R = R} {R' = R'} {f = f} {f' = f'} h g = record {
  same = λ w few. step w few (R w) refl ∙ ap (λ r. and_then r f') (h.same w few);
  short = λ w b rest e.
      (let p = and_then_ok (R w) f (b, rest) e in
      let low : length p.0.1 ≤ length w = h.short w p.0.0 p.0.1 p.1 in
      let next : length rest ≤ length p.0.1 = (g p.0.0).short p.0.1 b rest p.2 in omega arith);
}
  where
    step : (w : List Token) → length w ≤ n → (r : Result (A × List Token) ℕ) → R w ≡ r → and_then r f ≡ and_then r f'
    step w few (Ok p) e = let low : length p.1 ≤ length w = h.short w p.0 p.1 e in (g p.0).same p.1 (omega arith)
    step w few (Err k) e = refl

taken_short : {A : Type 0} (t : Token) (r : List Token) (o : Option A) (a : A) (mid : List Token) → taken t r o ≡ Ok (a, mid) → mid ≡ r
taken_short t r (Some b) a mid e = let p : (b, r) ≡ (a, mid) = ok_same (b, r) (a, mid) e in sym (ap (λ q. q.1) p)
taken_short t r None a mid e = absurd (cc)

pub token_short : {A : Type 0} (o : Token → Option A) (w : List Token) (a : A) (mid : List Token) → token o w ≡ Ok (a, mid) → length mid < length w
unfolding token
token_short o [] a mid e = absurd (cc)
token_short o (t ∷ r) a mid e = let same = taken_short t r (o t) a mid e in omega (arith, ap length same)

pub same_token : {A : Type 0} (n : ℕ) (o : Token → Option A) → Same n (token o) (token o)
same_token n o = record { same = λ w few. refl; short = λ w a mid e. (let low = token_short o w a mid e in omega (arith, low)) }

pub same_after : {A B : Type 0} {n : ℕ} {f f' : A → Reader B} (o : Token → Option A) → ((a : A) → Same n (f a) (f' a)) → Same (suc n) (λ w. and_then (token o w) f) (λ w. and_then (token o w) f')
same_after {A = A} {n = n} {f = f} {f' = f'} o g = record {
  same = λ w few. step w few (token o w) refl;
  short = λ w b rest e.
      (let p = and_then_ok (token o w) f (b, rest) e in
      let low : length p.0.1 < length w = token_short o w p.0.0 p.0.1 p.1 in
      let next : length rest ≤ length p.0.1 = (g p.0.0).short p.0.1 b rest p.2 in omega arith);
}
  where
    step : (w : List Token) → length w ≤ suc n → (r : Result (A × List Token) ℕ) → token o w ≡ r → and_then r f ≡ and_then r f'
    step w few (Ok p) e = let low : length p.1 < length w = token_short o w p.0 p.1 e in (g p.0).same p.1 (omega arith)
    step w few (Err k) e = refl

pub same_behind : {A B : Type 0} {n : ℕ} {f f' : A → Reader B} (o : Token → Option A) → ((a : A) → Same n (f a) (f' a)) → Same n (λ w. and_then (token o w) f) (λ w. and_then (token o w) f')
same_behind {n = n} o g = same_seq (same_token n o) g

rest_same : {A : Type 0} (a b : A) (w mid : List Token) → Path (Result (A × List Token) ℕ) (Ok (a, w)) (Ok (b, mid)) → w ≡ mid
rest_same a b w mid e = ap (λ q. q.1) (ok_same (a, w) (b, mid) e)

pub same_is : {A : Type 0} (n : ℕ) (a : A) → Same n (pure a) (pure a)
same_is {A = A} n a = record { same = λ w few. refl; short = λ w b mid e. pure_short w b mid e }
  where
    pure_short : (w : List Token) (b : A) (mid : List Token) → Path (Result (A × List Token) ℕ) (Ok (a, w)) (Ok (b, mid)) → length mid ≤ length w
    pure_short w b mid e = let q : w ≡ mid = rest_same a b w mid e in omega (arith, ap length q)

pub same_map : {A B : Type 0} {n : ℕ} {R R' : Reader A} (f : A → B) → Same n R R' → Same n (λ w. and_then (R w) (λ x. pure (f x))) (λ w. and_then (R' w) (λ x. pure (f x)))
same_map {n = n} f h = same_seq h (λ x. same_is n (f x))

pub same_choose : {A : Type 0} {n : ℕ} {R R' Q Q' : Reader A} (test : List Token → Bool) → Same n R R' → Same n Q Q' → Same n (choose test R Q) (choose test R' Q')
same_choose {A = A} {n = n} {R = R} {R' = R'} {Q = Q} {Q' = Q'} test r q = record { same = λ w few. by_test (test w) w few; short = λ w a mid e. short_test (test w) w a mid e }
  where
    by_test : (b : Bool) (w : List Token) → length w ≤ n → (if b then R else Q) w ≡ (if b then R' else Q') w
    by_test true w few = r.same w few
    by_test false w few = q.same w few

    short_test : (b : Bool) (w : List Token) (a : A) (mid : List Token) → (if b then R else Q) w ≡ Ok (a, mid) → length mid ≤ length w
    short_test true w a mid e = r.short w a mid e
    short_test false w a mid e = q.short w a mid e

grown_same : {A B : Type 0} (n : ℕ) (test : List Token → Bool) (grow : A → B → A) (r r' : Reader B) → Same n r r' → (turns : ℕ) (a : A) → Same n (grown_from test grow r turns a) (grown_from test grow r' turns a)
unfolding grown_from
grown_same n test grow r r' h zero a = same_is n a
grown_same n test grow r r' h (suc turns) a = same_choose test (same_seq h (λ b. grown_same n test grow r r' h turns (grow a b))) (same_is n a)

pub same_grown : {A B : Type 0} {n : ℕ} {r r' : Reader B} (test : List Token → Bool) (grow : A → B → A) → Same n r r' → (a : A) → Same n (grown test grow r a) (grown test grow r' a)
same_grown {n = n} {r = r} {r' = r'} test grow h a = record {
  same = λ w few. (grown_same n test grow r r' h (length w) a).same w few;
  short = λ w b mid e. (grown_same n test grow r r' h (length w) a).short w b mid e;
}

pub same_located : {A : Type 0} {n : ℕ} (R R' : ℕ → Reader A) → ((line : ℕ) → Same n (R line) (R' line)) → Same n (located R) (located R')
same_located R R' h = record { same = λ w few. (h (line_at w)).same w few; short = λ w a mid e. (h (line_at w)).short w a mid e }

pub same_fewer : {A : Type 0} {n m : ℕ} {R R' : Reader A} → m ≤ n → Same n R R' → Same m R R'
same_fewer le h = record { same = λ w few. h.same w (omega (arith, le, few)); short = h.short }

pub same_listed : {A : Type 0} {n : ℕ} {R R' : Reader A} → Same n R R' → Same n (listed R) (listed R')
same_listed h = same_seq h (λ x. same_grown (begins (comma ∷ [])) push (same_behind _ (λ _. h)) (x ∷ []))

pub same_in_parens : {A : Type 0} {n : ℕ} {R R' : Reader A} → Same n R R' → Same (suc n) (in_parens R) (in_parens R')
same_in_parens {n = n} h = same_after _ (λ _. same_seq h (λ x. same_behind _ (λ _. same_is n x)))

pub same_parens_here : {A : Type 0} {n : ℕ} {R R' : Reader A} → Same n R R' → Same n (in_parens R) (in_parens R')
same_parens_here {n = n} h = same_behind _ (λ _. same_seq h (λ x. same_behind _ (λ _. same_is n x)))

-- no tokens
none_read : {A : Type 0} {n : ℕ} {S : Spelling A} {R : Reader A} → Reads n S R → Filled S → (r : Result (A × List Token) ℕ) → R [] ≡ r → r ≡ Err 0
none_read h filled (Ok p) e =
    let one = h.found [] p.0 p.1 e in
    let full : 0 < length one.front = filled p.0 one.front one.by in
    let sum : 0 ≡ length one.front + length p.1 = ap length one.parts ∙ length-append one.front p.1 in absurd (omega arith)
none_read h filled (Err k) e =
    let one = h.fault [] k (omega arith) e in
    let at : k ≡ length one.rest = one.at in
    let sum : 0 ≡ length one.front + length one.rest = ap length one.parts ∙ length-append one.front one.rest in
    let zero_left : k ≡ 0 = omega arith in ap Err zero_left

pub same_none : {A : Type 0} {n : ℕ} {S : Spelling A} {R : Reader A} → Reads n S R → Filled S → Same 0 stop R
same_none {A = A} {R = R} h filled = record { same = λ w few. no_tokens w few; short = λ w a mid e. absurd (ok_is_no_err {X = A × List Token} (a, mid) (length w) (sym e)) }
  where
    no_tokens : (w : List Token) → length w ≤ 0 → stop w ≡ R w
    no_tokens [] few = sym (none_read h filled (R []) refl)
    no_tokens (t ∷ w) few = absurd (omega arith)
