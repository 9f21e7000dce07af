-- One turn of a loop that reads what makes a tree grow.
use Rattle.std.proofs.Common.{◌≡◌, ℕ, suc, Bool, true, List, Result, Ok, Err, arith, refl, sym, ◌∙◌, ap, ◌-◌, ◌+◌, ◌<◌}
use Rattle.c_lexer.specs.declared.token.Token.{Token}
use Rattle.c_expr.specs.declared.fault.Fault.{Fault}
use Rattle.c_expr.specs.declared.fault.Fault.TheVariants as faults
use Rattle.c_expr.specs.Outcome.{Fails}
use Rattle.c_expr.specs.Reading.{Reader, ◌>>=◌, pure, grown_from}

module _ {A B : Type 0} (test : List Token → Bool) (grow : A → B → A) (r : Reader B) where
  turn_ok : (n : ℕ) (a : A) (w : List Token) (b : B) (rest : List Token) → test w ≡ true → r w ≡ Ok (b, rest) → grown_from test grow r (suc n) a w ≡ grown_from test grow r n (grow a b) rest
  unfolding grown_from
  turn_ok n a w b rest s e = rw (s, e) refl

  pub grown_step : (end turn : ℕ) (a : A) (w : List Token) (b : B) (rest : List Token) → turn < end → test w ≡ true → r w ≡ Ok (b, rest) → grown_from test grow r (end - (turn + 1)) (grow a b) rest ≡ grown_from test grow r (end - turn) a w
  grown_step end turn a w b rest l s e =
      let k : end - turn ≡ suc (end - (turn + 1)) = omega arith in
      sym (ap (λ n. grown_from test grow r n a w) k ∙ turn_ok _ a w b rest s e)

  refusal : (n : ℕ) (a : A) (w : List Token) (left : ℕ) → test w ≡ true → r w ≡ Err left → grown_from test grow r (suc n) a w ≡ Err left
  unfolding grown_from
  refusal n a w left s e = rw (s, e) refl

  pub grown_refused : (end turn : ℕ) (a : A) (w : List Token) (left : ℕ) → turn < end → test w ≡ true → r w ≡ Err left → grown_from test grow r (end - turn) a w ≡ Err left
  grown_refused end turn a w left l s e =
      let k : end - turn ≡ suc (end - (turn + 1)) = omega arith in
      ap (λ n. grown_from test grow r n a w) k ∙ refusal _ a w left s e

  pub grown_turn : (end turn : ℕ) (a next : A) (w : List Token) (b : B) (rest : List Token) → turn < end → test w ≡ true → r w ≡ Ok (b, rest) → next ≡ grow a b → grown_from test grow r (end - (turn + 1)) next rest ≡ grown_from test grow r (end - turn) a w
  grown_turn end turn a next w b rest l s e is = ap (λ x. grown_from test grow r (end - (turn + 1)) x rest) is ∙ grown_step end turn a w b rest l s e

abbrev value_or : {A : Type 0} → A × List Token → Result (A × List Token) ℕ → A × List Token
value_or d (Ok p) = p
value_or d (Err n) = d

-- What is read next, and the longer value that it makes of the one before.
abbrev grows : {A B : Type 0} → (A → B → A) → Reader B → A → Reader A
grows grow r a = r >>= (λ b. pure (grow a b))

module _ {A B : Type 0} (grow : A → B → A) (r : Reader B) (a : A) (w : List Token) where
  longer : (next : A) (rest : List Token) (found : Result (B × List Token) ℕ) → r w ≡ found → grows grow r a w ≡ Ok (next, rest)
      → (b : B) × (r w ≡ Ok (b, rest)) × (next ≡ grow a b)
  longer next rest (Ok p) e h =
      let k = rw e at h in
      let same : (grow a p.0, p.1) ≡ (next, rest) = ap (value_or (next, rest)) k in
      (p.0, e ∙ ap (λ (v : List Token). Ok (p.0, v)) (ap (λ (q : A × List Token). q.1) same), sym (ap (λ (q : A × List Token). q.0) same))
  longer next rest (Err n) e h = let k = rw e at h in cc

  stuck : (n : ℕ) (found : Result (B × List Token) ℕ) → r w ≡ found → grows grow r a w ≡ Err n → r w ≡ Err n
  stuck n (Ok p) e h = let k = rw e at h in cc
  stuck n (Err m) e h = let k = rw e at h in e ∙ (cc)

module _ {A B : Type 0} (test : List Token → Bool) (grow : A → B → A) (r : Reader B) where
  pub longer_turn : (end turn : ℕ) (a next : A) (w rest : List Token) → turn < end → test w ≡ true → grows grow r a w ≡ Ok (next, rest)
      → grown_from test grow r (end - (turn + 1)) next rest ≡ grown_from test grow r (end - turn) a w
  longer_turn end turn a next w rest l s h =
      let found = longer grow r a w next rest (r w) refl h in
      grown_turn test grow r end turn a next w found.0 rest l s found.1 found.2

  -- Where what is read next is refused, so is the loop.
  pub longer_refused : (end turn : ℕ) (a : A) (w : List Token) (n : ℕ) → turn < end → test w ≡ true → grows grow r a w ≡ Err n
      → grown_from test grow r (end - turn) a w ≡ Err n
  longer_refused end turn a w n l s h = grown_refused test grow r end turn a w n l s (stuck grow r a w n (r w) refl h)

-- Where one reading is refused, so is another.
pub refused_along : {A B : Type 0} (e : Fault) (r : Result A ℕ) (whole : Result B ℕ) → Fails e r → ((n : ℕ) → r ≡ Err n → whole ≡ Err n) → Fails e whole
refused_along faults.Memory r whole f g = tt
refused_along (faults.Refused n) r whole f g = g n f
