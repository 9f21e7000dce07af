-- A repetition finds what it spells, and refuses where an item does.
use Rattle.std.proofs.Common.{◌≡◌, ℕ, zero, suc, ◌+◌, ◌≤◌, ◌<◌, Bool, true, false, List, [], ◌∷◌, ◌++◌, length, refl, ap, sym, ◌∙◌, subst, Ok, Err, inl, inr, if◌then◌else◌, append_assoc, length-append, arith}
use Rattle.std.proofs.lemmas.List.{append-nil}
use Rattle.c_lexer.specs.declared.token.Token.{Token}
use Rattle.c_expr.specs.Spelling.{Spelling, Grown}
use Rattle.c_expr.specs.Reading.{Reader, and_then, grown_from, grown}
use Rattle.c_expr.proofs.Alike.{Alike, alike_append, Heads, and_then_ok, and_then_err, ok_same, ok_is_no_err}
use Rattle.c_expr.proofs.Sound.{Found, Fault, Reads, sequence_same, sequence_parts, test_front}

abbrev pub Filled : {A : Type 0} → Spelling A → Type 0
Filled S = (x : _) (w : List Token) → S x w → 0 < length w

module _ {A B : Type 0} (n : ℕ) (test : List Token → Bool) (grow : A → B → A) (S : Spelling B) (r : Reader B) (h : Reads n S r) (heads : Heads test) (ends : test [] ≡ false) (filled : Filled S) where
  abbrev turn : ℕ → A → Reader A
  turn turns a = λ w. and_then (r w) (λ b. grown_from test grow r turns (grow a b))

  record FoundBy (a : A) (w : List Token) (x : A) (rest : List Token) : Type 0 where
    front : List Token
    parts : w ≡ front ++ rest
    by : Grown grow S a x front
    same : (other : List Token) (m : ℕ) → Alike rest other → length (front ++ other) ≤ m → grown_from test grow r m a (front ++ other) ≡ Ok (x, other)

  record FaultBy (a : A) (w : List Token) (left : ℕ) : Type 0 where
    front : List Token
    rest : List Token
    parts : w ≡ front ++ rest
    at : left ≡ length rest
    more : List Token
    whole : A
    viable : Grown grow S a whole (front ++ more)
    same : (t : Token) (s other : List Token) (m : ℕ) → rest ≡ t ∷ s → length (front ++ t ∷ other) ≤ m → grown_from test grow r m a (front ++ t ∷ other) ≡ Err (length (t ∷ other))

  goes : (m : ℕ) (a : A) (w : List Token) → test w ≡ true → grown_from test grow r (suc m) a w ≡ turn m a w
  unfolding grown_from
  goes m a w e = ap (λ v. (if v then turn m a else (λ u. Ok (a, u))) w) e

  rests : (m : ℕ) (a : A) (w : List Token) → test w ≡ false → grown_from test grow r m a w ≡ Ok (a, w)
  unfolding grown_from
  rests zero a w e = refl
  rests (suc m) a w e = ap (λ v. (if v then turn m a else (λ u. Ok (a, u))) w) e

  none : (a : A) (w : List Token) (x : A) (rest : List Token) → test w ≡ false → a ≡ x → w ≡ rest → FoundBy a w x rest
  none a w x rest e p q = record {
    front = [];
    parts = q;
    by = ([], refl, sym p);
    same = λ other m alike few.
        (let quiet : test other ≡ false = sym (heads w other (let P : List Token → Type 0 = λ v. Alike v other in subst P (sym q) alike)) ∙ e in
        rests m a other quiet ∙ ap (λ v. Ok (v, other)) p);
  }

  one_more : (a : A) (w : List Token) (b : B) (mid : List Token) (x : A) (rest : List Token) → test w ≡ true → Found S r w b mid → FoundBy (grow a b) mid x rest → FoundBy a w x rest
  one_more a w b mid x rest e one two = record {
    front = one.front ++ two.front;
    parts = sequence_parts w one.front two.front mid rest one.parts two.parts;
    by = (b ∷ two.by.0, (one.front, two.front, refl, one.by, two.by.1), two.by.2);
    same = λ other m alike few. again other alike m few;
  }
    where
      again : (other : List Token) → Alike rest other → (m : ℕ) → length ((one.front ++ two.front) ++ other) ≤ m → grown_from test grow r m a ((one.front ++ two.front) ++ other) ≡ Ok (x, other)
      again other alike zero few =
          let full : 0 < length one.front = filled b one.front one.by in
          let l1 : length ((one.front ++ two.front) ++ other) ≡ length (one.front ++ two.front) + length other = length-append (one.front ++ two.front) other in
          let l2 : length (one.front ++ two.front) ≡ length one.front + length two.front = length-append one.front two.front in
          absurd (omega arith)
      again other alike (suc m) few =
          let full : 0 < length one.front = filled b one.front one.by in
          let l1 : length ((one.front ++ two.front) ++ other) ≡ length (one.front ++ two.front) + length other = length-append (one.front ++ two.front) other in
          let l2 : length (one.front ++ two.front) ≡ length one.front + length two.front = length-append one.front two.front in
          let l3 : length (two.front ++ other) ≡ length two.front + length other = length-append two.front other in
          let near : Alike (one.front ++ mid) ((one.front ++ two.front) ++ other) =
          (let P : List Token → Type 0 = λ v. Alike v ((one.front ++ two.front) ++ other) in
          subst P (sym (sequence_parts (one.front ++ mid) one.front two.front mid rest refl two.parts)) (alike_append (one.front ++ two.front) rest other alike)) in
          let t : test ((one.front ++ two.front) ++ other) ≡ true = sym (heads (one.front ++ mid) ((one.front ++ two.front) ++ other) near) ∙ (ap test (sym one.parts) ∙ e) in
          goes m a ((one.front ++ two.front) ++ other) t
          ∙ sequence_same r (λ c. grown_from test grow r m (grow a c)) b one.front two.front mid rest other (Ok (x, other)) two.parts one.same alike (two.same other m alike (omega arith))

  turn_found : (turns : ℕ) → ((a : A) (w : List Token) (x : A) (rest : List Token) → length w ≤ turns → grown_from test grow r turns a w ≡ Ok (x, rest) → FoundBy a w x rest)
      → (a : A) (w : List Token) (x : A) (rest : List Token) → length w ≤ suc turns → grown_from test grow r (suc turns) a w ≡ Ok (x, rest) → (b : Bool) → test w ≡ b → FoundBy a w x rest
  turn_found turns before a w x rest few e true d =
      let whole : and_then (r w) (λ c. grown_from test grow r turns (grow a c)) ≡ Ok (x, rest) = sym (goes turns a w d) ∙ e in
      let p = and_then_ok (r w) (λ c. grown_from test grow r turns (grow a c)) (x, rest) whole in
      let one = h.found w p.0.0 p.0.1 p.1 in
      let full : 0 < length one.front = filled p.0.0 one.front one.by in
      let sum : length w ≡ length one.front + length p.0.1 = ap length one.parts ∙ length-append one.front p.0.1 in
      one_more a w p.0.0 p.0.1 x rest d one (before (grow a p.0.0) p.0.1 x rest (omega arith) p.2)
  turn_found turns before a w x rest few e false d =
      let p : (a, w) ≡ (x, rest) = ok_same (a, w) (x, rest) (sym (rests (suc turns) a w d) ∙ e) in
      none a w x rest d (ap (λ v. v.0) p) (ap (λ v. v.1) p)

  found_by : (turns : ℕ) (a : A) (w : List Token) (x : A) (rest : List Token) → length w ≤ turns → grown_from test grow r turns a w ≡ Ok (x, rest) → FoundBy a w x rest
  unfolding grown_from
  found_by zero a [] x rest few e = let p = ok_same (a, []) (x, rest) e in none a [] x rest ends (ap (λ v. v.0) p) (ap (λ v. v.1) p)
  found_by zero a (t ∷ w) x rest few e = absurd (omega arith)
  found_by (suc turns) a w x rest few e = turn_found turns (λ b v y s i d. found_by turns b v y s i d) a w x rest few e (test w) refl

  -- an item refuses
  here : (a : A) (w : List Token) (left : ℕ) → test w ≡ true → Fault S r w left → FaultBy a w left
  here a w left e one = record {
    front = one.front;
    rest = one.rest;
    parts = one.parts;
    at = one.at;
    more = one.more;
    whole = grow a one.whole;
    viable = (one.whole ∷ [], (one.front ++ one.more, [], sym (append-nil (one.front ++ one.more)), one.viable, refl), refl);
    same = λ t s other m d few. again t s other d m few;
  }
    where
      again : (t : Token) (s other : List Token) → one.rest ≡ t ∷ s → (m : ℕ) → length (one.front ++ t ∷ other) ≤ m → grown_from test grow r m a (one.front ++ t ∷ other) ≡ Err (length (t ∷ other))
      again t s other d zero few =
          let sum : length (one.front ++ t ∷ other) ≡ length one.front + length (t ∷ other) = length-append one.front (t ∷ other) in absurd (omega arith)
      again t s other d (suc m) few =
          goes m a (one.front ++ t ∷ other) (test_front test heads true w one.front one.rest t s other e one.parts d)
          ∙ ap (λ v. and_then v (λ c. grown_from test grow r m (grow a c))) (one.same t s other d)

  -- a later item refuses
  later : (a : A) (w : List Token) (b : B) (mid : List Token) (left : ℕ) → test w ≡ true → Found S r w b mid → FaultBy (grow a b) mid left → FaultBy a w left
  later a w b mid left e one two = record {
    front = one.front ++ two.front;
    rest = two.rest;
    parts = sequence_parts w one.front two.front mid two.rest one.parts two.parts;
    at = two.at;
    more = two.more;
    whole = two.whole;
    viable = (b ∷ two.viable.0, (one.front, two.front ++ two.more, append_assoc one.front two.front two.more, one.by, two.viable.1), two.viable.2);
    same = λ t s other m d few. again t s other d m few;
  }
    where
      again : (t : Token) (s other : List Token) → two.rest ≡ t ∷ s → (m : ℕ) → length ((one.front ++ two.front) ++ t ∷ other) ≤ m → grown_from test grow r m a ((one.front ++ two.front) ++ t ∷ other) ≡ Err (length (t ∷ other))
      again t s other d zero few =
          let sum : length ((one.front ++ two.front) ++ t ∷ other) ≡ length (one.front ++ two.front) + length (t ∷ other) = length-append (one.front ++ two.front) (t ∷ other) in absurd (omega arith)
      again t s other d (suc m) few =
          let full : 0 < length one.front = filled b one.front one.by in
          let l1 : length ((one.front ++ two.front) ++ t ∷ other) ≡ length (one.front ++ two.front) + length (t ∷ other) = length-append (one.front ++ two.front) (t ∷ other) in
          let l2 : length (one.front ++ two.front) ≡ length one.front + length two.front = length-append one.front two.front in
          let l3 : length (two.front ++ t ∷ other) ≡ length two.front + length (t ∷ other) = length-append two.front (t ∷ other) in
          let alike : Alike two.rest (t ∷ other) = (let P : List Token → Type 0 = λ v. Alike v (t ∷ other) in subst P (sym d) refl) in
          let near : Alike (one.front ++ mid) ((one.front ++ two.front) ++ t ∷ other) =
          (let P : List Token → Type 0 = λ v. Alike v ((one.front ++ two.front) ++ t ∷ other) in
          subst P (sym (sequence_parts (one.front ++ mid) one.front two.front mid two.rest refl two.parts)) (alike_append (one.front ++ two.front) two.rest (t ∷ other) alike)) in
          let at : test ((one.front ++ two.front) ++ t ∷ other) ≡ true = sym (heads (one.front ++ mid) ((one.front ++ two.front) ++ t ∷ other) near) ∙ (ap test (sym one.parts) ∙ e) in
          goes m a ((one.front ++ two.front) ++ t ∷ other) at
          ∙ sequence_same r (λ c. grown_from test grow r m (grow a c)) b one.front two.front mid two.rest (t ∷ other) (Err (length (t ∷ other))) two.parts one.same alike (two.same t s other m d (omega arith))

  turn_fault : (turns : ℕ) → ((a : A) (w : List Token) (left : ℕ) → length w ≤ turns → length w ≤ n → grown_from test grow r turns a w ≡ Err left → FaultBy a w left)
      → (a : A) (w : List Token) (left : ℕ) → length w ≤ suc turns → length w ≤ n → grown_from test grow r (suc turns) a w ≡ Err left → (b : Bool) → test w ≡ b → FaultBy a w left
  turn_fault turns before a w left few low e true d =
      let whole : and_then (r w) (λ c. grown_from test grow r turns (grow a c)) ≡ Err left = sym (goes turns a w d) ∙ e in
      elim (and_then_err (r w) (λ c. grown_from test grow r turns (grow a c)) left whole) [
        | inl q ↦ here a w left d (h.fault w left low q)
        | inr p ↦
            (let one = h.found w p.0.0 p.0.1 p.1 in
            let full : 0 < length one.front = filled p.0.0 one.front one.by in
            let sum : length w ≡ length one.front + length p.0.1 = ap length one.parts ∙ length-append one.front p.0.1 in
            later a w p.0.0 p.0.1 left d one (before (grow a p.0.0) p.0.1 left (omega arith) (omega arith) p.2))
      ]
  turn_fault turns before a w left few low e false d = absurd (ok_is_no_err (a, w) left (sym (rests (suc turns) a w d) ∙ e))

  fault_by : (turns : ℕ) (a : A) (w : List Token) (left : ℕ) → length w ≤ turns → length w ≤ n → grown_from test grow r turns a w ≡ Err left → FaultBy a w left
  unfolding grown_from
  fault_by zero a w left few low e = absurd (ok_is_no_err (a, w) left e)
  fault_by (suc turns) a w left few low e = turn_fault turns (λ b v y i j d. fault_by turns b v y i j d) a w left few low e (test w) refl

  pub reads_grown : (a : A) → Reads n (Grown grow S a) (grown test grow r a)
  reads_grown a = record {
    found = λ w x rest e.
        (let one = found_by (length w) a w x rest (omega arith) e in
        record { front = one.front; parts = one.parts; by = one.by; same = λ other alike. one.same other (length (one.front ++ other)) alike (omega arith) });
    fault = λ w left low e.
        (let one = fault_by (length w) a w left (omega arith) low e in
        record { front = one.front; rest = one.rest; parts = one.parts; at = one.at; more = one.more; whole = one.whole; viable = one.viable; same = λ t s other d. one.same t s other (length (one.front ++ t ∷ other)) d (omega arith) });
    whole = a;
    word = [];
    sample = ([], refl, refl);
  }
