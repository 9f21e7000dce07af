-- What a reader finds is spelled so; where it refuses, the tokens before can be continued, and no token alike to
-- the refused one helps.
use Rattle.std.proofs.Common.{◌≡◌, ℕ, suc, ◌+◌, ◌≤◌, Bool, true, false, List, [], ◌∷◌, ◌++◌, length, refl, ap, sym, ◌∙◌, subst, Option, Some, None, Result, Ok, Err, inl, inr, if◌then◌else◌, append_assoc, length-append, arith}
use Rattle.c_lexer.specs.declared.token.Token.{Token}
use Rattle.c_expr.specs.Spelling.{Spelling, Means, Is, Sequence, ◌or◌}
use Rattle.c_expr.specs.Reading.{Reader, and_then, token, taken, pure, choose}
use Rattle.c_expr.proofs.Alike.{Alike, alike_append, Heads, heads_front, and_then_ok, and_then_err, ok_same, err_same, head_same}

pub record Found {A : Type 0} (S : Spelling A) (R : Reader A) (w : List Token) (x : A) (rest : List Token) : Type 0 where
  pub front : List Token
  pub parts : w ≡ front ++ rest
  pub by : S x front
  pub same : (other : List Token) → Alike rest other → R (front ++ other) ≡ Ok (x, other)

pub record Fault {A : Type 0} (S : Spelling A) (R : Reader A) (w : List Token) (left : ℕ) : Type 0 where
  pub front : List Token
  pub rest : List Token
  pub parts : w ≡ front ++ rest
  pub at : left ≡ length rest
  pub more : List Token
  pub whole : A
  pub viable : S whole (front ++ more)
  pub same : (t : Token) (r other : List Token) → rest ≡ t ∷ r → R (front ++ t ∷ other) ≡ Err (length (t ∷ other))

-- at most so many tokens
pub record Reads {A : Type 0} (n : ℕ) (S : Spelling A) (R : Reader A) : Type 0 where
  pub found : (w : List Token) (x : A) (rest : List Token) → R w ≡ Ok (x, rest) → Found S R w x rest
  pub fault : (w : List Token) (left : ℕ) → length w ≤ n → R w ≡ Err left → Fault S R w left
  pub whole : A
  pub word : List Token
  pub sample : S whole word

-- what is spelled has at least as many tokens as lie between the numbers
abbrev pub Gap : {A : Type 0} → Spelling A → ℕ → ℕ → Type 0
Gap S n m = (a : _) (w : List Token) → S a w → n ≤ m + length w

-- ---- one behind the other

pub sequence_same : {A B : Type 0} (R : Reader A) (f : A → Reader B) (a : A) (f1 f2 mid rest other : List Token) (y : Result (B × List Token) ℕ)
    → mid ≡ f2 ++ rest → ((o : List Token) → Alike mid o → R (f1 ++ o) ≡ Ok (a, o)) → Alike rest other → f a (f2 ++ other) ≡ y
    → and_then (R ((f1 ++ f2) ++ other)) f ≡ y
sequence_same R f a f1 f2 mid rest other y e same alike last =
    let near : Alike mid (f2 ++ other) = (let P : List Token → Type 0 = λ v. Alike v (f2 ++ other) in subst P (sym e) (alike_append f2 rest other alike)) in
    ap (λ v. and_then (R v) f) (append_assoc f1 f2 other) ∙ (ap (λ r. and_then r f) (same (f2 ++ other) near) ∙ last)

pub sequence_parts : (w f1 f2 mid rest : List Token) → w ≡ f1 ++ mid → mid ≡ f2 ++ rest → w ≡ (f1 ++ f2) ++ rest
sequence_parts w f1 f2 mid rest e d = e ∙ (ap (λ v. f1 ++ v) d ∙ sym (append_assoc f1 f2 rest))

module _ {A B : Type 0} (n m : ℕ) (S : Spelling A) (R : Reader A) (T : A → Spelling B) (f : A → Reader B) (h : Reads n S R) (g : (a : A) → Reads m (T a) (f a)) (gap : Gap S n m) where
  sequence_found : (w : List Token) (x : B) (rest : List Token) → and_then (R w) f ≡ Ok (x, rest) → Found (Sequence S T) (λ v. and_then (R v) f) w x rest
  sequence_found w x rest e =
      let p = and_then_ok (R w) f (x, rest) e in
      let a = p.0.0 in
      let mid = p.0.1 in
      let one = h.found w a mid p.1 in
      let two = (g a).found mid x rest p.2 in
      record {
        front = one.front ++ two.front;
        parts = sequence_parts w one.front two.front mid rest one.parts two.parts;
        by = record { of = a; front = one.front; back = two.front; parts = refl; first = one.by; second = two.by };
        same = λ other alike. sequence_same R f a one.front two.front mid rest other (Ok (x, other)) two.parts one.same alike (two.same other alike);
      }

  sequence_fault : (w : List Token) (left : ℕ) → length w ≤ n → and_then (R w) f ≡ Err left → Fault (Sequence S T) (λ v. and_then (R v) f) w left
  sequence_fault w left few e = elim (and_then_err (R w) f left e) [
    | inl d ↦
        (let one = h.fault w left few d in
        record {
          front = one.front;
          rest = one.rest;
          parts = one.parts;
          at = one.at;
          more = one.more ++ (g one.whole).word;
          whole = (g one.whole).whole;
          viable = record { of = one.whole; front = one.front ++ one.more; back = (g one.whole).word; parts = sym (append_assoc one.front one.more (g one.whole).word); first = one.viable; second = (g one.whole).sample };
          same = λ t r other same. ap (λ v. and_then v f) (one.same t r other same);
        })
    | inr p ↦
        (let a = p.0.0 in
        let mid = p.0.1 in
        let one = h.found w a mid p.1 in
        let enough : n ≤ m + length one.front = gap a one.front one.by in
        let sum : length w ≡ length one.front + length mid = ap length one.parts ∙ length-append one.front mid in
        let two = (g a).fault mid left (omega arith) p.2 in
        record {
          front = one.front ++ two.front;
          rest = two.rest;
          parts = sequence_parts w one.front two.front mid two.rest one.parts two.parts;
          at = two.at;
          more = two.more;
          whole = two.whole;
          viable = record { of = a; front = one.front; back = two.front ++ two.more; parts = append_assoc one.front two.front two.more; first = one.by; second = two.viable };
          same = λ t r other same.
              (let near : Alike two.rest (t ∷ other) = (let P : List Token → Type 0 = λ v. Alike v (t ∷ other) in subst P (sym same) refl) in
              sequence_same R f a one.front two.front mid two.rest (t ∷ other) (Err (length (t ∷ other))) two.parts one.same near (two.same t r other same));
        })
  ]

  pub reads_sequence : Reads n (Sequence S T) (λ w. and_then (R w) f)
  reads_sequence = record {
    found = sequence_found;
    fault = sequence_fault;
    whole = (g h.whole).whole;
    word = h.word ++ (g h.whole).word;
    sample = record { of = h.whole; front = h.word; back = (g h.whole).word; parts = refl; first = h.sample; second = (g h.whole).sample };
  }

-- ---- no token, and one token

pub reads_is : {A : Type 0} (n : ℕ) (a : A) → Reads n (Is a) (pure a)
reads_is n a = record {
  found = λ w x rest e.
      (let p : (a, w) ≡ (x, rest) = ok_same (a, w) (x, rest) e in
      record { front = []; parts = ap (λ r. r.1) p; by = (sym (ap (λ r. r.0) p), refl); same = λ other alike. ap (λ v. Ok (v, other)) (ap (λ r. r.0) p) });
  fault = λ w left few e. absurd (cc);
  whole = a;
  word = [];
  sample = (refl, refl);
}

module _ {A : Type 0} (n : ℕ) (f : Token → Option A) where
  token_found : (t : Token) (r : List Token) (o : Option A) → f t ≡ o → (x : A) (rest : List Token) → taken t r o ≡ Ok (x, rest) → Found (Means f) (token f) (t ∷ r) x rest
  unfolding token
  token_found t r (Some a) e x rest h =
      let p : (a, r) ≡ (x, rest) = ok_same (a, r) (x, rest) h in
      let value : f t ≡ Some x = e ∙ ap (λ v. Some v.0) p in
      record { front = t ∷ []; parts = ap (λ v. t ∷ v.1) p; by = (t, refl, value); same = λ other alike. ap (taken t other) value }
  token_found t r None e x rest h = absurd (cc)

  token_fault : (x : A) (word : List Token) → Means f x word → (t : Token) (r : List Token) (o : Option A) → f t ≡ o → (left : ℕ) → taken t r o ≡ Err left → Fault (Means f) (token f) (t ∷ r) left
  unfolding token
  token_fault x word sample t r (Some a) e left h = absurd (cc)
  token_fault x word sample t r None e left h =
      record {
        front = [];
        rest = t ∷ r;
        parts = refl;
        at = sym (err_same {X = A × List Token} (length (t ∷ r)) left h);
        more = word;
        whole = x;
        viable = sample;
        same = λ u s other d. let same_token : t ≡ u = head_same d in ap (taken u other) (ap f (sym same_token) ∙ e);
      }

  token_found_all : (w : List Token) (x : A) (rest : List Token) → token f w ≡ Ok (x, rest) → Found (Means f) (token f) w x rest
  unfolding token
  token_found_all [] x rest h = absurd (cc)
  token_found_all (t ∷ r) x rest h = token_found t r (f t) refl x rest h

  token_fault_all : (x : A) (word : List Token) → Means f x word → (w : List Token) (left : ℕ) → token f w ≡ Err left → Fault (Means f) (token f) w left
  unfolding token
  token_fault_all x word sample [] left h =
      record { front = []; rest = []; parts = refl; at = sym (err_same {X = A × List Token} 0 left h); more = word; whole = x; viable = sample; same = λ u s other d. absurd (cc) }
  token_fault_all x word sample (t ∷ r) left h = token_fault x word sample t r (f t) refl left h

  pub reads_token : (x : A) (t : Token) → f t ≡ Some x → Reads n (Means f) (token f)
  reads_token x t e = record {
    found = token_found_all;
    fault = λ w left few h. token_fault_all x (t ∷ []) (t, refl, e) w left h;
    whole = x;
    word = t ∷ [];
    sample = (t, refl, e);
  }

pub gap_token : {A : Type 0} (n : ℕ) (f : Token → Option A) → Gap (Means f) (suc n) n
gap_token n f a w h = rw h.1 (omega arith)

pub gap_same : {A : Type 0} (n : ℕ) (S : Spelling A) → Gap S n n
gap_same n S a w h = omega arith

-- ---- choices

-- the test goes the same way, whatever follows the refused token
pub test_front : (test : List Token → Bool) → Heads test → (b : Bool) (w front rest : List Token) (t : Token) (r other : List Token) → test w ≡ b → w ≡ front ++ rest → rest ≡ t ∷ r → test (front ++ t ∷ other) ≡ b
test_front test heads b w front rest t r other e parts d =
    let near : Alike rest (t ∷ other) = (let P : List Token → Type 0 = λ v. Alike v (t ∷ other) in subst P (sym d) refl) in
    sym (heads_front test heads front rest (t ∷ other) near) ∙ (ap test (sym parts) ∙ e)

module _ {A : Type 0} (n : ℕ) (test : List Token → Bool) (S T : Spelling A) (R Q : Reader A) (s : Reads n S R) (t : Reads n T Q) (heads : Heads test) where
  chosen : (b : Bool) (w : List Token) → test w ≡ b → choose test R Q w ≡ (if b then R else Q) w
  chosen b w e = ap (λ v. (if v then R else Q) w) e

  choose_found : (b : Bool) (w : List Token) (x : A) (rest : List Token) → test w ≡ b → (if b then R else Q) w ≡ Ok (x, rest) → Found (S or T) (choose test R Q) w x rest
  choose_found true w x rest e h =
      let one = s.found w x rest h in
      record { front = one.front; parts = one.parts; by = inl one.by; same = λ other alike. chosen true (one.front ++ other) (sym (heads_front test heads one.front rest other alike) ∙ (ap test (sym one.parts) ∙ e)) ∙ one.same other alike }
  choose_found false w x rest e h =
      let one = t.found w x rest h in
      record { front = one.front; parts = one.parts; by = inr one.by; same = λ other alike. chosen false (one.front ++ other) (sym (heads_front test heads one.front rest other alike) ∙ (ap test (sym one.parts) ∙ e)) ∙ one.same other alike }

  choose_fault : (b : Bool) (w : List Token) (left : ℕ) → length w ≤ n → test w ≡ b → (if b then R else Q) w ≡ Err left → Fault (S or T) (choose test R Q) w left
  choose_fault true w left few e h =
      let one = s.fault w left few h in
      record { front = one.front; rest = one.rest; parts = one.parts; at = one.at; more = one.more; whole = one.whole; viable = inl one.viable; same = λ t r other d. chosen true (one.front ++ t ∷ other) (test_front test heads true w one.front one.rest t r other e one.parts d) ∙ one.same t r other d }
  choose_fault false w left few e h =
      let one = t.fault w left few h in
      record { front = one.front; rest = one.rest; parts = one.parts; at = one.at; more = one.more; whole = one.whole; viable = inr one.viable; same = λ t r other d. chosen false (one.front ++ t ∷ other) (test_front test heads false w one.front one.rest t r other e one.parts d) ∙ one.same t r other d }

  pub reads_choose : Reads n (S or T) (choose test R Q)
  reads_choose = record {
    found = λ w x rest h. choose_found (test w) w x rest refl h;
    fault = λ w left few h. choose_fault (test w) w left few refl h;
    whole = s.whole;
    word = s.word;
    sample = inl s.sample;
  }

-- ---- changes

pub reads_wider : {A : Type 0} (n : ℕ) (S S' : Spelling A) (R : Reader A) → ((x : A) (w : List Token) → S x w → S' x w) → Reads n S R → Reads n S' R
reads_wider n S S' R into h = record {
  found = λ w x rest e. (let one = h.found w x rest e in record { front = one.front; parts = one.parts; by = into x one.front one.by; same = one.same });
  fault = λ w left few e. (let one = h.fault w left few e in record { front = one.front; rest = one.rest; parts = one.parts; at = one.at; more = one.more; whole = one.whole; viable = into one.whole (one.front ++ one.more) one.viable; same = one.same });
  whole = h.whole;
  word = h.word;
  sample = into h.whole h.word h.sample;
}

pub reads_equal : {A : Type 0} (n : ℕ) (S : Spelling A) (R R' : Reader A) → ((w : List Token) → R' w ≡ R w) → Reads n S R → Reads n S R'
reads_equal n S R R' into h = record {
  found = λ w x rest e. (let one = h.found w x rest (sym (into w) ∙ e) in record { front = one.front; parts = one.parts; by = one.by; same = λ other alike. into (one.front ++ other) ∙ one.same other alike });
  fault = λ w left few e. (let one = h.fault w left few (sym (into w) ∙ e) in record { front = one.front; rest = one.rest; parts = one.parts; at = one.at; more = one.more; whole = one.whole; viable = one.viable; same = λ t r other d. into (one.front ++ t ∷ other) ∙ one.same t r other d });
  whole = h.whole;
  word = h.word;
  sample = h.sample;
}
