-- A choice by two tokens, and a line with the line of its first token.
use Rattle.std.proofs.Common.{◌≡◌, ℕ, ◌≤◌, ◌<◌, Bool, true, false, List, [], ◌∷◌, ◌++◌, length, refl, ap, sym, ◌∙◌, subst, Ok, Err, inl, inr, if◌then◌else◌, arith}
use Rattle.c_lexer.specs.declared.token.Token.{Token}
use Rattle.c_expr.specs.Spelling.{Spelling, Located, ◌or◌, line_at}
use Rattle.c_expr.specs.Reading.{Reader, choose, located}
use Rattle.c_expr.proofs.Alike.{Alike, alike_append, Heads, false_is_not_true}
use Rattle.c_expr.proofs.Sound.{Found, Fault, Reads}
use Rattle.c_expr.proofs.Repeat.{Filled}

-- two tokens decide
abbrev pub Steady : (List Token → Bool) → Type 0
Steady test = (t : Token) (f r s : List Token) → Alike r s → test (t ∷ (f ++ r)) ≡ test (t ∷ (f ++ s))

-- where the first token belongs, a refusal comes behind it
abbrev pub Past : {A : Type 0} → ℕ → (List Token → Bool) → Reader A → Type 0
Past n first R = (w : List Token) (left : ℕ) → length w ≤ n → first w ≡ true → R w ≡ Err left → left < length w

alike_cons : (rest : List Token) (t : Token) (r other : List Token) → rest ≡ t ∷ r → Alike rest (t ∷ other)
alike_cons rest t r other d = let P : List Token → Type 0 = λ v. Alike v (t ∷ other) in subst P (sym d) refl

module _ {A : Type 0} (n : ℕ) (test first : List Token → Bool) (S T : Spelling A) (R Q : Reader A) (s : Reads n S R) (t : Reads n T Q)
    (steady : Steady test) (heads : Heads first) (implied : (w : List Token) → test w ≡ true → first w ≡ true) (fs : Filled S) (ft : Filled T) (ps : Past n first R) (pt : Past n first Q) where
  steady_front : (f r o : List Token) → 0 < length f → Alike r o → test (f ++ r) ≡ test (f ++ o)
  steady_front [] r o full alike = absurd (omega arith)
  steady_front (u ∷ f) r o full alike = steady u f r o alike

  picked : (b : Bool) (w : List Token) → test w ≡ b → choose test R Q w ≡ (if b then R else Q) w
  picked b w e = ap (λ v. (if v then R else Q) w) e

  peek_found : (b : Bool) (w : List Token) (x : A) (rest : List Token) → test w ≡ b → (if b then R else Q) w ≡ Ok (x, rest) → Found (S or T) (choose test R Q) w x rest
  peek_found true w x rest e h =
      let one = s.found w x rest h in
      record { front = one.front; parts = one.parts; by = inl one.by; same = λ other alike. picked true (one.front ++ other) (sym (steady_front one.front rest other (fs x one.front one.by) alike) ∙ (ap test (sym one.parts) ∙ e)) ∙ one.same other alike }
  peek_found false w x rest e h =
      let one = t.found w x rest h in
      record { front = one.front; parts = one.parts; by = inr one.by; same = λ other alike. picked false (one.front ++ other) (sym (steady_front one.front rest other (ft x one.front one.by) alike) ∙ (ap test (sym one.parts) ∙ e)) ∙ one.same other alike }

  stays_true : (w front rest : List Token) (left : ℕ) (u : Token) (r other : List Token) → length w ≤ n → test w ≡ true → R w ≡ Err left → w ≡ front ++ rest → left ≡ length rest → rest ≡ u ∷ r → test (front ++ u ∷ other) ≡ true
  stays_true w [] rest left u r other few e h parts at d =
      let long : left < length w = ps w left few (implied w e) h in
      let same : length w ≡ length rest = ap length parts in absurd (omega arith)
  stays_true w (v ∷ f) rest left u r other few e h parts at d = sym (steady v f rest (u ∷ other) (alike_cons rest u r other d)) ∙ (ap test (sym parts) ∙ e)

  not_first : (w : List Token) (b : Bool) → test w ≡ b → first w ≡ false → test w ≡ false
  not_first w true e d = absurd (false_is_not_true (sym d ∙ implied w e))
  not_first w false e d = e

  stays_false : (b : Bool) (w front rest : List Token) (left : ℕ) (u : Token) (r other : List Token) → first w ≡ b → length w ≤ n → test w ≡ false → Q w ≡ Err left → w ≡ front ++ rest → left ≡ length rest → rest ≡ u ∷ r → test (front ++ u ∷ other) ≡ false
  stays_false true w [] rest left u r other b few e h parts at d =
      let long : left < length w = pt w left few b h in
      let same : length w ≡ length rest = ap length parts in absurd (omega arith)
  stays_false false w [] rest left u r other b few e h parts at d =
      not_first (u ∷ other) (test (u ∷ other)) refl (sym (heads w (u ∷ other) (let P : List Token → Type 0 = λ v. Alike v (u ∷ other) in subst P (sym parts) (alike_cons rest u r other d))) ∙ b)
  stays_false b w (v ∷ f) rest left u r other c few e h parts at d = sym (steady v f rest (u ∷ other) (alike_cons rest u r other d)) ∙ (ap test (sym parts) ∙ e)

  peek_fault : (b : Bool) (w : List Token) (left : ℕ) → length w ≤ n → test w ≡ b → (if b then R else Q) w ≡ Err left → Fault (S or T) (choose test R Q) w left
  peek_fault true w left few e h =
      let one = s.fault w left few h in
      record { front = one.front; rest = one.rest; parts = one.parts; at = one.at; more = one.more; whole = one.whole; viable = inl one.viable; same = λ u r other d. picked true (one.front ++ u ∷ other) (stays_true w one.front one.rest left u r other few e h one.parts one.at d) ∙ one.same u r other d }
  peek_fault false w left few e h =
      let one = t.fault w left few h in
      record { front = one.front; rest = one.rest; parts = one.parts; at = one.at; more = one.more; whole = one.whole; viable = inr one.viable; same = λ u r other d. picked false (one.front ++ u ∷ other) (stays_false (first w) w one.front one.rest left u r other refl few e h one.parts one.at d) ∙ one.same u r other d }

  pub reads_peek : Reads n (S or T) (choose test R Q)
  reads_peek = record {
    found = λ w x rest h. peek_found (test w) w x rest refl h;
    fault = λ w left few h. peek_fault (test w) w left few refl h;
    whole = s.whole;
    word = s.word;
    sample = inl s.sample;
  }

-- ---- with the line of the first token

line_alike : (r s : List Token) → Alike r s → line_at r ≡ line_at s
line_alike [] [] h = refl
line_alike (t ∷ r) (u ∷ s) h = ap (λ v. v.line) h
line_alike [] (u ∷ s) h = absurd h
line_alike (t ∷ r) [] h = absurd h

pub line_front : (f r : List Token) → 0 < length f → line_at (f ++ r) ≡ line_at f
line_front [] r full = absurd (omega arith)
line_front (t ∷ f) r full = refl

module _ {A : Type 0} (n : ℕ) (S : ℕ → Spelling A) (R : ℕ → Reader A) (h : (line : ℕ) → Reads n (S line) (R line)) (filled : (line : ℕ) → Filled (S line))
    (moved : (l k : ℕ) (x : A) (w : List Token) → S l x w → (y : A) × S k y w) where
  located_found : (w : List Token) (x : A) (rest : List Token) → R (line_at w) w ≡ Ok (x, rest) → Found (Located S) (located R) w x rest
  located_found w x rest e =
      let one = (h (line_at w)).found w x rest e in
      let full = filled (line_at w) x one.front one.by in
      let line : line_at w ≡ line_at one.front = ap line_at one.parts ∙ line_front one.front rest full in
      record {
        front = one.front;
        parts = one.parts;
        by = (let P : ℕ → Type 0 = λ k. S k x one.front in subst P line one.by);
        same = λ other alike. ap (λ k. R k (one.front ++ other)) (line_front one.front other full ∙ sym line) ∙ one.same other alike;
      }

  located_fault : (w : List Token) (left : ℕ) → length w ≤ n → R (line_at w) w ≡ Err left → Fault (Located S) (located R) w left
  located_fault w left few e =
      let one = (h (line_at w)).fault w left few e in
      let y = moved (line_at w) (line_at (one.front ++ one.more)) one.whole (one.front ++ one.more) one.viable in
      record {
        front = one.front;
        rest = one.rest;
        parts = one.parts;
        at = one.at;
        more = one.more;
        whole = y.0;
        viable = y.1;
        same = λ t r other d.
            (let near : Alike (one.front ++ one.rest) (one.front ++ t ∷ other) = alike_append one.front one.rest (t ∷ other) (alike_cons one.rest t r other d) in
            ap (λ k. R k (one.front ++ t ∷ other)) (sym (line_alike (one.front ++ one.rest) (one.front ++ t ∷ other) near) ∙ ap line_at (sym one.parts)) ∙ one.same t r other d);
      }

  pub reads_located : Reads n (Located S) (located R)
  reads_located =
      let y = moved 0 (line_at (h 0).word) (h 0).whole (h 0).word (h 0).sample in
      record { found = located_found; fault = located_fault; whole = y.0; word = (h 0).word; sample = y.1 }
