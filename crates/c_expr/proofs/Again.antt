-- What is spelled is read, where what follows does not go on with it.
use Rattle.std.proofs.Common.{◌≡◌, ℕ, zero, suc, ◌+◌, ◌≤◌, ◌<◌, Bool, true, false, List, [], ◌∷◌, ◌++◌, length, fold, refl, ap, sym, ◌∙◌, subst, Option, Ok, inl, inr, if◌then◌else◌, append_assoc, length-append, arith}
use Rattle.c_lexer.specs.declared.token.Token.{Token}
use Rattle.c_expr.specs.Codes.{code, one_of}
use Rattle.c_expr.specs.Spelling.{Spelling, Means, Is, Sequence, Many, Grown, Located, ◌or◌, line_at}
use Rattle.c_expr.specs.Reading.{Reader, begins, and_then, token, taken, pure, choose, grown_from, grown, located}
use Rattle.c_expr.proofs.Sound.{Gap, gap_same, gap_token}
use Rattle.c_expr.proofs.Repeat.{Filled}
use Rattle.c_expr.proofs.Peek.{line_front}
use Rattle.c_expr.proofs.Starts.{Starts, starts_filled, apart, within, begins_apart, begins_with, within_one}
use Rattle.c_expr.proofs.Alike.{false_is_not_true}

-- a fact of the tokens that follow
abbrev pub Ahead : Type 1
Ahead = List Token → Type 0

-- they begin with none of these kinds
abbrev pub Off : List ℕ → Ahead
Off ks rest = begins ks rest ≡ false

-- they begin with one of these kinds
abbrev pub On : List ℕ → Ahead
On ks rest = begins ks rest ≡ true

abbrev pub Anything : Ahead
Anything rest = Unit {0}

-- at most so many tokens that are spelled, where this holds of what follows
pub record Again {A : Type 0} (n : ℕ) (S : Spelling A) (R : Reader A) (P : Ahead) : Type 0 where
  pub read : (x : A) (f rest : List Token) → S x f → length f ≤ n → P rest → R (f ++ rest) ≡ Ok (x, rest)

-- the first holds of what is spelled and what follows, where the second holds of what follows
pub record Clear {A : Type 0} (P : Ahead) (T : Spelling A) (Q : Ahead) : Type 0 where
  pub clear : (x : A) (f rest : List Token) → T x f → Q rest → P (f ++ rest)

pub again_sequence : {A B : Type 0} {S : Spelling A} {R : Reader A} {T : A → Spelling B} {f : A → Reader B} {P Q : Ahead} (n m : ℕ)
    → Again n S R P → ((a : A) → Again m (T a) (f a) Q) → Gap S n m → ((a : A) → Clear P (T a) Q) → Again n (Sequence S T) (λ w. and_then (R w) f) Q
again_sequence {R = R} {f = f} n m one two gap clear = record {
  read = λ x w rest h few q.
      (let sum : length w ≡ length h.front + length h.back = ap length h.parts ∙ length-append h.front h.back in
      let enough : n ≤ m + length h.front = gap h.of h.front h.first in
      let joined : w ++ rest ≡ h.front ++ (h.back ++ rest) = ap (λ v. v ++ rest) h.parts ∙ append_assoc h.front h.back rest in
      ap (λ v. and_then (R v) f) joined
      ∙ (ap (λ r. and_then r f) (one.read h.of h.front (h.back ++ rest) h.first (omega arith) ((clear h.of).clear x h.back rest h.second q))
      ∙ (two h.of).read x h.back rest h.second (omega arith) q));
}

pub again_seq : {A B : Type 0} {n : ℕ} {S : Spelling A} {R : Reader A} {T : A → Spelling B} {f : A → Reader B} {P Q : Ahead}
    → Again n S R P → ((a : A) → Clear P (T a) Q) → ((a : A) → Again n (T a) (f a) Q) → Again n (Sequence S T) (λ w. and_then (R w) f) Q
again_seq {n = n} {S = S} one clear two = again_sequence n n one two (gap_same n S) clear

pub again_is : {A : Type 0} {P : Ahead} (n : ℕ) (a : A) → Again n (Is a) (pure a) P
again_is n a = record { read = λ x f rest h few p. ap (λ v. Ok (a, v ++ rest)) h.1 ∙ ap (λ v. Ok (v, rest)) (sym h.0) }

pub again_token : {A : Type 0} {P : Ahead} (n : ℕ) (f : Token → Option A) → Again n (Means f) (token f) P
unfolding token
again_token n f = record { read = λ x w rest h few p. ap (λ v. token f (v ++ rest)) h.1 ∙ ap (taken h.0 rest) h.2 }

-- a token, and behind it what is one token shorter
pub again_after : {A B : Type 0} {n : ℕ} {o : Token → Option A} {T : A → Spelling B} {f : A → Reader B} {Q : Ahead}
    → ((a : A) → Again n (T a) (f a) Q) → Again (suc n) (Sequence (Means o) T) (λ w. and_then (token o w) f) Q
again_after {n = n} {o = o} two = again_sequence {P = Anything} (suc n) n (again_token (suc n) o) two (gap_token n o) (λ a. record { clear = λ x f rest h q. tt })

-- a token, and behind it what is at most as long
pub again_behind : {A B : Type 0} {n : ℕ} {o : Token → Option A} {T : A → Spelling B} {f : A → Reader B} {Q : Ahead}
    → ((a : A) → Again n (T a) (f a) Q) → Again n (Sequence (Means o) T) (λ w. and_then (token o w) f) Q
again_behind {n = n} {o = o} two = again_seq {P = Anything} (again_token n o) (λ a. record { clear = λ x f rest h q. tt }) two

pub clear_is : {A : Type 0} (a : A) (P Q : Ahead) → ((rest : List Token) → Q rest → P rest) → Clear P (Is a) Q
clear_is a P Q into = record { clear = λ x f rest h q. (let T : List Token → Type 0 = λ v. P (v ++ rest) in subst T (sym h.1) (into rest q)) }

pub again_map : {A B : Type 0} {n : ℕ} {S : Spelling A} {R : Reader A} {P : Ahead} (f : A → B) → Again n S R P → Again n (Sequence S (λ x. Is (f x))) (λ w. and_then (R w) (λ x. pure (f x))) P
again_map {n = n} {P = P} f h = again_seq h (λ a. clear_is (f a) P P (λ rest q. q)) (λ a. again_is n (f a))

choose_read : {A : Type 0} (n : ℕ) (test : List Token → Bool) (S T : Spelling A) (R Q : Reader A) (P : Ahead) → Again n S R P → Again n T Q P
    → ((x : A) (f rest : List Token) → S x f → P rest → test (f ++ rest) ≡ true) → ((x : A) (f rest : List Token) → T x f → P rest → test (f ++ rest) ≡ false)
    → (x : A) (f rest : List Token) → (S or T) x f → length f ≤ n → P rest → choose test R Q (f ++ rest) ≡ Ok (x, rest)
choose_read n test S T R Q P one two yes_test no_test x f rest (inl h) few p = ap (λ v. (if v then R else Q) (f ++ rest)) (yes_test x f rest h p) ∙ one.read x f rest h few p
choose_read n test S T R Q P one two yes_test no_test x f rest (inr h) few p = ap (λ v. (if v then R else Q) (f ++ rest)) (no_test x f rest h p) ∙ two.read x f rest h few p

pub again_choose : {A : Type 0} {n : ℕ} {S T : Spelling A} {R Q : Reader A} {P : Ahead} (test : List Token → Bool) → Again n S R P → Again n T Q P
    → ((x : A) (f rest : List Token) → S x f → P rest → test (f ++ rest) ≡ true) → ((x : A) (f rest : List Token) → T x f → P rest → test (f ++ rest) ≡ false)
    → Again n (S or T) (choose test R Q) P
again_choose {n = n} {S = S} {T = T} {R = R} {Q = Q} {P = P} test one two yes_test no_test = record { read = λ x f rest h few p. choose_read n test S T R Q P one two yes_test no_test x f rest h few p }

-- by what both lines begin with
pub again_if : {A : Type 0} {n : ℕ} {S T : Spelling A} {R Q : Reader A} {P : Ahead} (ks ls ms : List ℕ) → Starts ks S → within ks ms ≡ true → Starts ls T → apart ls ms ≡ true
    → Again n S R P → Again n T Q P → Again n (S or T) (choose (begins ms) R Q) P
again_if {S = S} {T = T} ks ls ms s e t d one two = again_choose (begins ms) one two (λ x f rest h p. begins_with ks S s ms e x f rest h) (λ x f rest h p. begins_apart ls T t ms d x f rest h)

-- by what the first line begins with, where the second may be empty
pub again_maybe : {A : Type 0} {n : ℕ} {S T : Spelling A} {R Q : Reader A} {P : Ahead} (ks ms : List ℕ) → Starts ks S → within ks ms ≡ true → Clear (Off ms) T P
    → Again n S R P → Again n T Q P → Again n (S or T) (choose (begins ms) R Q) P
again_maybe {S = S} {T = T} ks ms s e t one two = again_choose (begins ms) one two (λ x f rest h p. begins_with ks S s ms e x f rest h) (λ x f rest h p. t.clear x f rest h p)

swap_read : {A : Type 0} (n : ℕ) (S T : Spelling A) (R : Reader A) (P : Ahead) → Again n (S or T) R P → (x : A) (f rest : List Token) → (T or S) x f → length f ≤ n → P rest → R (f ++ rest) ≡ Ok (x, rest)
swap_read n S T R P h x f rest (inl t) few p = h.read x f rest (inr t) few p
swap_read n S T R P h x f rest (inr s) few p = h.read x f rest (inl s) few p

pub again_swap : {A : Type 0} {n : ℕ} {S T : Spelling A} {R : Reader A} {P : Ahead} → Again n (S or T) R P → Again n (T or S) R P
again_swap {n = n} {S = S} {T = T} {R = R} {P = P} h = record { read = swap_read n S T R P h }

pub clear_many : {B : Type 0} (P Q : Ahead) (S : Spelling B) → Clear P S Anything → ((rest : List Token) → Q rest → P rest) → (zs : List B) (g rest : List Token) → Many S zs g → Q rest → P (g ++ rest)
clear_many P Q S next last [] g rest h q = let T : List Token → Type 0 = λ v. P (v ++ rest) in subst T (sym h) (last rest q)
clear_many P Q S next last (z ∷ zs) g rest h q =
    let T : List Token → Type 0 = P in
    subst T (sym (ap (λ v. v ++ rest) h.2 ∙ append_assoc h.0 h.1 rest)) (next.clear z h.0 (h.1 ++ rest) h.3 tt)

module _ {A B : Type 0} (n : ℕ) (test : List Token → Bool) (grow : A → B → A) (S : Spelling B) (r : Reader B) (P Q : Ahead)
    (one : Again n S r P) (goes : (y : B) (f rest : List Token) → S y f → test (f ++ rest) ≡ true) (filled : Filled S)
    (next : Clear P S Anything) (last : (rest : List Token) → Q rest → (test rest ≡ false) × P rest) where
  grown_again : (ys : List B) (turns : ℕ) (a : A) (f rest : List Token) → Many S ys f → length f ≤ n → length f ≤ turns → Q rest → grown_from test grow r turns a (f ++ rest) ≡ Ok (fold grow a ys, rest)
  unfolding grown_from
  grown_again [] zero a f rest h few low q = ap (λ v. Ok (a, v ++ rest)) h
  grown_again [] (suc turns) a f rest h few low q =
      ap (λ v. choose test (λ w. and_then (r w) (λ b. grown_from test grow r turns (grow a b))) (pure a) (v ++ rest)) h
      ∙ ap (λ v. (if v then (λ w. and_then (r w) (λ b. grown_from test grow r turns (grow a b))) else pure a) rest) (last rest q).0
  grown_again (y ∷ ys) zero a f rest h few low q =
      let full : 0 < length h.0 = filled y h.0 h.3 in
      let sum : length f ≡ length h.0 + length h.1 = ap length h.2 ∙ length-append h.0 h.1 in absurd (omega arith)
  grown_again (y ∷ ys) (suc turns) a f rest h few low q =
      let full : 0 < length h.0 = filled y h.0 h.3 in
      let sum : length f ≡ length h.0 + length h.1 = ap length h.2 ∙ length-append h.0 h.1 in
      let joined : f ++ rest ≡ h.0 ++ (h.1 ++ rest) = ap (λ v. v ++ rest) h.2 ∙ append_assoc h.0 h.1 rest in
      let item : r (h.0 ++ (h.1 ++ rest)) ≡ Ok (y, h.1 ++ rest) = one.read y h.0 (h.1 ++ rest) h.3 (omega arith) (clear_many P Q S next (λ o d. (last o d).1) ys h.1 rest h.4 q) in
      ap (λ v. choose test (λ w. and_then (r w) (λ b. grown_from test grow r turns (grow a b))) (pure a) v) joined
      ∙ (ap (λ v. (if v then (λ w. and_then (r w) (λ b. grown_from test grow r turns (grow a b))) else pure a) (h.0 ++ (h.1 ++ rest))) (goes y h.0 (h.1 ++ rest) h.3)
      ∙ (ap (λ v. and_then v (λ b. grown_from test grow r turns (grow a b))) item
      ∙ grown_again ys turns (grow a y) h.1 rest h.4 (omega arith) (omega arith) q))

  pub again_grown : (a : A) → Again n (Grown grow S a) (grown test grow r a) Q
  again_grown a = record {
    read = λ x f rest h few q.
        (let low : length f ≤ length (f ++ rest) = (let sum : length (f ++ rest) ≡ length f + length rest = length-append f rest in omega arith) in
        grown_again h.0 (length (f ++ rest)) a f rest h.1 few low q ∙ ap (λ v. Ok (v, rest)) (sym h.2));
  }

-- ---- what follows

pub clear_starts : {A : Type 0} {T : Spelling A} {Q : Ahead} (ks ls : List ℕ) → Starts ks T → apart ks ls ≡ true → Clear (Off ls) T Q
clear_starts {T = T} ks ls s e = record { clear = λ x f rest h q. begins_apart ks T s ls e x f rest h }

or_clear : {A : Type 0} (P Q : Ahead) (S T : Spelling A) → Clear P S Q → Clear P T Q → (x : A) (f rest : List Token) → (S or T) x f → Q rest → P (f ++ rest)
or_clear P Q S T s t x f rest (inl h) q = s.clear x f rest h q
or_clear P Q S T s t x f rest (inr h) q = t.clear x f rest h q

pub clear_or : {A : Type 0} {P Q : Ahead} {S T : Spelling A} → Clear P S Q → Clear P T Q → Clear P (S or T) Q
clear_or {P = P} {Q = Q} {S = S} {T = T} s t = record { clear = or_clear P Q S T s t }

pub clear_grown : {A B : Type 0} {P Q : Ahead} {S : Spelling B} (grow : A → B → A) (a : A) → Clear P S Anything → ((rest : List Token) → Q rest → P rest) → Clear P (Grown grow S a) Q
clear_grown {P = P} {Q = Q} {S = S} grow a next last = record { clear = λ x f rest h q. clear_many P Q S next last h.0 f rest h.1 q }

pub clear_sequence : {A B : Type 0} {P O Q : Ahead} {S : Spelling A} {T : A → Spelling B} → Clear P S O → ((a : A) → Clear O (T a) Q) → Clear P (Sequence S T) Q
clear_sequence {P = P} s t = record {
  clear = λ x f rest h q.
      (let U : List Token → Type 0 = P in
      subst U (sym (ap (λ v. v ++ rest) h.parts ∙ append_assoc h.front h.back rest)) (s.clear h.of h.front (h.back ++ rest) h.first ((t h.of).clear x h.back rest h.second q)));
}

-- ---- changes

pub again_located : {A : Type 0} {P : Ahead} (n : ℕ) (S : ℕ → Spelling A) (R : ℕ → Reader A) → ((line : ℕ) → Again n (S line) (R line) P) → ((line : ℕ) → Filled (S line)) → Again n (Located S) (located R) P
again_located n S R each filled = record {
  read = λ x f rest h few p.
      (ap (λ k. R k (f ++ rest)) (line_front f rest (filled (line_at f) x f h)) ∙ (each (line_at f)).read x f rest h few p);
}

pub again_narrower : {A : Type 0} {n : ℕ} {S S' : Spelling A} {R : Reader A} {P : Ahead} → ((x : A) (w : List Token) → S' x w → S x w) → Again n S R P → Again n S' R P
again_narrower into h = record { read = λ x f rest s few p. h.read x f rest (into x f s) few p }

pub again_ahead : {A : Type 0} {n : ℕ} {S : Spelling A} {R : Reader A} {P Q : Ahead} → ((rest : List Token) → Q rest → P rest) → Again n S R P → Again n S R Q
again_ahead into h = record { read = λ x f rest s few q. h.read x f rest s few (into rest q) }

pub again_fewer : {A : Type 0} {n m : ℕ} {S : Spelling A} {R : Reader A} {P : Ahead} → m ≤ n → Again n S R P → Again m S R P
again_fewer le h = record { read = λ x f rest s few p. h.read x f rest s (omega (arith, le, few)) p }

-- fewer kinds
pub off_within : (ks ls : List ℕ) → within ks ls ≡ true → (rest : List Token) → Off ls rest → Off ks rest
unfolding begins
off_within ks ls e [] h = refl
off_within ks ls e (t ∷ rest) h = kind_off (one_of ks (code t)) refl
  where
    kind_off : (b : Bool) → one_of ks (code t) ≡ b → b ≡ false
    kind_off true d = absurd (false_is_not_true (sym h ∙ within_one ks ls (code t) e d))
    kind_off false d = refl

-- a repetition behind which nothing of the kinds of its items or of what goes on with an item stands
pub again_repeat : {A B : Type 0} {n : ℕ} {S : Spelling B} {r : Reader B} (ks ls ms : List ℕ) (grow : A → B → A) → Again n S r (Off ls) → Starts ks S → apart ks ls ≡ true
    → within ks ks ≡ true → within ks ms ≡ true → within ls ms ≡ true → (a : A) → Again n (Grown grow S a) (grown (begins ks) grow r a) (Off ms)
again_repeat {n = n} {S = S} {r = r} ks ls ms grow one starts d same k l a =
    again_grown n (begins ks) grow S r (Off ls) (Off ms) one (λ y f rest h. begins_with ks S starts ks same y f rest h) (starts_filled ks S starts) (clear_starts ks ls starts d)
    (λ rest q. (off_within ks ms k rest q, off_within ls ms l rest q)) a
