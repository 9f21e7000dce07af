-- What the lines of a grammar spell asks for no more tokens than spell it, where their parts do.
use Rattle.std.proofs.Common.{◌≡◌, ℕ, ◌+◌, ◌≤◌, List, [], ◌∷◌, length, sym, subst, ap, Option, Some, None, inl, inr, arith, length-append}
use Rattle.std.specs.Prelude.{fold}
use Rattle.c_lexer.specs.declared.token.Token.{Token}
use Rattle.c_expr.specs.Spelling.{Spelling, Means, Is, Sequence, ◌<$>◌, ◌or◌, Never, Many, Grown, Further, Listed, Maybe, In_parens, push}

-- so many tokens are enough for each value that is spelled by so many
pub record Takes {A : Type 0} (P : A → ℕ → Type 0) (S : Spelling A) : Type 0 where
  pub takes : (x : A) (w : List Token) → S x w → P x (length w)

-- nothing is asked of a value
abbrev pub Whatever : {A : Type 0} → A → ℕ → Type 0
Whatever x k = Unit {0}

pub takes_whatever : {A : Type 0} {S : Spelling A} → Takes Whatever S
takes_whatever = record { takes = λ x w h. tt }

pub takes_so : {A : Type 0} {P Q : A → ℕ → Type 0} {S : Spelling A} → Takes P S → ((x : A) (k : ℕ) → P x k → Q x k) → Takes Q S
takes_so s f = record { takes = λ x w h. f x (length w) (s.takes x w h) }

pub takes_is : {A : Type 0} {P : A → ℕ → Type 0} {a : A} → P a 0 → Takes P (Is a)
takes_is {P = P} {a = a} p = record { takes = λ x w h. subst (λ y. P y (length w)) (sym h.0) (subst (λ v. P a (length v)) (sym h.1) p) }

pub takes_never : {A : Type 0} {P : A → ℕ → Type 0} → Takes P Never
takes_never = record { takes = λ x w h. absurd h }

pub takes_bind : {A B : Type 0} {P : A → ℕ → Type 0} {Q : B → ℕ → Type 0} {S : Spelling A} {T : A → Spelling B}
    → Takes P S → ((a : A) (m : ℕ) → P a m → Takes (λ b k. Q b (m + k)) (T a)) → Takes Q (Sequence S T)
takes_bind {Q = Q} s r = record {
  takes = λ x w h.
      subst (λ v. Q x (length v)) (sym h.parts) (subst (Q x) (sym (length-append h.front h.back))
      ((r h.of (length h.front) (s.takes h.of h.front h.first)).takes x h.back h.second));
}

-- behind a part of which nothing is asked
pub takes_then : {A B : Type 0} {Q : B → ℕ → Type 0} {S : Spelling A} {T : A → Spelling B}
    → ((a : A) (m : ℕ) → Takes (λ b k. Q b (m + k)) (T a)) → Takes Q (Sequence S T)
takes_then r = takes_bind {P = Whatever} takes_whatever (λ a m u. r a m)

-- behind one token
abbrev IsOne : {A : Type 0} → A → ℕ → Type 0
IsOne x k = k ≡ 1

takes_one : {A : Type 0} (f : Token → Option A) → Takes IsOne (Means f)
takes_one f = record { takes = λ x w h. ap length h.1 }

pub takes_token : {A B : Type 0} {Q : B → ℕ → Type 0} {f : Token → Option A} {T : A → Spelling B}
    → ((a : A) → Takes (λ b k. Q b (1 + k)) (T a)) → Takes Q (Sequence (Means f) T)
takes_token {Q = Q} {f = f} {T = T} r =
    takes_bind {P = IsOne} (takes_one f) (λ a m e. subst (λ n. Takes (λ b k. Q b (n + k)) (T a)) (sym e) (r a))

plus_zero : (m : ℕ) → m + 0 ≡ m
plus_zero m = omega arith

zero_plus : (m : ℕ) → 0 + m ≡ m
zero_plus m = omega arith

pub takes_map : {A B : Type 0} {P : A → ℕ → Type 0} {Q : B → ℕ → Type 0} {S : Spelling A} (f : A → B)
    → Takes P S → ((a : A) (m : ℕ) → P a m → Q (f a) m) → Takes Q (f <$> S)
takes_map {Q = Q} f s g = takes_bind s (λ a m p. takes_is (subst (Q (f a)) (sym (plus_zero m)) (g a m p)))

pub takes_or : {A : Type 0} {P : A → ℕ → Type 0} {S T : Spelling A} → Takes P S → Takes P T → Takes P (S or T)
takes_or s t = record { takes = λ x w h. elim h [ inl p ↦ s.takes x w p | inr p ↦ t.takes x w p ] }

-- of a value that may be missing
abbrev pub AskedIf : {A : Type 0} → (A → ℕ → Type 0) → Option A → ℕ → Type 0
AskedIf P None k = Unit {0}
AskedIf P (Some x) k = P x k

pub takes_maybe : {A : Type 0} {P : A → ℕ → Type 0} {S : Spelling A} → Takes P S → Takes (AskedIf P) (Maybe S)
takes_maybe {P = P} s = takes_or (takes_map {Q = AskedIf P} Some s (λ a m p. p)) (takes_is tt)

-- ---- lists

-- so many tokens are enough for all of them together
abbrev pub Together : {A : Type 0} → (A → ℕ → Type 0) → List A → ℕ → Type 0
Together P [] k = Unit {0}
Together P (x ∷ xs) k = (m n : ℕ) × P x m × Together P xs n × (m + n ≤ k)

pub one_more : {A : Type 0} (P : A → ℕ → Type 0) (xs : List A) (m : ℕ) (y : A) (k : ℕ) → Together P xs m → P y k → Together P (push xs y) (m + k)
one_more P [] m y k h p = (k, 0, p, tt, omega arith)
one_more P (x ∷ xs) m y k h p = (h.0, h.1 + k, h.2, one_more P xs h.1 y k h.3 p, omega (arith, h.4))

module _ {A B : Type 0} (P : A → ℕ → Type 0) (Q : B → ℕ → Type 0) (grow : A → B → A)
    (grows : (a : A) (m : ℕ) (b : B) (k : ℕ) → P a m → Q b k → P (grow a b) (m + k)) where
  grown : {S : Spelling B} → Takes Q S → (a : A) (m : ℕ) (ys : List B) (w : List Token) → P a m → Many S ys w → P (fold grow a ys) (m + length w)
  grown s a m [] w p h = let e : m + length w ≡ m = omega (arith, ap length h) in subst (P a) (sym e) p
  grown s a m (y ∷ ys) w p h =
      let e : (m + length h.0) + length h.1 ≡ m + length w = omega (arith, ap length h.2, length-append h.0 h.1) in
      subst (P (fold grow (grow a y) ys)) e
      (grown s (grow a y) (m + length h.0) ys h.1 (grows a m y (length h.0) p (s.takes y h.0 h.3)) h.4)

-- what was spelled of so many tokens so far grows
pub takes_grown : {A B : Type 0} {P : A → ℕ → Type 0} {Q : B → ℕ → Type 0} {S : Spelling B} (grow : A → B → A)
    → ((a : A) (m : ℕ) (b : B) (k : ℕ) → P a m → Q b k → P (grow a b) (m + k)) → Takes Q S → (a : A) (m : ℕ) → P a m
    → Takes (λ x k. P x (m + k)) (Grown grow S a)
takes_grown {P = P} {Q = Q} grow grows s a m p = record {
  takes = λ x w h. subst (λ y. P y (m + length w)) (sym h.2) (grown P Q grow grows s a m h.0 w p h.1);
}

pub takes_further : {A : Type 0} {P : A → ℕ → Type 0} {S : Spelling A} → Takes P S → Takes (Together P) (Further S [])
takes_further {P = P} s =
    takes_so (takes_grown {P = Together P} push (one_more P) s [] 0 tt) (λ xs k h. subst (Together P xs) (zero_plus k) h)

-- with commas between; what is enough for a value is enough with one more
pub takes_listed : {A : Type 0} {P : A → ℕ → Type 0} {S : Spelling A} → ((x : A) (k : ℕ) → P x k → P x (1 + k)) → Takes P S
    → Takes (Together P) (Listed S)
takes_listed {P = P} more s =
    takes_bind s (λ x m p. takes_grown {P = Together P} push (one_more P) (takes_token (λ t. takes_so s more)) (x ∷ []) m
    (m, 0, p, tt, omega arith))

one_behind : (m : ℕ) → 1 + m ≡ m + (1 + 0)
one_behind m = omega arith

pub takes_parens : {A : Type 0} {P : A → ℕ → Type 0} {S : Spelling A} → ((x : A) (k : ℕ) → P x k → P x (1 + k)) → Takes P S → Takes P (In_parens S)
takes_parens {P = P} more s =
    takes_token (λ t. takes_bind s (λ x m p. takes_token (λ u. takes_is (more x (m + (1 + 0)) (subst (P x) (one_behind m) (more x m p))))))
