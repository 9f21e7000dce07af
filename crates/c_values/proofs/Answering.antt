-- How what a rule allows, what is made and what is refused answer what checking answers in order.
use Rattle.std.proofs.Common.{◌≡◌, ℕ, Bool as Test, true, false, if◌then◌else◌, List, Option, Some, None, Result, Ok, Err, refl, sym, ap, subst, inl, inr, ◌⊎◌}
use Rattle.c_types.specs.declared.type_ref.Row.{Row}
use Rattle.c_types.specs.Rules.{Ruled}
use Rattle.c_typed.specs.declared.value.Place as p
use Rattle.c_typed.specs.Typed.{Place}
use Rattle.typing_rules.specs.Terms as terms
use Rattle.typing_rules.specs.declared.refusal.TypeRefusal.{TypeRefusal}
use Rattle.typing_rules.specs.declared.refusal.TypeRefusal.TheVariants.{Memory, Mismatch}
use Rattle.typing_rules.specs.Known.{Known}
use Rattle.typing_rules.specs.Checking.{Checked, Checking, and_then, ◌>>=◌, pure, refuse, ruled_by, given}
use Rattle.std.specs.Result.{IfOk}
use Rattle.std.specs.declared.alloc.AllocError.{AllocError}
use Rattle.std.proofs.lemmas.Result.{IfOk-at_ok}
use Rattle.c_values.specs.Stand.{MeansPlace, IsOrMemory}
use Rattle.c_values.specs.Answers.{AnswersAt, Answers, MeansPlaceIf}

-- a rule that allows
pub allowed-answers : {X A B : Type 0} (M : X → B → Type 0) (at : ℕ) (r : Ruled A) (f : A) (g : A → Checking B) (result : Result X TypeRefusal)
    → Ok f ≡ r → Answers M result (g f) → Answers M result (ruled_by at r >>= g)
allowed-answers M at r f g result is h = subst (λ s. Answers M result (ruled_by at s >>= g)) is h

-- a rule that is broken
pub broken-answers : {X A B : Type 0} (M : X → B → Type 0) (at : ℕ) (r : Ruled A) (n : ℕ) (g : A → Checking B)
    → Err n ≡ r → Answers {X = X} {A = B} M (Err (Mismatch at n)) (ruled_by at r >>= g)
broken-answers M at r n g is = subst (λ s. Answers M (Err (Mismatch at n)) (ruled_by at s >>= g)) is (λ k. inl refl)

-- a test that a rule makes
pub tested-answers : {X A B : Type 0} (M : X → B → Type 0) (at n : ℕ) (b : Test) (f : A) (g : A → Checking B) (result : Result X TypeRefusal)
    → b ≡ true → Answers M result (g f) → Answers M result (ruled_by at (if b then Ok f else Err n) >>= g)
tested-answers M at n b f g result is h = subst (λ s. Answers M result (ruled_by at (if s then Ok f else Err n) >>= g)) (sym is) h

pub untested-answers : {X A B : Type 0} (M : X → B → Type 0) (at n : ℕ) (b : Test) (f : A) (g : A → Checking B)
    → b ≡ false → Answers {X = X} {A = B} M (Err (Mismatch at n)) (ruled_by at (if b then Ok f else Err n) >>= g)
untested-answers M at n b f g is = subst (λ s. Answers M (Err (Mismatch at n)) (ruled_by at (if s then Ok f else Err n) >>= g)) (sym is) (λ k. inl refl)

-- an lvalue that is there
pub record Placed (rows : List Row) (x : p.Place) (t : terms.Target) : Type 0 where
  pub place : Place
  pub is : t.lvalue ≡ Some place
  pub means : MeansPlace rows x place

pub placed : (rows : List Row) (x : p.Place) (o : Option p.Place) (t : terms.Target) → o ≡ Some x → MeansPlaceIf rows o t.lvalue → Placed rows x t
placed rows x o t is m = by t.lvalue refl (subst (λ z. MeansPlaceIf rows z t.lvalue) is m)
  where
    by : (l : Option Place) → t.lvalue ≡ l → MeansPlaceIf rows (Some x) l → Placed rows x t
    by None e h = absurd h
    by (Some q) e h = record { place = q; is = e; means = h }

pub given-answers : {X A B : Type 0} (M : X → B → Type 0) (o : Option A) (a : A) (e : TypeRefusal) (g : A → Checking B) (result : Result X TypeRefusal)
    → o ≡ Some a → Answers M result (g a) → Answers M result (given o e >>= g)
given-answers M o a e g result is h = subst (λ z. Answers M result (given z e >>= g)) (sym is) h

-- what was made, or want of memory
pub made-answers : {X A : Type 0} (M : X → A → Type 0) (r : Result X TypeRefusal) (made : Result X AllocError) (a : A) → IsOrMemory r made → IfOk made (λ x. M x a) → Answers M r (pure a)
made-answers M (Ok x) made a is m = λ k. (IfOk-at_ok (λ y. M y a) is m, refl)
made-answers M (Err e) made a is m = λ k. is

-- ---- one after another

bind-at : {X A Y B : Type 0} (M : X → A → Type 0) (N : Y → B → Type 0) (k : Known) (x : X) (r : Result Y TypeRefusal) (c : Checked A) (f : A → Checking B)
    → AnswersAt M k (Ok x) c → ((a : A) → M x a → Answers N r (f a)) → AnswersAt N k r (and_then c f)
bind-at M N k x r (Ok found) f h next = subst (λ z. AnswersAt N z r (f found.0 found.1)) h.1 (next found.0 h.0 found.1)
bind-at M N k x r (Err e) f h next = absurd h

-- a call that answered something, and what comes after it
pub bind-answers : {X A Y B : Type 0} (M : X → A → Type 0) (N : Y → B → Type 0) (x : X) (r : Result Y TypeRefusal) (m : Checking A) (f : A → Checking B)
    → Answers M (Ok x) m → ((a : A) → M x a → Answers N r (f a)) → Answers N r (m >>= f)
bind-answers M N x r m f h next = λ k. bind-at M N k x r (m k) f (h k) next

memory-comes : {Y B : Type 0} (N : Y → B → Type 0) (k : Known) (e : TypeRefusal) (c : Checked B) → e ≡ Memory → AnswersAt {X = Y} {A = B} N k (Err e) c
memory-comes N k e (Ok p) h = h
memory-comes N k e (Err q) h = inr h

told-at : {X A Y B : Type 0} (M : X → A → Type 0) (N : Y → B → Type 0) (k : Known) (e : TypeRefusal) (c : Checked A) (f : A → Checking B)
    → AnswersAt {X = X} {A = A} M k (Err e) c → AnswersAt {X = Y} {A = B} N k (Err e) (and_then c f)
told-at M N k e (Ok found) f h = memory-comes N k e (f found.0 found.1) h
told-at M N k e (Err q) f h = h

-- a call that answered a refusal
pub told-answers : {X A Y B : Type 0} (M : X → A → Type 0) (N : Y → B → Type 0) (e : TypeRefusal) (m : Checking A) (f : A → Checking B)
    → Answers {X = X} {A = A} M (Err e) m → Answers {X = Y} {A = B} N (Err e) (m >>= f)
told-answers M N e m f h = λ k. told-at M N k e (m k) f (h k)
