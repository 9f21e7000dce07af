-- Relations of typing: a result, with what is known before and after it.
use Rattle.std.specs.Prelude.{◌≡◌, ◌⊎◌, Bool as Test, IsTrue, IsFalse}
use Rattle.typing_rules.specs.Known.{Known}

abbrev pub Typing : Type 0 → Type 1
Typing A = A → Known → Known → Type 0

-- one thing, and behind it another that may depend on it
pub record Sequence {A B : Type 0} (S : Typing A) (T : A → Typing B) (y : B) (before after : Known) : Type 0 where
  pub of : A
  pub between : Known
  pub first : S of before between
  pub second : T of y between after

infixl 10 ◌>>=◌
abbrev pub ◌>>=◌ : {A B : Type 0} → Typing A → (A → Typing B) → Typing B
S >>= T = Sequence S T

infixl 10 ◌>>◌
abbrev pub ◌>>◌ : {A B : Type 0} → Typing A → Typing B → Typing B
S >> T = Sequence S (λ _. T)

-- this, with nothing new known
abbrev pub Is : {A : Type 0} → A → Typing A
Is a x before after = (x ≡ a) × (after ≡ before)

-- any of which this holds
abbrev pub Such : {A : Type 0} → (A → Type 0) → Typing A
Such P x before after = P x × (after ≡ before)

-- this holds
abbrev pub Given : Type 0 → Typing (Unit {0})
Given P x before after = P × (after ≡ before)

-- this holds of what is known
abbrev pub Holds : (Known → Type 0) → Typing (Unit {0})
Holds P x before after = P before × (after ≡ before)

-- what is known
abbrev pub Asks : {A : Type 0} → (Known → A) → Typing A
Asks f x before after = (x ≡ f before) × (after ≡ before)

abbrev pub Makes : (Known → Known) → Typing (Unit {0})
Makes f x before after = after ≡ f before

-- one of two things, by a test
abbrev pub Either : {A : Type 0} → Test → Typing A → Typing A → Typing A
Either test S T x before after = (IsTrue test × S x before after) ⊎ (IsFalse test × T x before after)

abbrev pub Never : {A : Type 0} → Typing A
Never x before after = ⊥
