-- Checking in order: what is known before gives a result and what is known after, or the first refusal.
use Rattle.std.specs.Prelude.{ℕ, Bool as Test, if◌then◌else◌, Option, Some, None, Result, Ok, Err}
use Rattle.c_types.specs.Rules.{Ruled}
use Rattle.typing_rules.specs.declared.refusal.TypeRefusal.{TypeRefusal}
use Rattle.typing_rules.specs.declared.refusal.TypeRefusal.TheVariants.{Mismatch}
use Rattle.typing_rules.specs.Known.{Known}

abbrev pub Checked : Type 0 → Type 0
Checked A = Result (A × Known) TypeRefusal

abbrev pub Checking : Type 0 → Type 0
Checking A = Known → Checked A

abbrev pub and_then : {A B : Type 0} → Checked A → (A → Checking B) → Checked B
and_then (Ok p) f = f p.0 p.1
and_then (Err refusal) f = Err refusal

infixl 10 ◌>>=◌
abbrev pub ◌>>=◌ : {A B : Type 0} → Checking A → (A → Checking B) → Checking B
m >>= f = λ k. and_then (m k) f

infixl 10 ◌>>◌
abbrev pub ◌>>◌ : {A B : Type 0} → Checking A → Checking B → Checking B
m >> n = m >>= (λ _. n)

abbrev pub pure : {A : Type 0} → A → Checking A
pure a = λ k. Ok (a, k)

abbrev pub refuse : {A : Type 0} → TypeRefusal → Checking A
refuse refusal = λ k. Err refusal

-- what is known
abbrev pub asks : {A : Type 0} → (Known → A) → Checking A
asks f = λ k. Ok (f k, k)

abbrev pub makes : (Known → Known) → Checking (Unit {0})
makes f = λ k. Ok (tt, f k)

abbrev pub choose : {A : Type 0} → Test → Checking A → Checking A → Checking A
choose test m n = λ k. if test then m k else n k

-- goes on only where a test holds
abbrev pub needs : Test → TypeRefusal → Checking (Unit {0})
needs test refusal = choose test (pure tt) (refuse refusal)

-- goes on only where a test holds of what is known
abbrev pub tests : (Known → Test) → TypeRefusal → Checking (Unit {0})
tests test refusal = λ k. needs (test k) refusal k

-- what a rule on types allows, or a mismatch at a line
abbrev pub ruled_by : {A : Type 0} → ℕ → Ruled A → Checking A
ruled_by line (Ok a) = pure a
ruled_by line (Err rule) = refuse (Mismatch line rule)

-- what is there, or a refusal
abbrev pub given : {A : Type 0} → Option A → TypeRefusal → Checking A
given (Some a) refusal = pure a
given None refusal = refuse refusal

abbrev pub from_result : {A : Type 0} → Result A TypeRefusal → Checking A
from_result (Ok a) = pure a
from_result (Err refusal) = refuse refusal
