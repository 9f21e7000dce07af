-- What the code answers where a test, a rule on types, or something that has to be there decides.
use Rattle.std.specs.Prelude.{◌≡◌, ℕ, List, Bool as Test, true, false, Option, Some, None, Result, Ok, Err, ⊤}
use Rattle.c_types.specs.declared.type_ref.Row.{Row}
use Rattle.c_types.specs.Rules.{Ruled}
use Rattle.typing_rules.specs.declared.refusal.TypeRefusal.{TypeRefusal}
use Rattle.typing_rules.specs.declared.refusal.TypeRefusal.TheVariants.{Mismatch}
use Rattle.c_known.specs.Gives.{Standing}

abbrev pub ruled_as : {X : Type 0} → ℕ → Result X ℕ → Result X TypeRefusal
ruled_as line (Ok x) = Ok x
ruled_as line (Err rule) = Err (Mismatch line rule)

abbrev pub needed_as : Test → TypeRefusal → Result ⊤ TypeRefusal
needed_as true refusal = Ok tt
needed_as false refusal = Err refusal

abbrev pub given_as : {X : Type 0} → Option X → TypeRefusal → Result X TypeRefusal
given_as (Some x) refusal = Ok x
given_as None refusal = Err refusal

-- what the code answers by a rule on types is what the rule answers
abbrev pub RuledIs : {X A : Type 0} → Standing X A → List Row → Result X ℕ → Ruled A → Type 0
RuledIs M rows (Ok x) (Ok a) = M rows x a
RuledIs M rows (Ok x) (Err rule) = ⊥
RuledIs M rows (Err found) (Ok a) = ⊥
RuledIs M rows (Err found) (Err rule) = found ≡ rule

-- something is there in both, or in neither
abbrev pub IsGiven : {X A : Type 0} → Standing X A → List Row → Option X → Option A → Type 0
IsGiven M rows None None = Unit {0}
IsGiven M rows None (Some a) = ⊥
IsGiven M rows (Some x) None = ⊥
IsGiven M rows (Some x) (Some a) = M rows x a
