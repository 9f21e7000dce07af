-- How a function of the code gives what checking gives in order.
use Rattle.std.specs.Prelude.{◌≡◌, ◌⊎◌, List, Result, Ok, Err, ⊤}
use Rattle.c_types.specs.declared.type_ref.Row.{Row}
use Rattle.c_types.specs.Table.{Extends}
use Rattle.typing_rules.specs.declared.refusal.TypeRefusal.{TypeRefusal}
use Rattle.typing_rules.specs.declared.refusal.TypeRefusal.TheVariants.{Memory}
use Rattle.typing_rules.specs.Known as known
use Rattle.typing_rules.specs.Checking.{Checked, Checking}
use Rattle.c_known.specs.declared.known.Known.{Known}
use Rattle.c_known.specs.Views.{Knows}

-- what something of the code stands for, by a table of types
abbrev pub Standing : Type 0 → Type 0 → Type 1
Standing X A = List Row → X → A → Type 0

-- what is given stands for a result of checking, and so does what is known after it; the table of types has only grown
pub record Given {X A : Type 0} (M : Standing X A) (old new : Known) (x : X) (a : A) (k : known.Known) : Type 0 where
  pub grown : Extends old.types new.types
  pub means : M new.types x a
  pub knows : Knows new k

-- a result is given, or the first refusal, or want of memory
abbrev pub GivesAt : {X A : Type 0} → Standing X A → Known → Known → Result X TypeRefusal → Checked A → Type 0
GivesAt M old new (Ok x) (Ok found) = Given M old new x found.0 found.1
GivesAt M old new (Ok x) (Err refusal) = ⊥
GivesAt M old new (Err told) (Ok found) = told ≡ Memory
GivesAt M old new (Err told) (Err refusal) = (told ≡ refusal) ⊎ (told ≡ Memory)

-- whatever is known
pub record Gives {X A : Type 0} (M : Standing X A) (old new : Known) (result : Result X TypeRefusal) (m : Checking A) : Type 0 where
  pub at : (k : known.Known) → Knows old k → GivesAt M old new result (m k)

-- nothing but what is known
abbrev pub IsDone : Standing ⊤ (Unit {0})
IsDone rows x a = Unit {0}

-- the same in all tables of types
abbrev pub IsSame : {A : Type 0} → Standing A A
IsSame rows x a = x ≡ a
