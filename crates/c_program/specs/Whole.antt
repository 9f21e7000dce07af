-- The end of a program: its static objects, its files, its `main`, and the uses of its entities.
use Rattle.std.specs.Prelude.{◌≡◌, ℕ, List, map}
use Rattle.c_types.specs.declared.type_ref.Row.{Row}
use Rattle.c_types.specs.Table.{type_at, Extends}
use Rattle.c_typed.specs.declared.program.Static as code_static
use Rattle.c_typed.specs.declared.program.TypedFile as code_file
use Rattle.c_typed.specs.Statements.{Static, TypedFile}
use Rattle.c_typed.specs.StatementViews.{static_view, file_view}
use Rattle.typing_rules.specs.declared.refusal.TypeRefusal.TheVariants.{NoMain}
use Rattle.typing_rules.specs.Known as known
use Rattle.typing_rules.specs.UnitRules.{main_from, unresolved}
use Rattle.typing_rules.specs.Checking.{Checking, ◌>>=◌, asks, given}
use Rattle.typing_rules.specs.OrderedUnits.{resolves}

pub record AreStatics (rows : List Row) (xs : List code_static.Static) (ss : List Static) : Type 0 where
  pub always : (later : List Row) → Extends rows later → map (static_view (type_at later)) xs ≡ ss

pub record IsFile (rows : List Row) (x : code_file.TypedFile) (f : TypedFile) : Type 0 where
  pub always : (later : List Row) → Extends rows later → file_view (type_at later) x ≡ f

-- the entity of `main`
abbrev pub main_found : Checking ℕ
main_found = asks (λ k. main_from 0 k.entities) >>= (λ begin. given begin NoMain)

-- each entity of these uses is defined
abbrev pub each_resolved : List known.Use → Checking (Unit {0})
each_resolved uses = asks (λ k. unresolved k.entities uses) >>= resolves

abbrev pub all_resolved : Checking (Unit {0})
all_resolved = asks (λ k. unresolved k.entities k.uses) >>= resolves
