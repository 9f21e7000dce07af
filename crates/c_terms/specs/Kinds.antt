-- What specifiers and the begin of a list of parameters give.
use Rattle.std.specs.Prelude.{ℕ, List, length}
use Rattle.c_types.specs.declared.type_ref.Row.{Row}
use Rattle.c_types.specs.declared.type_ref.QualifiedRef.{QualifiedRef}
use Rattle.c_types.specs.Table.{StandsFor}
use Rattle.typing_rules.specs.Known as known
use Rattle.typing_rules.specs.Checking.{Checking, ◌>>=◌, ◌>>◌, pure, asks, makes}
use Rattle.typing_rules.specs.SpecifierRules as rule

-- the type that specifiers say
abbrev pub IsBase : List Row → QualifiedRef → rule.Specified → Type 0
IsBase rows x s = StandsFor rows x s.type

-- a list of parameters begins: the number of its first local
abbrev pub list_begun : Checking ℕ
list_begun = do
  before ← asks (λ k. length k.locals)
  makes known.opened
  pure before
