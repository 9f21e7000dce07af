-- What parameters become.
use Rattle.std.specs.Prelude.{ℕ, true, List, length, Result}
use Rattle.c_tree.specs.declared.expression.Parameter as tree_parameter
use Rattle.typing_rules.specs.declared.refusal.TypeRefusal.{TypeRefusal}
use Rattle.c_types.specs.Types.{Qualified}
use Rattle.typing_rules.specs.Known as known
use Rattle.typing_rules.specs.DeclaratorRules as rule
use Rattle.typing_rules.specs.Checking.{Checking, ◌>>=◌, ◌>>◌, asks, makes}
use Rattle.typing_rules.specs.OrderedParts.{named_local}
use Rattle.c_entities.specs.declared.entity.File.{File}
use Rattle.c_declarators.specs.Trees.{parameter_in}

-- a parameter of a type as a local
abbrev pub local_of : File → tree_parameter.Parameter → Qualified → known.Local
local_of file p t = rule.parameter_local (parameter_in file p).declarator (parameter_in file p).specifiers.line t

-- a parameter of a type becomes a local
abbrev pub numbered : File → tree_parameter.Parameter → Qualified → ℕ → Checking (Unit {0})
numbered file p t n = named_local (rule.name_of (parameter_in file p).declarator) n >> makes (known.with_local (local_of file p t))

abbrev pub becomes_local : File → tree_parameter.Parameter → Qualified → Checking (Unit {0})
becomes_local file p t = asks (λ k. length k.locals) >>= numbered file p t

abbrev pub lines_in : File → tree_parameter.Parameter → rule.Lines
lines_in file p = rule.lines_of (parameter_in file p).declarator (parameter_in file p).specifiers.line

-- a parameter's own type
abbrev pub type_of : rule.Lines → Qualified → List rule.Derivation → Result Qualified TypeRefusal
type_of at base ds = rule.parameter_of at (rule.derived at true base ds)
