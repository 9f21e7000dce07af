-- The parts of a declarator in a vector.
use Rattle.std.specs.Prelude.{List}
use Rattle.std.specs.declared.vec.Vec.{Vec}
use Rattle.std.specs.declared.alloc.Global.{Global}
use Rattle.c_types.specs.declared.type_ref.Row.{Row}
use Rattle.typing_rules.specs.DeclaratorRules as rule
use Rattle.c_declarators.specs.declared.derivation.Derivation.{Derivation}
use Rattle.c_declarators.specs.Derivations.{AreDerivations}

abbrev pub AreParts : List Row → Vec Derivation Global → List rule.Derivation → Type 0
AreParts rows xs ds = AreDerivations rows xs.items ds
