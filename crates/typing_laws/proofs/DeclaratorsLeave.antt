-- Declarators leave what is known of objects and functions with linkage.
use Rattle.std.proofs.Common.{ℕ, Bool as Test, List, refl, Option, Some, None}
use Rattle.c_types.specs.Types.{Qualified}
use Rattle.typing_rules.specs.Source.{Named, Specifiers, Declarator, Parameters}
use Rattle.typing_rules.specs.Known as known
use Rattle.typing_rules.specs.Known.{Known, Meaning, Local, innermost, found_in}
use Rattle.typing_rules.specs.DeclaratorRules.{Derivation, name_of}
use Rattle.typing_rules.specs.Holding.{Typing}
use Rattle.typing_rules.specs.Declarators.{AreSpecified, IsDeclared, IsNamedLocal, IsParameter, IsParameterList}
use Rattle.typing_laws.proofs.Leaving.{Leaves, leaves_is, leaves_holds, leaves_such, leaves_asks, leaves_makes, leaves_bind, leaves_either}

pub leaves_specified : (may_store : Test) (s : Specifiers) → Leaves (AreSpecified may_store s)
leaves_specified may_store s = leaves_such

pub leaves_declares : (name : Named) (m : Meaning) → Leaves (IsDeclared name m)
leaves_declares name m = leaves_bind leaves_holds (λ u. leaves_makes (λ k. refl))

leaves_named_local : (name : Option Named) (n : ℕ) → Leaves (IsNamedLocal name n)
leaves_named_local None n = leaves_is
leaves_named_local (Some name) n = leaves_declares name (known.local n)

pub leaves_parameter : (s : Specifiers) (base : Qualified) (d : Declarator) (ds : List Derivation) → Leaves (IsParameter s base d ds)
leaves_parameter s base d ds =
    leaves_bind leaves_such (λ type. leaves_bind leaves_asks (λ n. leaves_bind (leaves_named_local (name_of d) n) (λ u. leaves_makes (λ k. refl))))

pub leaves_parameter_list : (ps : Parameters) {Each : Typing (Unit {0})} → Leaves Each → Leaves (IsParameterList ps Each)
leaves_parameter_list ps h =
    leaves_either leaves_is (leaves_bind leaves_asks (λ before. leaves_bind (leaves_makes (λ k. refl)) (λ u. leaves_bind h (λ u'.
    leaves_bind leaves_asks (λ found. leaves_bind (leaves_makes (λ k. refl)) (λ u''. leaves_is))))))
