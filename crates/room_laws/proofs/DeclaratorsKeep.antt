-- Declarators keep an invariant.
use Rattle.std.proofs.Common.{ℕ, Bool as Test, List, Option, Some, None}
use Rattle.c_types.specs.Types.{Qualified}
use Rattle.typing_rules.specs.Source.{Named, Specifiers, Declarator, Parameters}
use Rattle.typing_rules.specs.Known as known
use Rattle.typing_rules.specs.Known.{Known, Meaning, Local, innermost, found_in}
use Rattle.typing_rules.specs.DeclaratorRules.{Derivation, name_of}
use Rattle.typing_rules.specs.Holding.{Typing}
use Rattle.typing_rules.specs.Declarators.{AreSpecified, IsDeclared, IsNamedLocal, IsParameter, IsParameterList}
use Rattle.room_laws.proofs.Keeping.{Keeps, Stays, keeps_is, keeps_holds, keeps_such, keeps_asks, keeps_makes, keeps_bind, keeps_either}

module _ {I : Known → Type 0} (stays : Stays I) where
  pub keeps_specified : (may_store : Test) (s : Specifiers) → Keeps I (AreSpecified may_store s)
  keeps_specified may_store s = keeps_such

  pub keeps_declares : (name : Named) (m : Meaning) → Keeps I (IsDeclared name m)
  keeps_declares name m = keeps_bind keeps_holds (λ u. keeps_makes (λ k i. stays.scopes k _ i))

  keeps_named_local : (name : Option Named) (n : ℕ) → Keeps I (IsNamedLocal name n)
  keeps_named_local None n = keeps_is
  keeps_named_local (Some name) n = keeps_declares name (known.local n)

  pub keeps_parameter : (s : Specifiers) (base : Qualified) (d : Declarator) (ds : List Derivation) → Keeps I (IsParameter s base d ds)
  keeps_parameter s base d ds =
      keeps_bind keeps_such (λ type. keeps_bind keeps_asks (λ n. keeps_bind (keeps_named_local (name_of d) n) (λ u.
      keeps_makes (λ k i. stays.locals k _ i))))

  pub keeps_parameter_list : (ps : Parameters) {Each : Typing (Unit {0})} → Keeps I Each → Keeps I (IsParameterList ps Each)
  keeps_parameter_list ps h =
      keeps_either keeps_is (keeps_bind keeps_asks (λ before. keeps_bind (keeps_makes (λ k i. stays.scopes k _ i)) (λ u. keeps_bind h (λ u'.
      keeps_bind keeps_asks (λ found. keeps_bind (keeps_makes (λ k i. stays.scopes _ _ (stays.locals k _ i)))
      (λ u''. keeps_is))))))
