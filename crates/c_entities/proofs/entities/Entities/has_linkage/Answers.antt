use Rattle.std.proofs.Common.{◌≡◌, Bool as Test, true, false, Some, refl, ap, sym, ◌∙◌}
use Rattle.c_types.specs.Types.{same_test}
use Rattle.typing_rules.specs.DeclarationRules.{has_linkage}
use Rattle.c_entities.proofs.entities.Entities.has_linkage.Goals as goal

same : (a b : Test) → (mathlib.Core.Bool.beq a b) ≡ same_test a b
same true true = refl
same true false = refl
same false true = refl
same false false = refl

pub returns-in-Some : goal.returns-in-Some
returns-in-Some c rows k are =
    same c.is_external.result c.args.is_external
    ∙ ap (λ b. same_test b c.args.is_external) (c.is_external.ensures rows k are)
    ∙ sym (ap (λ o. has_linkage o c.args.is_external k.entities) c.in-Some.is)
