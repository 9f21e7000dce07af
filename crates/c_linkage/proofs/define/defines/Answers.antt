use Rattle.std.proofs.Common.{Bool as Test, Ok, sym, ap, ◌∙◌}
use Rattle.c_types.proofs.Grown.{Extends-refl}
use Rattle.typing_rules.specs.Known as known
use Rattle.typing_rules.specs.DeclarationRules.{may_define, is_undefined, with_definition}
use Rattle.typing_rules.specs.Checking.{◌>>=◌, ◌>>◌, pure, makes, tests}
use Rattle.typing_rules.specs.declared.refusal.TypeRefusal.TheVariants.{Twice}
use Rattle.c_entities.specs.Views.{definition_view, defining_view}
use Rattle.c_known.specs.Gives.{IsSame}
use Rattle.c_linkage.proofs.Steps.{asked, passed, stopped, entities-known}
use Rattle.c_linkage.proofs.define.defines.Goals as goal

pub returns-then-allows : goal.returns-then-allows
returns-then-allows c =
    let s = c.args.known.now in
    let how = defining_view c.args.how in
    let before = definition_view c.definition-before.result in
    asked (IsSame {A = Test}) s _ (Ok c.is_undefined.result) before (λ k. (known.entity_at k.entities c.args.number).definition)
    (λ d. tests (λ k. may_define how d k.file) (Twice c.args.line) >> (makes (with_definition how c.args.number) >> pure (is_undefined d)))
    (λ k h. c.definition-before.ensures s.types k h.entities)
    (passed (IsSame {A = Test}) s _ (Ok c.is_undefined.result) (λ k. may_define how before k.file) (Twice c.args.line) (makes (with_definition how c.args.number) >> pure (is_undefined before))
    (λ k h. sym (c.allows.ensures ∙ ap (may_define how before) h.file) ∙ c.if-allows.true)
    (record {
      at = λ k h. record {
        grown = Extends-refl s.types;
        means = c.is_undefined.ensures;
        knows = entities-known s k h _ _ _ (c.define.ensures s.types k h.file h.entities);
      };
    }))

pub returns-else-allows : goal.returns-else-allows
returns-else-allows c =
    let s = c.args.known.now in
    let how = defining_view c.args.how in
    let before = definition_view c.definition-before.result in
    asked (IsSame {A = Test}) s s _ before (λ k. (known.entity_at k.entities c.args.number).definition)
    (λ d. tests (λ k. may_define how d k.file) (Twice c.args.line) >> (makes (with_definition how c.args.number) >> pure (is_undefined d)))
    (λ k h. c.definition-before.ensures s.types k h.entities)
    (stopped (IsSame {A = Test}) s (λ k. may_define how before k.file) (Twice c.args.line) (makes (with_definition how c.args.number) >> pure (is_undefined before))
    (λ k h. sym (c.allows.ensures ∙ ap (may_define how before) h.file) ∙ c.if-allows.false))
