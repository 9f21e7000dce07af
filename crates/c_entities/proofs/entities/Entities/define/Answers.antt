use Rattle.std.proofs.Common.{true≢false, refl, sym, ap, ◌∙◌}
use Rattle.c_types.specs.Table.{type_at}
use Rattle.c_types.proofs.Grown.{Extends-refl}
use Rattle.typing_rules.specs.DeclarationRules.{defined_by}
use Rattle.c_entities.specs.Views.{defining_view}
use Rattle.c_entities.proofs.Rows.{row-is, unchanged-at, lent-some, lent-none}
use Rattle.c_entities.proofs.Changed.{defined}
use Rattle.c_entities.proofs.entities.Entities.define.Goals as goal

pub returns-in-Some : goal.returns-in-Some
returns-in-Some c rows k file are =
    let x = c.args.self.now in
    let e = c.in-Some.entity.now in
    let there = lent-some x.rows c.args.number e (c.in-Some.ensures.variant.0 refl) c.in-Some.ensures.value in
    let at = sym (row-is rows x k.entities k.declared are c.args.number e there rows (Extends-refl rows)) in
    defined rows x _ k.entities k.declared c.args.number e are there c.defined_by-entity.result _
    (c.defined_by-entity.ensures ∙ (λ i. defined_by (defining_view c.args.how) (at i).definition (file i))) refl refl refl

pub returns-in_default : goal.returns-in_default
returns-in_default c rows k file are =
    unchanged-at rows c.args.self.now k.entities k.declared c.args.number _ are
    (lent-none c.args.self.now.rows c.args.number (λ h. true≢false (sym (c.in_default.ensures.variant.1 h))))
