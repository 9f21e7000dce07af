use Rattle.std.proofs.Common.{ap, sym, ◌∙◌}
use Rattle.typing_rules.specs.DeclarationRules.{agrees_with}
use Rattle.typing_rules.specs.declared.refusal.TypeRefusal.TheVariants.{Mismatch}
use Rattle.c_known.specs.Standing.{MeansLinked}
use Rattle.c_linkage.specs.Linking.{linked_same}
use Rattle.c_linkage.proofs.Steps.{passed, stopped}
use Rattle.c_linkage.proofs.Linked.{qualified-is}
use Rattle.c_linkage.proofs.link.link_agreeing.Goals as goal

pub returns-then-agrees_with : goal.returns-then-agrees_with
returns-then-agrees_with c b t means stands =
    let p = c.args.prior in
    let s = c.args.known.now in
    passed MeansLinked s _ c.link_same.result (λ k. agrees_with p.old t k.entities) (Mismatch c.args.line 17)
    (linked_same b p.is_external p.old (record { line = c.args.line; bytes = c.args.name.now }) t)
    (λ k h. sym (c.agrees_with.ensures k h.entities ∙ ap (λ q. agrees_with p.old q k.entities) (qualified-is s.types c.args.ty t stands)) ∙ c.if-agrees_with.true)
    (c.link_same.ensures b t means stands)

pub returns-else-agrees_with : goal.returns-else-agrees_with
returns-else-agrees_with c b t means stands =
    let p = c.args.prior in
    let s = c.args.known.now in
    stopped MeansLinked s (λ k. agrees_with p.old t k.entities) (Mismatch c.args.line 17)
    (linked_same b p.is_external p.old (record { line = c.args.line; bytes = c.args.name.now }) t)
    (λ k h. sym (c.agrees_with.ensures k h.entities ∙ ap (λ q. agrees_with p.old q k.entities) (qualified-is s.types c.args.ty t stands)) ∙ c.if-agrees_with.false)
