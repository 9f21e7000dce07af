use Rattle.std.proofs.Common.{sym, ◌∙◌}
use Rattle.typing_rules.specs.DeclarationRules.{agrees_before}
use Rattle.typing_rules.specs.declared.refusal.TypeRefusal.TheVariants.{Mismatch}
use Rattle.c_known.specs.Standing.{MeansLinked}
use Rattle.c_linkage.specs.Linking.{linked_agreeing}
use Rattle.c_linkage.proofs.Steps.{passed, stopped}
use Rattle.c_linkage.proofs.link.link_found.Goals as goal

pub returns-then-agrees_before : goal.returns-then-agrees_before
returns-then-agrees_before c b t means stands =
    let p = c.args.prior in
    let s = c.args.known.now in
    passed MeansLinked s _ c.link_agreeing.result (λ k. agrees_before b t) (Mismatch c.args.line 17)
    (linked_agreeing b p.is_external p.old (record { line = c.args.line; bytes = c.args.name.now }) t)
    (λ k h. sym (c.agrees_before.ensures b t means stands) ∙ c.if-agrees_before.true) (c.link_agreeing.ensures b t means stands)

pub returns-else-agrees_before : goal.returns-else-agrees_before
returns-else-agrees_before c b t means stands =
    let p = c.args.prior in
    let s = c.args.known.now in
    stopped MeansLinked s (λ k. agrees_before b t) (Mismatch c.args.line 17)
    (linked_agreeing b p.is_external p.old (record { line = c.args.line; bytes = c.args.name.now }) t)
    (λ k h. sym (c.agrees_before.ensures b t means stands) ∙ c.if-agrees_before.false)
