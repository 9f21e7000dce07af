use Rattle.std.proofs.Common.{sym, ◌∙◌}
use Rattle.typing_rules.specs.DeclarationRules.{has_linkage}
use Rattle.typing_rules.specs.declared.refusal.TypeRefusal.TheVariants.{Twice}
use Rattle.c_known.specs.Standing.{MeansLinked}
use Rattle.c_linkage.specs.Linking.{linked_anew}
use Rattle.c_linkage.proofs.Steps.{passed, stopped}
use Rattle.c_linkage.proofs.link.link_same.Goals as goal

pub returns-then-has_linkage : goal.returns-then-has_linkage
returns-then-has_linkage c b t means stands =
    let p = c.args.prior in
    let s = c.args.known.now in
    passed MeansLinked s _ c.declare.result (λ k. has_linkage p.old p.is_external k.entities) (Twice c.args.line)
    (linked_anew b p.is_external p.old (record { line = c.args.line; bytes = c.args.name.now }) t)
    (λ k h. sym (c.has_linkage.ensures s.types k h.entities) ∙ c.if-has_linkage.true) (c.declare.ensures b t means stands)

pub returns-else-has_linkage : goal.returns-else-has_linkage
returns-else-has_linkage c b t means stands =
    let p = c.args.prior in
    let s = c.args.known.now in
    stopped MeansLinked s (λ k. has_linkage p.old p.is_external k.entities) (Twice c.args.line)
    (linked_anew b p.is_external p.old (record { line = c.args.line; bytes = c.args.name.now }) t)
    (λ k h. sym (c.has_linkage.ensures s.types k h.entities) ∙ c.if-has_linkage.false)
