use Rattle.std.proofs.Common.{option_map, ap, sym, ◌∙◌}
use Rattle.c_types.specs.Types.{is_function}
use Rattle.c_types.specs.Table.{type_at}
use Rattle.c_types.proofs.Grown.{Extends-refl}
use Rattle.typing_rules.specs.Source.{Named}
use Rattle.typing_rules.specs.Known as known
use Rattle.typing_rules.specs.DeclarationRules.{linkage, entity_of}
use Rattle.typing_rules.specs.Checking.{asks}
use Rattle.c_entities.specs.Views.{linked_view, storage_view}
use Rattle.c_known.specs.Standing.{MeansLinked, MeansLinkedIf}
use Rattle.c_known.proofs.Binding.{bind}
use Rattle.c_linkage.specs.Linking.{linked_found, linked_where, linked_after}
use Rattle.c_linkage.proofs.Steps.{asked}
use Rattle.c_linkage.proofs.Linked.{linked-is}
use Rattle.c_linkage.proofs.link.links.Goals as goal

pub returns : goal.returns
returns c t stands =
    let s = c.args.known.now in
    let rows = s.types in
    let storage = storage_view c.args.storage in
    let name : Named = record { line = c.args.line; bytes = c.args.name.now } in
    let function = c.is_function-is_function.ensures ∙ ap is_function (stands.type.always rows (Extends-refl rows)) in
    bind MeansLinkedIf MeansLinked s s _ c.earlier-before.result c.link_found.result (asks (known.earlier c.args.name.now)) (linked_after name storage t) c.earlier-before.ensures
    (λ b grown means.
    asked MeansLinked s _ c.link_found.result c.linkage-is_external.result (λ k. linkage storage (is_function t.type) b k.entities) (linked_where name t b)
    (λ k h. c.linkage-is_external.ensures rows k h.entities ∙ (λ i. linkage storage (function i) (linked-is rows c.earlier-before.result b means i) k.entities))
    (asked MeansLinked s _ c.link_found.result c.declared_before-old.result (λ k. entity_of b c.linkage-is_external.result c.args.name.now k.entities)
    (λ old. linked_found b c.linkage-is_external.result old name t)
    (λ k h. c.declared_before-old.ensures rows k h.entities ∙ ap (λ o. entity_of o c.linkage-is_external.result c.args.name.now k.entities) (linked-is rows c.earlier-before.result b means))
    (c.link_found.ensures b t means stands)))
