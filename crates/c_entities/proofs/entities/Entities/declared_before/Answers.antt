use Rattle.std.proofs.Common.{◌≡◌, Bool as Test, true, List, option_map, Option, None, ap, sym, ◌∙◌}
use Rattle.c_types.specs.Table.{type_at}
use Rattle.typing_rules.specs.DeclarationRules.{entity_of}
use Rattle.c_entities.specs.Views.{linked_view}
use Rattle.c_entities.proofs.entities.Entities.declared_before.Goals as goal

pub returns-then-is_external : goal.returns-then-is_external
returns-then-is_external c rows k are =
    c.external.ensures rows k are
    ∙ sym (λ i. entity_of (option_map (linked_view (type_at rows)) (c.in-None.is i)) (c.if-is_external.true i) c.args.name.now k.entities)
