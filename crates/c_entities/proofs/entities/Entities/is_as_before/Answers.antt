use Rattle.std.proofs.Common.{option_map, ap, sym, ◌∙◌}
use Rattle.c_types.specs.Table.{type_at}
use Rattle.typing_rules.specs.DeclarationRules.{as_before}
use Rattle.c_entities.specs.Views.{linked_view}
use Rattle.c_entities.proofs.entities.Entities.is_as_before.Goals as goal

pub returns-in-Some : goal.returns-in-Some
returns-in-Some c rows k are =
    c.is_external.ensures rows k are ∙ sym (ap (λ o. as_before (option_map (linked_view (type_at rows)) o) k.entities) c.in-Some.is)
