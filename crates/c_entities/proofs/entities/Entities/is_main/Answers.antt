use Rattle.std.proofs.Common.{ap, ◌∙◌}
use Rattle.c_types.specs.Table.{type_at}
use Rattle.typing_rules.specs.Known.{or_entity, is_main}
use Rattle.c_entities.proofs.entities.Entities.is_main.Goals as goal

pub returns-in-None : goal.returns-in-None
returns-in-None c rows k are = ap (λ o. is_main (or_entity o)) (c.in-None.ensures rows k are)

pub returns-in-Some : goal.returns-in-Some
returns-in-Some c rows k are = c.is_main.ensures (type_at rows) ∙ ap (λ o. is_main (or_entity o)) (c.in-Some.ensures rows k are)
