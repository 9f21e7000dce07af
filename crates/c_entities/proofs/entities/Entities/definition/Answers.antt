use Rattle.std.proofs.Common.{ap}
use Rattle.typing_rules.specs.Known.{or_entity}
use Rattle.c_entities.proofs.entities.Entities.definition.Goals as goal

pub returns-in-None : goal.returns-in-None
returns-in-None c rows k are = ap (λ o. (or_entity o).definition) (c.in-None.ensures rows k are)

pub returns-in-Some : goal.returns-in-Some
returns-in-Some c rows k are = ap (λ o. (or_entity o).definition) (c.in-Some.ensures rows k are)
