use Rattle.std.proofs.Common.{ap}
use Rattle.typing_rules.specs.Known.{or_entity}
use Rattle.c_entities.proofs.Rows.{are-later}
use Rattle.c_entities.proofs.entities.Entities.type_of.Goals as goal

pub returns-in-None : goal.returns-in-None
returns-in-None c rows k are = record {
  qualifiers = ap (λ o. (or_entity o).type.qualifiers) (c.in-None.ensures rows k are);
  type = record { always = λ later more. ap (λ o. (or_entity o).type.type) (c.in-None.ensures later k (are-later rows c.args.self.now k.entities k.declared are later more)) };
}

pub returns-in-Some : goal.returns-in-Some
returns-in-Some c rows k are = record {
  qualifiers = ap (λ o. (or_entity o).type.qualifiers) (c.in-Some.ensures rows k are);
  type = record { always = λ later more. ap (λ o. (or_entity o).type.type) (c.in-Some.ensures later k (are-later rows c.args.self.now k.entities k.declared are later more)) };
}
