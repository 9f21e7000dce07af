use Rattle.typing_rules.specs.Known as known
use Rattle.c_entities.proofs.Added.{added}
use Rattle.c_entities.proofs.entities.Entities.add.Goals as goal
use Rattle.std.proofs.Common.{refl}

pub returns-clause-number : goal.returns-clause-number
returns-clause-number c rows k are = c.in_ok-number.ensures rows k are

pub returns-clause-added : goal.returns-clause-added
returns-clause-added c rows t stands k file are =
    let same = c.in_ok-name.ensures.items_if_clones_equal (λ x y h. h) in
    added rows c.args.self.now _ k.entities k.declared _ _ c.in_ok-number.number are (c.in_ok-number.ensures rows k are) c.in_ok-push.ensures.items refl
    c.in_ok-number_external.ensures
    (λ later more i. record {
      name = same i;
      type = record { qualifiers = stands.qualifiers i; type = stands.type.always later more i };
      is_external = c.args.is_external;
      file = file i;
      definition = known.undefined;
      contents = c.new.ensures.items i;
    })
