use Rattle.c_linkage.proofs.Declared.{declared-named}
use Rattle.c_linkage.proofs.declare.declare.Goals as goal

pub returns-in-Ok : goal.returns-in-Ok
returns-in-Ok c b t means stands =
    declared-named c.args.known.now _ _ c.args.prior.old c.in_ok-entity.entity c.args.line c.args.name.now c.known_type-linked_type.result b t c.args.prior.is_external
    (c.in_ok-entity.ensures t stands) (c.known_type-linked_type.ensures b t means stands) c.in-Ok.ensures
