use Rattle.c_linkage.proofs.Declared.{declared-again, declared-new}
use Rattle.c_linkage.proofs.declare.declare_entity.Goals as goal

pub returns-in-Some : goal.returns-in-Some
returns-in-Some c t stands =
    declared-again c.args.known.now _ c.args.prior.old c.in-Some.number c.args.name.now t c.args.prior.is_external c.in-Some.is
    (c.declare_again.ensures t c.args.name.now c.args.prior.is_external stands)

pub returns-in-Ok : goal.returns-in-Ok
returns-in-Ok c t stands =
    let s = c.args.known.now in
    declared-new s _ c.args.prior.old c.in-Ok.number c.args.name.now t c.args.prior.is_external c.in-None.is
    (c.in-Ok.ensures.number s.types) (c.in-Ok.ensures.added s.types t stands)
