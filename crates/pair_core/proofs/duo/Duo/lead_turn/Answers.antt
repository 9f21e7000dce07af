use Rattle.std.proofs.Common.{Option, None, refl, sym, ap, ◌∙◌, subst, arith}
use Rattle.verdicts.specs.declared.thread_end.ThreadEnd.{ThreadEnd}
use Rattle.machine.specs.declared.stepped.Stepped.TheVariants.{NotYet}
use Rattle.machine.specs.Faults.{faults_after}
use Rattle.pair_core.specs.Duo.{DuoState}
use Rattle.pair_core.specs.Turns.{outcome_by}
use Rattle.pair_core.specs.Faults.{CountsFaults}
use Rattle.pair_core.proofs.Acting.{link_of, room_enough, waited, lead_stays, lead_done}
use Rattle.pair_core.proofs.Counts.{step_count}
use Rattle.pair_core.proofs.duo.Duo.lead_turn.Goals as goal

pub carry-sent-requires : goal.carry-sent-requires
carry-sent-requires g c =
    let of = link_of c.is_some-over.result c.self.inside.acks 4096 c.self.inside.words c.new-link.result c.lead_step-stepped.new.link c.offer.result c.spare.result c.offer.ensures c.spare.ensures.left c.new-link.ensures.shows c.lead_step-stepped.ensures.later in
    (omega arith, (omega arith, room_enough c.is_some-over.result c.self.inside.acks 4096 c.self.inside.words c.new-link.result c.lead_step-stepped.new.link of c.spare.ensures.fits))

pub returns-clause-turn : goal.returns-clause-turn
returns-clause-turn g c =
    let of = link_of c.is_some-over.result c.self.inside.acks 4096 c.self.inside.words c.new-link.result c.lead_step-stepped.new.link c.offer.result c.spare.result c.offer.ensures c.spare.ensures.left c.new-link.ensures.shows c.lead_step-stepped.ensures.later in
    let turn = lead_done c.args.pair.now c.self.inside c.args.self.now c.self.view_is c.is_some-over.result c.new-link.result c.lead_step-stepped.new.link c.lead_step-stepped.result c.lead_step-stepped.new.m c.in_default.is c.is_some-over.ensures of c.lead_step-stepped.new.w c.lead_step-stepped.ensures.step.0 c.lead_step-stepped.ensures.step.1 c.spare.ensures.fits c.end_of-self-inside.result c.carry-sent.new.going c.carry-sent.new.coming c.carry-sent.result c.end_of-self-inside.ensures c.carry-sent.ensures.coming c.carry-sent.ensures.going c.carry-sent.ensures.count (sym c.waits.ensures ∙ c.if-waits.false) in
    (turn.0, c.lead_step-stepped.ensures.step.0, turn.1, c.lead_step-stepped.ensures.step.2)

pub returns-then-waits-clause-turn : goal.returns-then-waits-clause-turn
returns-then-waits-clause-turn g c =
    let of = link_of c.is_some-over.result c.self.inside.acks 4096 c.self.inside.words c.new-link.result c.lead_step-stepped.new.link c.offer.result c.spare.result c.offer.ensures c.spare.ensures.left c.new-link.ensures.shows c.lead_step-stepped.ensures.later in
    let turn = lead_stays c.args.pair.now c.self.inside c.args.self.now c.self.view_is c.is_some-over.result c.new-link.result c.lead_step-stepped.new.link c.lead_step-stepped.result c.lead_step-stepped.new.m c.in_default.is c.is_some-over.ensures of c.lead_step-stepped.new.w c.lead_step-stepped.ensures.step.0 c.lead_step-stepped.ensures.step.1 (sym c.waits.ensures ∙ c.if-waits.true) in
    (None, c.lead_step-stepped.ensures.step.0, turn, c.lead_step-stepped.ensures.step.2)

pub returns-clause-faults : goal.returns-clause-faults
returns-clause-faults g c =
    let faults = g.O.Outlet.faults c.args.outlet.now in
    let now = g.O.Outlet.faults c.lead_step-stepped.new.outlet in
    let after = outcome_by c.end_of-self-inside.result c.lead_step-stepped.new.m in
    let count = step_count c.lead_step-stepped.result c.self.inside.lead c.lead_step-stepped.new.m c.end_of-self-inside.result faults now c.end_of-self-inside.ensures c.lead_step-stepped.ensures.faults in
    subst (λ (d : DuoState). CountsFaults d.lead after faults now) c.self.view_is (subst (λ (o : Option ThreadEnd). CountsFaults (outcome_by o c.self.inside.lead) after faults now) (sym c.in_default.is) count)

pub returns-then-waits-clause-faults : goal.returns-then-waits-clause-faults
returns-then-waits-clause-faults g c =
    let faults = g.O.Outlet.faults c.args.outlet.now in
    let now = g.O.Outlet.faults c.lead_step-stepped.new.outlet in
    let over = c.self.inside.lead_over in
    let none = waited c.lead_step-stepped.result (sym c.waits.ensures ∙ c.if-waits.true) in
    let count = step_count NotYet c.self.inside.lead c.lead_step-stepped.new.m None faults now refl (c.lead_step-stepped.ensures.faults ∙ ap (λ t. faults_after t faults) none) in
    subst (λ (d : DuoState). CountsFaults d.lead (outcome_by over c.lead_step-stepped.new.m) faults now) c.self.view_is
    (subst (λ (o : Option ThreadEnd). CountsFaults (outcome_by o c.self.inside.lead) (outcome_by o c.lead_step-stepped.new.m) faults now) (sym c.in_default.is) count)
