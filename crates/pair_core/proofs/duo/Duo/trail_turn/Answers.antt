use Rattle.std.proofs.Common.{None, sym, ◌∙◌, arith}
use Rattle.pair_core.proofs.Acting.{link_of, room_enough, trail_stays, trail_done}
use Rattle.pair_core.proofs.duo.Duo.trail_turn.Goals as goal

pub carry-sent-requires : goal.carry-sent-requires
carry-sent-requires c =
    let of = link_of c.is_some-over.result c.self.inside.words 64 c.self.inside.acks c.new-link.result c.trail_step-stepped.new.link c.offer.result c.spare.result c.offer.ensures c.spare.ensures.left c.new-link.ensures.shows c.trail_step-stepped.ensures.later in
    (omega arith, (omega arith, room_enough c.is_some-over.result c.self.inside.words 64 c.self.inside.acks c.new-link.result c.trail_step-stepped.new.link of c.spare.ensures.fits))

pub returns-clause-turn : goal.returns-clause-turn
returns-clause-turn c =
    let of = link_of c.is_some-over.result c.self.inside.words 64 c.self.inside.acks c.new-link.result c.trail_step-stepped.new.link c.offer.result c.spare.result c.offer.ensures c.spare.ensures.left c.new-link.ensures.shows c.trail_step-stepped.ensures.later in
    let turn = trail_done c.args.pair.now c.self.inside c.args.self.now c.self.view_is c.is_some-over.result c.new-link.result c.trail_step-stepped.new.link c.trail_step-stepped.result c.trail_step-stepped.new.m c.in_default.is c.is_some-over.ensures of (c.trail_step-stepped.ensures.step c.self.inside.world) c.spare.ensures.fits c.end_of-self-inside.result c.carry-sent.new.coming c.carry-sent.new.going c.carry-sent.result c.end_of-self-inside.ensures c.carry-sent.ensures.coming c.carry-sent.ensures.going c.carry-sent.ensures.count (sym c.waits.ensures ∙ c.if-waits.false) in
    turn

pub returns-then-waits-clause-turn : goal.returns-then-waits-clause-turn
returns-then-waits-clause-turn c =
    let of = link_of c.is_some-over.result c.self.inside.words 64 c.self.inside.acks c.new-link.result c.trail_step-stepped.new.link c.offer.result c.spare.result c.offer.ensures c.spare.ensures.left c.new-link.ensures.shows c.trail_step-stepped.ensures.later in
    let turn = trail_stays c.args.pair.now c.self.inside c.args.self.now c.self.view_is c.is_some-over.result c.new-link.result c.trail_step-stepped.new.link c.trail_step-stepped.result c.trail_step-stepped.new.m c.in_default.is c.is_some-over.ensures of (c.trail_step-stepped.ensures.step c.self.inside.world) (sym c.waits.ensures ∙ c.if-waits.true) in
    (None, turn)
