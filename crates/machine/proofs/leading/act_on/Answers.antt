use Rattle.std.proofs.Common.{true, take, refl}
use Rattle.world.specs.World.{ask}
use Rattle.machine.proofs.Trying.{had_room, acted, acted_failed}
use Rattle.machine.proofs.leading.act_on.Goals as goal

pub returns-in-Err-clause-tries : goal.returns-in-Err-clause-tries
returns-in-Err-clause-tries g c =
    let before = c.in-Err.ensures.before in
    let asked = ask c.args.w.now c.args.request in
    let room = had_room _ _ true refl c.if-not-room.ensures.asked in
    (take before.written asked.events, acted_failed c.args.request asked before.written c.args.m.now c.args.m.now c.args.w.now c.ask.new.self _ _ room before.fewer c.in-Err.ensures.dead, before.appends)

pub returns-in-Ok-clause-tries : goal.returns-in-Ok-clause-tries
returns-in-Ok-clause-tries g c =
    let asked = ask c.args.w.now c.args.request in
    let room = had_room _ _ true refl c.if-not-room.ensures.asked in
    (asked.events, acted c.args.request asked c.in-Ok.response c.args.m.now c.resume-stepped.new.m c.args.w.now c.ask.new.self c.resume-stepped.result _ _ room c.in-Ok.ensures.world c.in-Ok.ensures.response c.resume-stepped.ensures.comes, c.in-Ok.ensures.events)
