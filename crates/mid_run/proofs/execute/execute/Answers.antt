use Rattle.std.proofs.Common.{[], sym, subst}
use Rattle.std.specs.Prelude.{OnErr}
use Rattle.mid_code.specs.Meaning.{Step}
use Rattle.frames.specs.Kept.{Kept, TakesResult}
use Rattle.frames.specs.Reaching.{state_of, events_of, GivesEvent, HasRoom}
use Rattle.frames.proofs.Ready.{ready_at}
use Rattle.srmt_outside.proofs.Told.{Appends-nothing}
use Rattle.mid_run.proofs.OneStep.{has_room, went, called, returned_on, stopped, wanted, led_by, result_taken}
use Rattle.mid_run.proofs.execute.execute.Goals as goal

pub perform-requires : goal.perform-requires
perform-requires g c = record { ready = ready_at c.args.program.now c.args.running.now.frames.machine.top c.in-Some.line.now c.requires.valid c.requires.fits.machine.top (sym c.in-Some.ensures) }

pub call-requires-clause-place : goal.call-requires-clause-place
call-requires-clause-place g c =
    let ready = ready_at c.args.program.now c.args.running.now.frames.machine.top c.in-Some.line.now c.requires.valid c.requires.fits.machine.top (sym c.in-Some.ensures) in
    rw c.in-Called.ensures.1 ready.place

pub leave-requires-clause-caller : goal.leave-requires-clause-caller
leave-requires-clause-caller g c =
    let m = c.args.running.now.frames.machine in
    let takes = result_taken c.args.program.now m c.in-Some.line.now c.in-Left.value c.requires.valid c.requires.fits.machine (sym c.in-Some.ensures) c.in-Left.ensures.0 in
    subst (λ (k : Kept). TakesResult k.machine.top.into k.machine.below) (sym c.in-Left.ensures.1) takes

pub reach-requires-clause-place : goal.reach-requires-clause-place
reach-requires-clause-place g c =
    let ready = ready_at c.args.program.now c.args.running.now.frames.machine.top c.in-Some.line.now c.requires.valid c.requires.fits.machine.top (sym c.in-Some.ensures) in
    rw c.in-Wants.ensures.1 ready.place

pub reach-requires-clause-room : goal.reach-requires-clause-room
reach-requires-clause-room g c =
    let r = c.args.running.now in
    subst (λ (k : Kept). HasRoom (record r { frames = k })) (sym c.in-Wants.ensures.1) (has_room c.args.program.now r c.requires.fits c.requires.room)

pub returns-in-Went-clause-leads : goal.returns-in-Went-clause-leads
returns-in-Went-clause-leads g c =
    let told = Appends-nothing (g.O.Outlet.events c.args.outlet.now) in
    ([], went c.args.program.now c.args.running.now c.in-Some.line.now c.perform.new.frames (sym c.in-Some.ensures) c.in-Went.ensures, told)

pub returns-in-Called-clause-leads : goal.returns-in-Called-clause-leads
returns-in-Called-clause-leads g c =
    let told = Appends-nothing (g.O.Outlet.events c.args.outlet.now) in
    let leads = called c.args.program.now c.args.running.now c.in-Some.line.now c.perform.new.frames c.in-Called.function c.in-Called.args c.in-Called.target (state_of c.call.new.running) c.call.result (sym c.in-Some.ensures) c.in-Called.ensures c.call.ensures.leads in
    ([], leads, told)

pub returns-in-Left-clause-leads : goal.returns-in-Left-clause-leads
returns-in-Left-clause-leads g c =
    let told = Appends-nothing (g.O.Outlet.events c.args.outlet.now) in
    let on = returned_on c.args.program.now c.args.running.now c.in-Some.line.now c.perform.new.frames c.in-Left.value c.leave.new.self (sym c.in-Some.ensures) c.in-Left.ensures c.leave.ensures.returns in
    ([], on, told)

pub returns-in-Trapped-clause-leads : goal.returns-in-Trapped-clause-leads
returns-in-Trapped-clause-leads g c =
    let told = Appends-nothing (g.O.Outlet.events c.args.outlet.now) in
    ([], stopped c.args.program.now c.args.running.now c.in-Some.line.now c.perform.new.frames c.in-Trapped.trap c.in-Trapped.at (sym c.in-Some.ensures) c.in-Trapped.ensures, told)

pub returns-in-Wants-clause-leads : goal.returns-in-Wants-clause-leads
returns-in-Wants-clause-leads g c =
    let is = wanted c.args.program.now c.args.running.now c.in-Some.line.now c.perform.new.frames c.in-Wants.access (sym c.in-Some.ensures) c.in-Wants.ensures in
    led_by _ _ (state_of c.reach.new.running) (events_of c.in-Wants.access) _ _ c.reach.result is c.reach.ensures.reached c.reach.ensures.told

pub returns-in-Wants-clause-before : goal.returns-in-Wants-clause-before
returns-in-Wants-clause-before g c =
    let is = wanted c.args.program.now c.args.running.now c.in-Some.line.now c.perform.new.frames c.in-Wants.access (sym c.in-Some.ensures) c.in-Wants.ensures in
    subst (λ (x : Step). OnErr c.reach.result (GivesEvent x)) (sym is) c.reach.ensures.before
