use Rattle.std.proofs.Common.{◌≡◌, ◌+◌, ◌<◌, ◌^◌, [], refl, sym, ap, ◌∙◌, subst}
use Rattle.srmt_outside.proofs.Told.{Appends-nothing}
use Rattle.mid_code.specs.Machine.{Calls as CallsOne, Leaves, Traps, Reaches, arguments}
use Rattle.frames.specs.Kept.{Kept}
use Rattle.binary_run.specs.Binary.{BinaryState, Runs}
use Rattle.binary_run.specs.Fits.{FitsBinary}
use Rattle.binary_run.specs.View.{state_of_run, next_of}
use Rattle.binary_run.proofs.CodeSteps.{ready, small_place, unmoved, gone_on}
use Rattle.binary_run.proofs.binary.BinaryRun.advance.Goals as goal

pub perform-requires : goal.perform-requires
perform-requires g c =
    let b = state_of_run c.self.inside in
    let fits = subst (FitsBinary c.args.program.now) (sym c.self.view_is) c.requires.fits in
    let is : b.next ≡ Runs = subst (λ (s : BinaryState). s.next ≡ Runs) (sym c.self.view_is) c.requires.next in
    record { ready = ready c.args.program.now b c.requires.valid fits is c.in-Some.line.now (sym c.in-Some.ensures) }

pub reach-requires-clause-place : goal.reach-requires-clause-place
reach-requires-clause-place g c =
    let place = subst (λ (s : BinaryState). s.machine.top.place + 1 < 2 ^ 32) (sym c.self.view_is)
    (small_place c.args.program.now c.args.self.now c.requires.valid c.requires.fits c.requires.next) in
    rw c.in-Wants.ensures.1 place

pub returns-in-Went-clause-step : goal.returns-in-Went-clause-step
returns-in-Went-clause-step g c =
    let a = c.args in
    let i = c.self.inside in
    let told = Appends-nothing (g.O.Outlet.events a.outlet.now) in
    ([], gone_on a.program.now a.self.now a.shared.now _ c.in-Some.line.now i.running.frames c.perform.new.frames i.objects i.entered (next_of i.due) c.self.view_is c.requires.next (sym c.in-Some.ensures) c.in-Went.ensures, told)

pub returns-in-Called-clause-step : goal.returns-in-Called-clause-step
returns-in-Called-clause-step g c =
    let a = c.args in
    let i = c.self.inside in
    let told = Appends-nothing (g.O.Outlet.events a.outlet.now) in
    let same = c.in-Called.ensures.1 in
    let called = c.in-Called.ensures.0 ∙ ap (λ (k : Kept). CallsOne c.in-Called.function (arguments k.machine.top c.in-Called.args) c.in-Called.target) (sym same) in
    ([], unmoved a.program.now a.self.now a.shared.now _ c.in-Some.line.now _ i.running.frames c.perform.new.frames i.objects i.entered (next_of i.due) _ c.self.view_is c.requires.next (sym c.in-Some.ensures) called same (c.call.ensures.calls _ _), told)

pub returns-in-Left-clause-step : goal.returns-in-Left-clause-step
returns-in-Left-clause-step g c =
    let a = c.args in
    let i = c.self.inside in
    let told = Appends-nothing (g.O.Outlet.events a.outlet.now) in
    ([], unmoved a.program.now a.self.now a.shared.now _ c.in-Some.line.now (Leaves c.in-Left.value) i.running.frames c.perform.new.frames i.objects i.entered (next_of i.due) _ c.self.view_is c.requires.next (sym c.in-Some.ensures) c.in-Left.ensures.0 c.in-Left.ensures.1 (c.leave.ensures.leaves _ _), told)

pub returns-in-Trapped-clause-step : goal.returns-in-Trapped-clause-step
returns-in-Trapped-clause-step g c =
    let a = c.args in
    let i = c.self.inside in
    let told = Appends-nothing (g.O.Outlet.events a.outlet.now) in
    let stands = unmoved a.program.now a.self.now a.shared.now _ c.in-Some.line.now (Traps c.in-Trapped.trap c.in-Trapped.at) i.running.frames c.perform.new.frames i.objects i.entered (next_of i.due) _ c.self.view_is c.requires.next (sym c.in-Some.ensures) c.in-Trapped.ensures.0 c.in-Trapped.ensures.1 refl in
    ([], rw (c.stop.ensures.stopped, c.stop.ensures.answer) stands, told)

pub returns-in_ok-answer-in-Wants-clause-step : goal.returns-in_ok-answer-in-Wants-clause-step
returns-in_ok-answer-in-Wants-clause-step g c =
    let a = c.args in
    let i = c.self.inside in
    let meant = c.in_ok-answer-in-Wants.ensures.meant in
    (meant.0, unmoved a.program.now a.self.now a.shared.now _ c.in-Some.line.now (Reaches c.in-Wants.access c.in-Some.line.now.line) i.running.frames c.perform.new.frames i.objects i.entered (next_of i.due) _ c.self.view_is c.requires.next (sym c.in-Some.ensures) c.in-Wants.ensures.0 c.in-Wants.ensures.1 meant.1, meant.2)
