use Rattle.std.proofs.Common.{◌++◌, ◌∙◌, List, Option, sym, subst, arith}
use Rattle.srmt_base.specs.declared.event.Event.{Event}
use Rattle.srmt_outside.specs.Told.{Appends}
use Rattle.srmt_outside.proofs.Told.{Appends-both}
use Rattle.mid_run.specs.Progress.{Progress, Runs}
use Rattle.mid_run.proofs.StepsRun.{runs_on, runs_quietly, quiet_fits, to_go-step}
use Rattle.mid_run.proofs.run.MidRun.run.Goals as goal

pub step-requires-clause-fits : goal.step-requires-clause-fits
step-requires-clause-fits g c =
    (quiet_fits c.args.program.now c.loop-end.self c.advance.new.self c.requires.valid c.loop-end.invariant.fits c.advance.ensures.runs).0

pub returns-in_err-end-clause-runs : goal.returns-in_err-end-clause-runs
returns-in_err-end-clause-runs g c =
    let so_far = c.loop-end.invariant.runs in
    let all = runs_quietly c.args.program.now c.args.self.now c.loop-end.self c.advance.new.self so_far.0 so_far.1 c.advance.ensures.runs in
    let runs = subst (λ (q : Progress). Runs c.args.program.now c.args.self.now so_far.0 q) (sym c.in_err-end.ensures.kept) all in
    let told = subst (λ (es : Option (List Event)). Appends (g.O.Outlet.events c.args.outlet.now) es so_far.0) (sym c.in_err-end.ensures.unwritten) so_far.2 in
    (so_far.0, runs, told)

pub returns-in-Some-clause-runs : goal.returns-in-Some-clause-runs
returns-in-Some-clause-runs g c =
    let so_far = c.loop-end.invariant.runs in
    let all = runs_quietly c.args.program.now c.args.self.now c.loop-end.self c.advance.new.self so_far.0 so_far.1 c.advance.ensures.runs in
    let step = c.in_ok-end.ensures.step in
    (so_far.0 ++ step.0, runs_on c.args.program.now c.args.self.now c.advance.new.self c.step.new.self so_far.0 step.0 all step.1, Appends-both _ _ _ so_far.0 step.0 so_far.2 step.2)

pub loop-end-smaller : goal.loop-end-smaller
loop-end-smaller g c =
    let fits = quiet_fits c.args.program.now c.loop-end.self c.advance.new.self c.requires.valid c.loop-end.invariant.fits c.advance.ensures.runs in
    let step = c.in_ok-end.ensures.step in
    let less = to_go-step c.args.program.now c.advance.new.self c.step.new.self step.0 c.requires.valid fits.0 step.1 (sym c.in_ok-end.ensures.end ∙ c.in_default.is) in
    omega (arith, less, fits.1)

pub loop-end-preserved : goal.loop-end-preserved
loop-end-preserved g c =
    let so_far = c.loop-end.invariant.runs in
    let all = runs_quietly c.args.program.now c.args.self.now c.loop-end.self c.advance.new.self so_far.0 so_far.1 c.advance.ensures.runs in
    let step = c.in_ok-end.ensures.step in
    record {
      runs = (so_far.0 ++ step.0, runs_on c.args.program.now c.args.self.now c.advance.new.self c.step.new.self so_far.0 step.0 all step.1, Appends-both _ _ _ so_far.0 step.0 so_far.2 step.2);
      fits = c.in_ok-end.ensures.fits;
      faults = c.in_ok-end.ensures.counted ∙ c.loop-end.invariant.faults;
    }
