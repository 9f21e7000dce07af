use Rattle.frames.specs.Reaching.{state_of}
use Rattle.mid_run.proofs.OneStep.{stands_at, led}
use Rattle.mid_run.proofs.run.MidRun.step.Goals as goal

pub returns-clause-fits : goal.returns-clause-fits
returns-clause-fits g c =
    let a = c.self.inside in
    let here = stands_at c.args.self.now a c.self.view_is c.in_default.is in
    let leads = c.in_ok-end.ensures.leads in
    (led c.args.program.now c.args.self.now (state_of a.running) (state_of c.execute.new.running) leads.0 c.in_ok-end.end c.requires.valid c.requires.fits here leads.1).1
