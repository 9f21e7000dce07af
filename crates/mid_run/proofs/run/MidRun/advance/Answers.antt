use Rattle.std.proofs.Common.{[], refl, subst}
use Rattle.mid_code.specs.Meaning.{State}
use Rattle.frames.specs.Reaching.{state_of}
use Rattle.mid_run.specs.Progress.{Progress, Runs}
use Rattle.mid_run.specs.View.{progress_by}
use Rattle.mid_run.proofs.StepsRun.{quiet_by}
use Rattle.mid_run.proofs.run.MidRun.advance.Goals as goal

pub returns-then-is_none : goal.returns-then-is_none
returns-then-is_none c =
    let a = c.self.inside in
    let s = state_of a.running in
    let next : State = record s { machine = c.run_alone.new.self.machine; memory = c.run_alone.new.memory } in
    let comes = c.run_alone.ensures.comes s refl refl in
    record { runs = subst (λ (q : Progress). Runs c.args.program.now q [] (progress_by a.over next)) c.self.view_is (quiet_by c.args.program.now a.over s next comes) }
