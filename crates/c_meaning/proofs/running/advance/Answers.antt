use Rattle.c_meaning.specs.Ending.{rest_from}
use Rattle.c_meaning.specs.Runs.{work_left}
use Rattle.c_meaning.proofs.Endings.{came_if}
use Rattle.c_meaning.proofs.running.advance.Goals as goal

pub returns-clause-came : goal.returns-clause-came
returns-clause-came g c =
    let p = c.args.program.now in
    came_if p (rest_from p c.args.run.now) (work_left p c.args.run.now) c.args.run.now c.step.new.self _ _ c.in_ok-did.did c.settle.result
    c.in_ok-did.ensures.steps c.in_ok-did.ensures.falls c.settle.ensures.next c.settle.ensures.told
