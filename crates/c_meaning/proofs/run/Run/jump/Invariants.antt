use Rattle.c_meaning.specs.Runs.{completion_of, work_left}
use Rattle.c_meaning.proofs.Popping.{IsOnItsWay}
use Rattle.c_meaning.proofs.run.Run.jump.Given as goal

abbrev pub invariant-loop-task : goal.invariant-loop-task
invariant-loop-task l = IsOnItsWay l.at (completion_of l.jump) l.initial.self l.self

abbrev pub decreases-loop-task : goal.decreases-loop-task
decreases-loop-task l = work_left l.at.program.now l.self
