use Rattle.std.proofs.Common.{refl, sym, subst}
use Rattle.std.specs.Prelude.{IfOk}
use Rattle.source_meaning.specs.Statements.{normal}
use Rattle.c_meaning.specs.declared.run.Did.TheVariants as did
use Rattle.c_meaning.specs.declared.task.Task.{Task as CodeTask}
use Rattle.c_meaning.specs.Owes.{CanTake, Takes}
use Rattle.c_meaning.specs.Pending.{leave}
use Rattle.c_meaning.specs.Runs.{types_of}
use Rattle.c_meaning.specs.TaskViews.{current_view, task_view}
use Rattle.c_meaning.proofs.Meeting.{caller_meets, left_taken}
use Rattle.c_meaning.proofs.TakingJumps.{answered}
use Rattle.c_meaning.proofs.run.Run.take.Goals as goal

pub returns-in_ok-leave-in-Leave : goal.returns-in_ok-leave-in-Leave
returns-in_ok-leave-in-Leave c =
    let types = types_of c.args.at.program.now in
    let done = c.in_ok-leave-in-Leave.ensures in
    subst (λ (t : CodeTask). Takes c.args.at c.args.self.now (task_view types t) c.leave.new.self did.Went) (sym c.in-Leave.is)
    (left_taken c.args.at c.args.self.now (leave (current_view types c.in-Leave.caller) c.in-Leave.locals) c.leave.new.self
    (caller_meets c.args.at c.args.self.now c.in-Leave.caller c.in-Leave.locals 0 c.leave.new.self normal
    (subst (λ (t : CodeTask). CanTake c.args.at c.args.self.now (task_view types t)) c.in-Leave.is c.requires)
    done.steps refl done.values done.tasks done.current done.turns done.depths))

pub returns-in-Answer : goal.returns-in-Answer
returns-in-Answer c =
    let types = types_of c.args.at.program.now in
    subst (λ (t : CodeTask). IfOk c.jump.result (Takes c.args.at c.args.self.now (task_view types t) c.jump.new.self)) (sym c.in-Answer.is)
    (answered c.args.at c.args.self.now c.jump.new.self c.take-value.result c.take-value.new.self c.jump.result c.take-value.ensures.value
    c.take-value.ensures.rest c.jump.ensures.steps c.jump.ensures.sound c.jump.ensures.falls)
