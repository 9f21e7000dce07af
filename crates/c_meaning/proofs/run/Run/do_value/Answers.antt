use Rattle.std.proofs.Common.{sym, subst}
use Rattle.std.specs.Prelude.{IfOk}
use Rattle.c_typed.specs.Views.{value_view}
use Rattle.c_meaning.specs.declared.task.Task.TheVariants as task
use Rattle.c_meaning.specs.declared.task.ValueWork.{ValueWork}
use Rattle.c_meaning.specs.Owes.{Takes}
use Rattle.c_meaning.specs.Pending.{does, finish}
use Rattle.c_meaning.specs.Runs.{types_of}
use Rattle.c_meaning.specs.TaskViews.{task_view}
use Rattle.c_meaning.proofs.TakingParts.{taken_by_parts}
use Rattle.c_meaning.proofs.run.Run.do_value.Goals as goal

pub returns-in-Finish : goal.returns-in-Finish
returns-in-Finish c =
    let types = types_of c.args.at.program.now in
    subst (λ (w : ValueWork). IfOk c.finish.result (Takes c.args.at c.args.self.now (task_view types (task.Value w c.args.value)) c.finish.new.self))
    (sym c.in-Finish.is)
    (taken_by_parts c.args.at c.args.self.now c.finish.new.self (does (finish (value_view types c.args.value.now))) c.finish.result
    c.finish.ensures.steps c.finish.ensures.sound c.finish.ensures.falls)
