use Rattle.std.proofs.Common.{sym, subst}
use Rattle.c_meaning.specs.declared.run.Did.TheVariants as did
use Rattle.c_meaning.specs.declared.task.ValuesWork.{ValuesWork}
use Rattle.c_meaning.specs.declared.task.Task.TheVariants as task
use Rattle.c_meaning.specs.Owes.{CanTake, Takes}
use Rattle.c_meaning.specs.Runs.{types_of}
use Rattle.c_meaning.specs.TaskViews.{values_view, task_view}
use Rattle.c_meaning.proofs.TakingSteps.{after, values_planned, dropped_planned}
use Rattle.c_meaning.proofs.run.Run.do_values.Goals as goal

pub returns-in_ok-plan_values-in-Evaluate : goal.returns-in_ok-plan_values-in-Evaluate
returns-in_ok-plan_values-in-Evaluate c =
    let types = types_of c.args.at.program.now in
    subst (λ (w : ValuesWork). Takes c.args.at c.args.self.now (task_view types (task.Values w c.args.values)) (after c.args.at c.args.self.now c.plan_values.new.tasks c.args.self.now.values) did.Went)
    (sym c.in-Evaluate.is)
    (values_planned c.args.at c.args.self.now (values_view types c.args.values.now) c.plan_values.new.tasks
    (subst (λ (w : ValuesWork). CanTake c.args.at c.args.self.now (task_view types (task.Values w c.args.values))) c.in-Evaluate.is c.requires)
    (c.in_ok-plan_values-in-Evaluate.ensures types))

pub returns-in_ok-plan_dropped-in-Drop : goal.returns-in_ok-plan_dropped-in-Drop
returns-in_ok-plan_dropped-in-Drop c =
    let types = types_of c.args.at.program.now in
    subst (λ (w : ValuesWork). Takes c.args.at c.args.self.now (task_view types (task.Values w c.args.values)) (after c.args.at c.args.self.now c.plan_dropped.new.tasks c.args.self.now.values) did.Went)
    (sym c.in-Drop.is)
    (dropped_planned c.args.at c.args.self.now (values_view types c.args.values.now) c.plan_dropped.new.tasks
    (subst (λ (w : ValuesWork). CanTake c.args.at c.args.self.now (task_view types (task.Values w c.args.values))) c.in-Drop.is c.requires)
    (c.in_ok-plan_dropped-in-Drop.ensures types))
