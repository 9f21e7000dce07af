use Rattle.std.proofs.Common.{sym, subst}
use Rattle.c_meaning.specs.declared.run.Did.TheVariants as did
use Rattle.c_meaning.specs.declared.task.ItemsWork.{ItemsWork}
use Rattle.c_meaning.specs.declared.task.Task.TheVariants as task
use Rattle.c_meaning.specs.Owes.{CanTake, Takes}
use Rattle.c_meaning.specs.Runs.{types_of}
use Rattle.c_meaning.specs.TaskViews.{items_view, task_view}
use Rattle.c_meaning.proofs.TakingSteps.{after, items_planned}
use Rattle.c_meaning.proofs.TakingTasks.{block_ended}
use Rattle.c_meaning.proofs.run.Run.do_items.Goals as goal

pub returns-in_ok-plan_items-in-Execute : goal.returns-in_ok-plan_items-in-Execute
returns-in_ok-plan_items-in-Execute c =
    let types = types_of c.args.at.program.now in
    subst (λ (w : ItemsWork). Takes c.args.at c.args.self.now (task_view types (task.Items w c.args.items)) (after c.args.at c.args.self.now c.plan_items.new.tasks c.args.self.now.values) did.Went)
    (sym c.in-Execute.is)
    (items_planned c.args.at c.args.self.now (items_view types c.args.items.now) c.plan_items.new.tasks
    (subst (λ (w : ItemsWork). CanTake c.args.at c.args.self.now (task_view types (task.Items w c.args.items))) c.in-Execute.is c.requires)
    (c.in_ok-plan_items-in-Execute.ensures types))

pub returns-in-End : goal.returns-in-End
returns-in-End c =
    let types = types_of c.args.at.program.now in
    subst (λ (w : ItemsWork). Takes c.args.at c.args.self.now (task_view types (task.Items w c.args.items)) (record c.args.self.now { world = c.end_block.new.self }) did.Went)
    (sym c.in-End.is)
    (block_ended c.args.at c.args.self.now (items_view types c.args.items.now) c.end_block.new.self
    (subst (λ (w : ItemsWork). CanTake c.args.at c.args.self.now (task_view types (task.Items w c.args.items))) c.in-End.is c.requires)
    c.end_block.ensures.leaves c.end_block.ensures.budgets)
