use Rattle.std.proofs.Common.{sym, subst, map}
use Rattle.c_typed.specs.StatementViews.{local_item_view}
use Rattle.c_meaning.specs.declared.run.Did.TheVariants as did
use Rattle.c_meaning.specs.declared.task.LocalsWork.{LocalsWork}
use Rattle.c_meaning.specs.declared.task.Task.TheVariants as task
use Rattle.c_meaning.specs.Owes.{CanTake, Takes}
use Rattle.c_meaning.specs.Runs.{types_of}
use Rattle.c_meaning.specs.TaskViews.{task_view}
use Rattle.c_meaning.proofs.TakingTasks.{locals_ended}
use Rattle.c_meaning.proofs.run.Run.do_locals.Goals as goal

pub returns-in-End : goal.returns-in-End
returns-in-End c =
    let types = types_of c.args.at.program.now in
    subst (λ (w : LocalsWork). Takes c.args.at c.args.self.now (task_view types (task.Locals w c.args.locals)) (record c.args.self.now { world = c.end_locals.new.self }) did.Went)
    (sym c.in-End.is)
    (locals_ended c.args.at c.args.self.now (map (local_item_view types) c.args.locals.now) c.end_locals.new.self
    (subst (λ (w : LocalsWork). CanTake c.args.at c.args.self.now (task_view types (task.Locals w c.args.locals))) c.in-End.is c.requires)
    c.end_locals.ensures.leaves c.end_locals.ensures.budgets)
