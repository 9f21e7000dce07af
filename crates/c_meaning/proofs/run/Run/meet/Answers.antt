use Rattle.std.proofs.Common.{sym, subst}
use Rattle.c_meaning.specs.declared.jumps.Met.TheVariants as met
use Rattle.c_meaning.specs.declared.task.Task.{Task}
use Rattle.c_meaning.specs.Jumping.{Meets}
use Rattle.c_meaning.specs.Owes.{CanTake}
use Rattle.c_meaning.specs.Runs.{types_of, completion_of}
use Rattle.c_meaning.specs.TaskViews.{task_view}
use Rattle.c_meaning.proofs.JumpRows.{value-row, give-row, items-passed, locals-passed, execute-row, tested-row, block-ended, locals-ended}
use Rattle.c_meaning.proofs.Meeting.{caller_meets}
use Rattle.c_meaning.proofs.run.Run.meet.Goals as goal

pub returns-in-Execute : goal.returns-in-Execute
returns-in-Execute c =
    items-passed c.args.at c.args.self.now c.args.task c.requires.can c.args.jump c.in-Items.work c.in-Items.items c.in-Items.is c.in-Execute.is

pub returns-in-End : goal.returns-in-End
returns-in-End c =
    block-ended c.args.at c.args.self.now c.args.task c.requires.can (completion_of c.args.jump) c.end_block.new.self c.end_block.ensures.budgets
    c.in-Items.work c.in-Items.items c.in-Items.is c.in-End.is c.end_block.ensures.leaves

pub returns-in-Initialize : goal.returns-in-Initialize
returns-in-Initialize c =
    locals-passed c.args.at c.args.self.now c.args.task c.requires.can c.args.jump c.in-Locals.work c.in-Locals.locals c.in-Locals.is c.in-Initialize.is

pub returns-in-Execute-work : goal.returns-in-Execute-work
returns-in-Execute-work c =
    execute-row c.args.at c.args.self.now c.args.task c.requires.can c.args.jump c.in-Stmt.work c.in-Stmt.stmt c.in-Stmt.is c.in-Execute-work.is

pub returns-in_ok-leave-in-Leave : goal.returns-in_ok-leave-in-Leave
returns-in_ok-leave-in-Leave c =
    let types = types_of c.args.at.program.now in
    let old = c.args.self.now in
    let j = completion_of c.args.jump in
    let done = c.in_ok-leave-in-Leave.ensures in
    subst (λ (t : Task). Meets c.args.at j old (task_view types t) c.leave.new.self met.Stops)
    (sym c.in-Leave.is)
    (caller_meets c.args.at old c.in-Leave.caller c.in-Leave.locals c.value_of.result c.leave.new.self j
    (subst (λ (t : Task). CanTake c.args.at old (task_view types t)) c.in-Leave.is c.requires.can)
    done.steps c.value_of.ensures.value done.values done.tasks done.current done.turns done.depths)

pub returns-in-Value : goal.returns-in-Value
returns-in-Value c = value-row c.args.at c.args.self.now c.args.task c.requires.can c.args.jump c.in-Value.is

pub returns-in-Give : goal.returns-in-Give
returns-in-Give c = give-row c.args.at c.args.self.now c.args.task c.requires.can c.args.jump c.in-Give.is

pub returns-in-End-work : goal.returns-in-End-work
returns-in-End-work c =
    locals-ended c.args.at c.args.self.now c.args.task c.requires.can (completion_of c.args.jump) c.end_locals.new.self c.end_locals.ensures.budgets
    c.in-Locals.work c.in-Locals.locals c.in-Locals.is c.in-End-work.is c.end_locals.ensures.leaves

pub returns-in-Tested : goal.returns-in-Tested
returns-in-Tested c =
    tested-row c.args.at c.args.self.now c.args.task c.requires.can c.args.jump c.in-Stmt.work c.in-Stmt.stmt c.in-Stmt.is c.in-Tested.is
