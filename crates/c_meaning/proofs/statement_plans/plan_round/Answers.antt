use Rattle.std.proofs.Common.{[], ◌∷◌, Some, refl, ap, sym, ◌∙◌}
use Rattle.c_typed.specs.Views.{value_view}
use Rattle.c_typed.specs.StatementViews.{stmt_view}
use Rattle.c_meaning.specs.Pending.{does, evaluate, forget, at_top}
use Rattle.c_meaning.specs.Plans.{round_plan}
use Rattle.c_meaning.specs.declared.task.Task.TheVariants as task
use Rattle.c_meaning.specs.declared.task.StmtWork.TheVariants as stmt_work
use Rattle.c_meaning.proofs.PlanRows as plans
use Rattle.c_meaning.proofs.StatementRows as rows
use Rattle.c_meaning.proofs.statement_plans.plan_round.Goals as goal

pub returns-in-While : goal.returns-in-While
returns-in-While c = rows.while_round-row c.args.stmt.now c.push.result c.args.tasks.now c.push.new.self
    (c.in-While.field-0, c.in-While.field-1, c.in-While.is)
    (plans.pushed c.push.result c.args.tasks.now c.push.new.self (task.Stmt stmt_work.Top c.args.stmt) c.push.ensures)

pub returns-in-Do : goal.returns-in-Do
returns-in-Do c = rows.do_test-row c.args.stmt.now c.then.result c.args.tasks.now c.then.new.tasks c.in-Do.test (c.in-Do.field-0, c.in-Do.is) c.then.ensures

pub returns-in-None : goal.returns-in-None
returns-in-None c =
    rows.for_round-row c.args.stmt.now rows.done c.args.tasks.now c.push-in-For.new.self c.in-For.head (c.in-For.field-1, c.in-For.is) c.in-None.is
    (plans.pushed_first c.args.tasks.now c.push-in-For.new.self (task.Stmt stmt_work.Top c.args.stmt) c.in_ok-push-in-For.ensures)

pub returns-in-Some : goal.returns-in-Some
returns-in-Some c =
    let top = plans.pushed_first c.args.tasks.now c.push-in-For.new.self (task.Stmt stmt_work.Top c.args.stmt) c.in_ok-push-in-For.ensures in
    rows.for_step-row c.args.stmt.now c.dropped.result c.args.tasks.now c.dropped.new.tasks c.in-For.head c.get.result.now (c.in-For.field-1, c.in-For.is)
    (c.in-Some.is ∙ ap Some (sym c.get.ensures))
    (rows.planned_after c.dropped.result c.args.tasks.now c.push-in-For.new.self c.dropped.new.tasks (λ types. at_top (stmt_view types c.args.stmt.now) ∷ [])
    (λ types. does (evaluate (value_view types c.get.result.now)) ∷ does forget ∷ []) top c.dropped.ensures)

pub returns-in-Block : goal.returns-in-Block
returns-in-Block c = rows.plain_or_if-row c.args.stmt.now c.args.tasks.now round_plan rows.round_still (λ line e a. refl) (λ line e a b. refl) c.in-Block.is

pub returns-in-Block-2 : goal.returns-in-Block-2
returns-in-Block-2 c = rows.plain_or_if-row c.args.stmt.now c.args.tasks.now round_plan rows.round_still (λ line e a. refl) (λ line e a b. refl) c.in-Block.is

pub returns-in-Block-3 : goal.returns-in-Block-3
returns-in-Block-3 c = rows.plain_or_if-row c.args.stmt.now c.args.tasks.now round_plan rows.round_still (λ line e a. refl) (λ line e a b. refl) c.in-Block.is

pub returns-in-Block-4 : goal.returns-in-Block-4
returns-in-Block-4 c = rows.plain_or_if-row c.args.stmt.now c.args.tasks.now round_plan rows.round_still (λ line e a. refl) (λ line e a b. refl) c.in-Block.is

pub returns-in-Continue : goal.returns-in-Continue
returns-in-Continue c = rows.jump-row c.args.stmt.now c.args.tasks.now round_plan rows.round_still c.in-Continue.is

pub returns-in-Continue-2 : goal.returns-in-Continue-2
returns-in-Continue-2 c = rows.jump-row c.args.stmt.now c.args.tasks.now round_plan rows.round_still c.in-Continue.is

pub returns-in-Continue-3 : goal.returns-in-Continue-3
returns-in-Continue-3 c = rows.jump-row c.args.stmt.now c.args.tasks.now round_plan rows.round_still c.in-Continue.is
