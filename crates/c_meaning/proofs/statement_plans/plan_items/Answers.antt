use Rattle.std.proofs.Common.{◌≡◌, [], ◌∷◌, ap, sym, ◌∙◌, rules}
use Rattle.c_typed.specs.declared.statement.BlockItem.TheVariants as bi
use Rattle.c_meaning.specs.Pending.{execute_items}
use Rattle.c_meaning.specs.TaskViews.{items_view}
use Rattle.c_meaning.specs.declared.task.Task.TheVariants as task
use Rattle.c_meaning.specs.declared.task.ItemsWork.TheVariants as items_work
use Rattle.c_meaning.specs.declared.task.LocalsWork.TheVariants as locals_work
use Rattle.c_meaning.proofs.PlanRows as plans
use Rattle.c_meaning.proofs.StatementRows as rows
use Rattle.c_meaning.proofs.statement_plans.plan_items.Goals as goal

pub returns-in-Declaration : goal.returns-in-Declaration
returns-in-Declaration c =
    let parts : c.args.items.now ≡ c.in-Some.first.now ∷ c.in-Some.rest.now = search rules in
    let before = plans.pushed_first c.args.tasks.now c.push.new.self (task.Items items_work.Execute c.in-Some.rest) c.in_ok-push.ensures in
    rows.declaration-row c.args.items.now c.in-Some.first.now c.in-Some.rest.now parts c.push-in-Declaration.result c.args.tasks.now
    c.push-in-Declaration.new.self c.as_slice.result.now (c.in-Declaration.is ∙ ap bi.Declaration (sym c.as_slice.ensures))
    (plans.pushed_after c.push-in-Declaration.result c.args.tasks.now c.push-in-Declaration.new.self c.push.new.self
    (λ types. execute_items (items_view types c.in-Some.rest.now) ∷ [])
    (task.Locals locals_work.Initialize c.as_slice.result) before c.push-in-Declaration.ensures)

pub returns-in-Statement : goal.returns-in-Statement
returns-in-Statement c =
    let parts : c.args.items.now ≡ c.in-Some.first.now ∷ c.in-Some.rest.now = search rules in
    let before = plans.pushed_first c.args.tasks.now c.push.new.self (task.Items items_work.Execute c.in-Some.rest) c.in_ok-push.ensures in
    rows.statement-row c.args.items.now c.in-Some.first.now c.in-Some.rest.now parts c.push-in-Statement.result c.args.tasks.now c.push-in-Statement.new.self
    c.in-Statement.stmt c.in-Statement.is
    (plans.pushed_after c.push-in-Statement.result c.args.tasks.now c.push-in-Statement.new.self c.push.new.self
    (λ types. execute_items (items_view types c.in-Some.rest.now) ∷ [])
    _ before c.push-in-Statement.ensures)
