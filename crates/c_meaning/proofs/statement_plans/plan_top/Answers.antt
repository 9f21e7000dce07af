use Rattle.std.proofs.Common.{Some, refl, ap, sym, ◌∙◌}
use Rattle.c_meaning.specs.Pending.{tested}
use Rattle.c_meaning.specs.Plans.{top_plan}
use Rattle.c_meaning.proofs.StatementRows as rows
use Rattle.c_meaning.proofs.statement_plans.plan_top.Goals as goal

pub returns-in-While : goal.returns-in-While
returns-in-While c = rows.while-row c.args.stmt.now c.then.result c.args.tasks.now c.then.new.tasks top_plan tested c.in-While.test (λ line d b. refl)
    (c.in-While.field-1, c.in-While.is) c.then.ensures

pub returns-in-Do : goal.returns-in-Do
returns-in-Do c = rows.do_body-row c.args.stmt.now c.body.result c.args.tasks.now c.body.new.tasks c.in-Do.inner (c.in-Do.field-1, c.in-Do.is) c.body.ensures

pub returns-in-None : goal.returns-in-None
returns-in-None c = rows.for_untested-row c.args.stmt.now c.body-in-None.result c.args.tasks.now c.body-in-None.new.tasks c.in-For.head c.in-For.inner
    c.in-For.is c.in-None.is c.body-in-None.ensures

pub returns-in-Some : goal.returns-in-Some
returns-in-Some c =
    rows.for_tested-row c.args.stmt.now c.then-in-Some.result c.args.tasks.now c.then-in-Some.new.tasks c.in-For.head c.in-For.inner c.get.result.now
    c.in-For.is (c.in-Some.is ∙ ap Some (sym c.get.ensures)) c.then-in-Some.ensures

pub returns-in-Block : goal.returns-in-Block
returns-in-Block c = rows.plain_or_if-row c.args.stmt.now c.args.tasks.now top_plan rows.top_still (λ line e a. refl) (λ line e a b. refl) c.in-Block.is

pub returns-in-Block-2 : goal.returns-in-Block-2
returns-in-Block-2 c = rows.plain_or_if-row c.args.stmt.now c.args.tasks.now top_plan rows.top_still (λ line e a. refl) (λ line e a b. refl) c.in-Block.is

pub returns-in-Block-3 : goal.returns-in-Block-3
returns-in-Block-3 c = rows.plain_or_if-row c.args.stmt.now c.args.tasks.now top_plan rows.top_still (λ line e a. refl) (λ line e a b. refl) c.in-Block.is

pub returns-in-Block-4 : goal.returns-in-Block-4
returns-in-Block-4 c = rows.plain_or_if-row c.args.stmt.now c.args.tasks.now top_plan rows.top_still (λ line e a. refl) (λ line e a b. refl) c.in-Block.is

pub returns-in-Continue : goal.returns-in-Continue
returns-in-Continue c = rows.jump-row c.args.stmt.now c.args.tasks.now top_plan rows.top_still c.in-Continue.is

pub returns-in-Continue-2 : goal.returns-in-Continue-2
returns-in-Continue-2 c = rows.jump-row c.args.stmt.now c.args.tasks.now top_plan rows.top_still c.in-Continue.is

pub returns-in-Continue-3 : goal.returns-in-Continue-3
returns-in-Continue-3 c = rows.jump-row c.args.stmt.now c.args.tasks.now top_plan rows.top_still c.in-Continue.is
