use Rattle.std.proofs.Common.{◌≡◌, ◌==◌, false, refl, arith}
use Rattle.std.proofs.lemmas.Bool.Decides.{nat_tests}
use Rattle.c_meaning.specs.Plans.{tested_plan}
use Rattle.c_meaning.proofs.StatementRows as rows
use Rattle.c_meaning.proofs.statement_plans.plan_tested.Goals as goal

pub returns-in-While : goal.returns-in-While
returns-in-While c =
    let more : (c.args.test == 0) ≡ false = grind (arith, nat_tests) in
    rows.body-row c.args.stmt.now c.body.result c.args.tasks.now c.body.new.tasks c.args.test c.in-While.inner more c.in-While.is c.body.ensures

pub returns-in-Block : goal.returns-in-Block
returns-in-Block c = rows.plain-row c.args.stmt.now c.args.tasks.now (λ a. tested_plan a c.args.test) (rows.tested_still c.args.test) c.in-Block.is

pub returns-in-Block-2 : goal.returns-in-Block-2
returns-in-Block-2 c = rows.plain-row c.args.stmt.now c.args.tasks.now (λ a. tested_plan a c.args.test) (rows.tested_still c.args.test) c.in-Block.is

pub returns-in-Block-3 : goal.returns-in-Block-3
returns-in-Block-3 c = rows.plain-row c.args.stmt.now c.args.tasks.now (λ a. tested_plan a c.args.test) (rows.tested_still c.args.test) c.in-Block.is

pub returns-in-If : goal.returns-in-If
returns-in-If c = rows.if_or_jump-row c.args.stmt.now c.args.tasks.now (λ a. tested_plan a c.args.test) (rows.tested_still c.args.test) (λ line e a. refl)
    (λ line e a b. refl) c.in-If.is

pub returns-in-If-2 : goal.returns-in-If-2
returns-in-If-2 c = rows.if_or_jump-row c.args.stmt.now c.args.tasks.now (λ a. tested_plan a c.args.test) (rows.tested_still c.args.test) (λ line e a. refl)
    (λ line e a b. refl) c.in-If.is

pub returns-in-If-3 : goal.returns-in-If-3
returns-in-If-3 c = rows.if_or_jump-row c.args.stmt.now c.args.tasks.now (λ a. tested_plan a c.args.test) (rows.tested_still c.args.test) (λ line e a. refl)
    (λ line e a b. refl) c.in-If.is

pub returns-in-If-4 : goal.returns-in-If-4
returns-in-If-4 c = rows.if_or_jump-row c.args.stmt.now c.args.tasks.now (λ a. tested_plan a c.args.test) (rows.tested_still c.args.test) (λ line e a. refl)
    (λ line e a b. refl) c.in-If.is
