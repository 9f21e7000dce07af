use Rattle.std.proofs.Common.{◌≡◌, ◌==◌, true, false, ap, ◌∙◌, arith}
use Rattle.std.proofs.lemmas.Bool.Decides.{nat_tests}
use Rattle.c_typed.specs.declared.statement.StmtNode.TheVariants as sn
use Rattle.c_meaning.specs.Plans.{choice_plan}
use Rattle.c_meaning.proofs.StatementRows as rows
use Rattle.c_meaning.proofs.statement_plans.plan_choice.Goals as goal

pub returns-then-test-ne0 : goal.returns-then-test-ne0
returns-then-test-ne0 c =
    let more : (c.args.test == 0) ≡ false = grind (arith, nat_tests) in
    rows.first_branch-row c.args.stmt.now c.execute.result c.args.tasks.now c.execute.new.tasks c.args.test c.in-If.first c.in-If.second more
    (c.in-If.field-0, c.in-If.is) c.execute.ensures

pub returns-in-None : goal.returns-in-None
returns-in-None c =
    let none : (c.args.test == 0) ≡ true = grind (arith, nat_tests) in
    rows.no_branch-row c.args.stmt.now c.args.tasks.now c.args.test c.in-If.first none
    (c.in-If.field-0, c.in-If.is ∙ ap (sn.If c.in-If.field-0 c.in-If.first) c.in-None.is)

pub returns-in-Some : goal.returns-in-Some
returns-in-Some c =
    let none : (c.args.test == 0) ≡ true = grind (arith, nat_tests) in
    rows.second_branch-row c.args.stmt.now c.execute-in-Some.result c.args.tasks.now c.execute-in-Some.new.tasks c.args.test c.in-If.first c.in-Some.second none
    (c.in-If.field-0, c.in-If.is ∙ ap (sn.If c.in-If.field-0 c.in-If.first) c.in-Some.is) c.execute-in-Some.ensures

pub returns-in-Block : goal.returns-in-Block
returns-in-Block c = rows.plain-row c.args.stmt.now c.args.tasks.now (λ a. choice_plan a c.args.test) (rows.choice_still c.args.test) c.in-Block.is

pub returns-in-Block-2 : goal.returns-in-Block-2
returns-in-Block-2 c = rows.plain-row c.args.stmt.now c.args.tasks.now (λ a. choice_plan a c.args.test) (rows.choice_still c.args.test) c.in-Block.is

pub returns-in-Block-3 : goal.returns-in-Block-3
returns-in-Block-3 c = rows.plain-row c.args.stmt.now c.args.tasks.now (λ a. choice_plan a c.args.test) (rows.choice_still c.args.test) c.in-Block.is

pub returns-in-While : goal.returns-in-While
returns-in-While c = rows.no_if-row c.args.stmt.now c.args.tasks.now c.args.test c.in-While.is

pub returns-in-While-2 : goal.returns-in-While-2
returns-in-While-2 c = rows.no_if-row c.args.stmt.now c.args.tasks.now c.args.test c.in-While.is

pub returns-in-While-3 : goal.returns-in-While-3
returns-in-While-3 c = rows.no_if-row c.args.stmt.now c.args.tasks.now c.args.test c.in-While.is

pub returns-in-Continue : goal.returns-in-Continue
returns-in-Continue c = rows.jump-row c.args.stmt.now c.args.tasks.now (λ a. choice_plan a c.args.test) (rows.choice_still c.args.test) c.in-Continue.is

pub returns-in-Continue-2 : goal.returns-in-Continue-2
returns-in-Continue-2 c = rows.jump-row c.args.stmt.now c.args.tasks.now (λ a. choice_plan a c.args.test) (rows.choice_still c.args.test) c.in-Continue.is

pub returns-in-Continue-3 : goal.returns-in-Continue-3
returns-in-Continue-3 c = rows.jump-row c.args.stmt.now c.args.tasks.now (λ a. choice_plan a c.args.test) (rows.choice_still c.args.test) c.in-Continue.is
