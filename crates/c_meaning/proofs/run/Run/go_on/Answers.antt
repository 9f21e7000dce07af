use Rattle.std.proofs.Common.{sym, subst}
use Rattle.c_typed.specs.StatementViews.{stmt_view}
use Rattle.c_meaning.specs.declared.run.Did.TheVariants as did
use Rattle.c_meaning.specs.declared.task.StmtWork.{StmtWork}
use Rattle.c_meaning.specs.declared.task.Task.TheVariants as task
use Rattle.c_meaning.specs.Owes.{CanTake, Takes}
use Rattle.c_meaning.specs.Runs.{types_of}
use Rattle.c_meaning.specs.TaskViews.{task_view}
use Rattle.c_meaning.proofs.TakingSteps.{after, choice_planned, tested_planned, again_planned, round_planned}
use Rattle.c_meaning.proofs.run.Run.go_on.Goals as goal

pub returns-in_ok-plan_choice-in-Choose : goal.returns-in_ok-plan_choice-in-Choose
returns-in_ok-plan_choice-in-Choose c =
    let types = types_of c.args.at.program.now in
    subst (λ (w : StmtWork). Takes c.args.at c.args.self.now (task_view types (task.Stmt w c.args.stmt)) (after c.args.at c.args.self.now c.plan_choice.new.tasks c.take-test.new.self) did.Went)
    (sym c.in-Choose.is)
    (choice_planned c.args.at c.args.self.now (stmt_view types c.args.stmt.now) c.plan_choice.new.tasks c.take-test.result c.take-test.new.self
    c.take-test.ensures.value c.take-test.ensures.rest
    (subst (λ (w : StmtWork). CanTake c.args.at c.args.self.now (task_view types (task.Stmt w c.args.stmt))) c.in-Choose.is c.requires.can)
    (c.in_ok-plan_choice-in-Choose.ensures types))

pub returns-in_ok-plan_tested-in-Tested : goal.returns-in_ok-plan_tested-in-Tested
returns-in_ok-plan_tested-in-Tested c =
    let types = types_of c.args.at.program.now in
    subst (λ (w : StmtWork). Takes c.args.at c.args.self.now (task_view types (task.Stmt w c.args.stmt)) (after c.args.at c.args.self.now c.plan_tested.new.tasks c.take-test-in-Tested.new.self) did.Went)
    (sym c.in-Tested.is)
    (tested_planned c.args.at c.args.self.now (stmt_view types c.args.stmt.now) c.plan_tested.new.tasks c.take-test-in-Tested.result c.take-test-in-Tested.new.self
    c.take-test-in-Tested.ensures.value c.take-test-in-Tested.ensures.rest
    (subst (λ (w : StmtWork). CanTake c.args.at c.args.self.now (task_view types (task.Stmt w c.args.stmt))) c.in-Tested.is c.requires.can)
    (c.in_ok-plan_tested-in-Tested.ensures types))

pub returns-in_ok-plan_again-in-Again : goal.returns-in_ok-plan_again-in-Again
returns-in_ok-plan_again-in-Again c =
    let types = types_of c.args.at.program.now in
    subst (λ (w : StmtWork). Takes c.args.at c.args.self.now (task_view types (task.Stmt w c.args.stmt)) (after c.args.at c.args.self.now c.plan_again.new.tasks c.take-test-in-Again.new.self) did.Went)
    (sym c.in-Again.is)
    (again_planned c.args.at c.args.self.now (stmt_view types c.args.stmt.now) c.plan_again.new.tasks c.take-test-in-Again.result c.take-test-in-Again.new.self
    c.take-test-in-Again.ensures.value c.take-test-in-Again.ensures.rest
    (subst (λ (w : StmtWork). CanTake c.args.at c.args.self.now (task_view types (task.Stmt w c.args.stmt))) c.in-Again.is c.requires.can)
    (c.in_ok-plan_again-in-Again.ensures types))

pub returns-in_ok-plan_round-in-AfterBody : goal.returns-in_ok-plan_round-in-AfterBody
returns-in_ok-plan_round-in-AfterBody c =
    let types = types_of c.args.at.program.now in
    subst (λ (w : StmtWork). Takes c.args.at c.args.self.now (task_view types (task.Stmt w c.args.stmt)) (after c.args.at c.args.self.now c.plan_round.new.tasks c.args.self.now.values) did.Went)
    (sym c.in-AfterBody.is)
    (round_planned c.args.at c.args.self.now (stmt_view types c.args.stmt.now) c.plan_round.new.tasks
    (subst (λ (w : StmtWork). CanTake c.args.at c.args.self.now (task_view types (task.Stmt w c.args.stmt))) c.in-AfterBody.is c.requires.can)
    (c.in_ok-plan_round-in-AfterBody.ensures types))
