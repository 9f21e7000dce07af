use Rattle.std.proofs.Common.{ap, sym, ◌∙◌}
use Rattle.c_typed.specs.declared.statement.StmtNode.TheVariants as sn
use Rattle.c_meaning.proofs.StatementRows as rows
use Rattle.c_meaning.proofs.statement_plans.plan_statement.Goals as goal

pub returns-in-Block : goal.returns-in-Block
returns-in-Block c = rows.block-row c.args.stmt.now c.block.result c.args.tasks.now c.block.new.tasks c.get.result.now
    (c.in-Block.is ∙ ap sn.Block (sym c.get.ensures)) c.block.ensures

pub returns-in-Empty : goal.returns-in-Empty
returns-in-Empty c = rows.empty-row c.args.stmt.now c.args.tasks.now c.in-Empty.is

pub returns-in-Empty-2 : goal.returns-in-Empty-2
returns-in-Empty-2 c = rows.empty-row c.args.stmt.now c.args.tasks.now c.in-Empty.is

pub returns-in-Empty-3 : goal.returns-in-Empty-3
returns-in-Empty-3 c = rows.empty-row c.args.stmt.now c.args.tasks.now c.in-Empty.is

pub returns-in-Value : goal.returns-in-Value
returns-in-Value c = rows.value-row c.args.stmt.now c.dropped.result c.args.tasks.now c.dropped.new.tasks c.in-Value.value c.in-Value.is c.dropped.ensures

pub returns-in-If : goal.returns-in-If
returns-in-If c = rows.if-row c.args.stmt.now c.then.result c.args.tasks.now c.then.new.tasks c.in-If.test
    (c.in-If.field-1, c.in-If.field-2, c.in-If.is) c.then.ensures

pub returns-in-While : goal.returns-in-While
returns-in-While c = rows.loop-row c.args.stmt.now c.top.result c.args.tasks.now c.top.new.tasks c.in-While.is c.top.ensures

pub returns-in-For : goal.returns-in-For
returns-in-For c = rows.for-row c.args.stmt.now c.begin_for.result c.args.tasks.now c.begin_for.new.tasks c.in-For.head
    (c.in-For.field-1, c.in-For.is) c.begin_for.ensures

pub returns-in-None : goal.returns-in-None
returns-in-None c = rows.no_value-row c.args.stmt.now c.args.tasks.now (c.in-Return.is ∙ ap sn.Return c.in-None.is)

pub returns-in-Some : goal.returns-in-Some
returns-in-Some c = rows.return-row c.args.stmt.now c.returned.result c.args.tasks.now c.returned.new.tasks c.in-Some.value
    (c.in-Return.is ∙ ap sn.Return c.in-Some.is) c.returned.ensures
