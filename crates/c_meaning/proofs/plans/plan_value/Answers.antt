use Rattle.c_meaning.specs.declared.task.Task.TheVariants as task
use Rattle.c_meaning.specs.declared.task.ValueWork.TheVariants as value_work
use Rattle.c_meaning.proofs.PlanRows as rows
use Rattle.c_meaning.proofs.plans.plan_value.Goals as goal

pub returns-in-Constant : goal.returns-in-Constant
returns-in-Constant c = rows.constant-row c.args.value.now c.args.tasks.now c.in-Constant.is

pub returns-in-Constant-2 : goal.returns-in-Constant-2
returns-in-Constant-2 c = rows.constant-row c.args.value.now c.args.tasks.now c.in-Constant.is

pub returns-in-Constant-3 : goal.returns-in-Constant-3
returns-in-Constant-3 c = rows.constant-row c.args.value.now c.args.tasks.now c.in-Constant.is

pub returns-in-Read : goal.returns-in-Read
returns-in-Read c =
    rows.read-row c.args.value.now c.read.result c.args.tasks.now c.read.new.tasks c.in-Read.place c.in-Read.is c.read.ensures

pub returns-in-FirstElement : goal.returns-in-FirstElement
returns-in-FirstElement c =
    rows.address-row c.args.value.now c.address.result c.args.tasks.now c.address.new.tasks c.in-FirstElement.place c.in-FirstElement.is c.address.ensures

pub returns-in-Minus : goal.returns-in-Minus
returns-in-Minus c =
    rows.one-row c.args.value.now c.one-in-Minus.result c.args.tasks.now c.one-in-Minus.new.tasks c.in-Minus.e c.in-Minus.is c.one-in-Minus.ensures

pub returns-in-Arithmetic : goal.returns-in-Arithmetic
returns-in-Arithmetic c =
    rows.two-row c.args.value.now c.two.result c.args.tasks.now c.two.new.tasks c.in-Arithmetic.a c.in-Arithmetic.b c.in-Arithmetic.is c.two.ensures

pub returns-in-Conjunction : goal.returns-in-Conjunction
returns-in-Conjunction c =
    rows.decided-row c.args.value.now c.one.result c.args.tasks.now c.one.new.tasks c.in-Conjunction.e c.in-Conjunction.is c.one.ensures

pub returns-in-Sequence : goal.returns-in-Sequence
returns-in-Sequence c =
    rows.sequence-row c.args.value.now c.in_sequence.result c.args.tasks.now c.in_sequence.new.tasks c.in-Sequence.dropped c.in-Sequence.last c.in-Sequence.is
    c.in_sequence.ensures

pub returns-in-Assignment : goal.returns-in-Assignment
returns-in-Assignment c =
    rows.assignment-row c.args.value.now c.assign.result c.args.tasks.now c.assign.new.tasks c.in-Assignment.place c.in-Assignment.e c.in-Assignment.is
    c.assign.ensures

pub returns-in-Update : goal.returns-in-Update
returns-in-Update c =
    rows.update-row c.args.value.now c.change.result c.args.tasks.now c.change.new.tasks c.in-Update.field-0 c.in-Update.place c.in-Update.e c.in-Update.is
    c.change.ensures

pub returns-in-Move : goal.returns-in-Move
returns-in-Move c =
    rows.move-row c.args.value.now c.change-in-Move.result c.args.tasks.now c.change-in-Move.new.tasks c.in-Move.field-0 c.in-Move.place c.in-Move.e
    c.in-Move.is c.change-in-Move.ensures

pub returns-in-Requalified : goal.returns-in-Requalified
returns-in-Requalified c =
    rows.same-row c.args.value.now c.same.result c.args.tasks.now c.same.new.tasks c.in-Requalified.e c.in-Requalified.is c.same.ensures

pub returns-in-Call : goal.returns-in-Call
returns-in-Call c =
    rows.call-row c.args.value.now c.call.result c.args.tasks.now c.call.new.tasks c.in-Call.field-0 c.in-Call.field-1 c.in-Call.arguments c.in-Call.is
    c.call.ensures

pub returns-in-CallThrough : goal.returns-in-CallThrough
returns-in-CallThrough c =
    rows.call_through-row c.args.value.now c.call_through.result c.args.tasks.now c.call_through.new.tasks c.in-CallThrough.field-0 c.in-CallThrough.callee
    c.in-CallThrough.arguments c.in-CallThrough.is c.call_through.ensures

pub returns-in-Getchar : goal.returns-in-Getchar
returns-in-Getchar c =
    rows.getchar-row c.args.value.now c.push.result c.args.tasks.now c.push.new.self c.in-Getchar.field-0 c.in-Getchar.is
    (rows.pushed c.push.result c.args.tasks.now c.push.new.self (task.Value value_work.Finish c.args.value) c.push.ensures)
