use Rattle.std.proofs.Common.{Some}
use Rattle.c_types.specs.Table.{type_at}
use Rattle.c_typed.specs.Views.{qualified_from}
use Rattle.typing_rules.specs.OrderedParts.{meant as meant_in_order}
use Rattle.c_values.specs.Answers.{MeansTerm}
use Rattle.c_known.specs.Gives.{Gives}
use Rattle.c_known.specs.declared.local.Meaning.TheVariants as meaning
use Rattle.c_known.proofs.Growing.{meant-as, linked-stands}
use Rattle.c_known.proofs.known.Known.meant.Goals as goal

pub returns-in-Local : goal.returns-in-Local
returns-in-Local c = λ m means.
    meant-as c.args.self.now.types c.args.meaning (meaning.Local c.in-Local.number) m means c.in-Local.is
    (λ x. Gives MeansTerm c.args.self.now c.local.new.self c.local.result (meant_in_order c.args.line (Some x))) c.local.ensures

pub returns-in-Linked : goal.returns-in-Linked
returns-in-Linked c = λ m means.
    meant-as c.args.self.now.types c.args.meaning (meaning.Linked c.in-Linked.number c.in-Linked.ty) m means c.in-Linked.is
    (λ x. Gives MeansTerm c.args.self.now c.linked.new.self c.linked.result (meant_in_order c.args.line (Some x)))
    (c.linked.ensures (qualified_from (type_at c.args.self.now.types) c.in-Linked.ty) (linked-stands c.args.self.now.types c.args.meaning m c.in-Linked.number c.in-Linked.ty c.in-Linked.is means))

pub returns-in-Predeclared : goal.returns-in-Predeclared
returns-in-Predeclared c = λ m means.
    meant-as c.args.self.now.types c.args.meaning (meaning.Predeclared c.in-Predeclared.of) m means c.in-Predeclared.is
    (λ x. Gives MeansTerm c.args.self.now c.predeclared.new.self c.predeclared.result (meant_in_order c.args.line (Some x))) c.predeclared.ensures

pub returns-in-Constant : goal.returns-in-Constant
returns-in-Constant c = λ m means.
    meant-as c.args.self.now.types c.args.meaning (meaning.Constant c.in-Constant.number) m means c.in-Constant.is
    (λ x. Gives MeansTerm c.args.self.now c.constant.new.self c.constant.result (meant_in_order c.args.line (Some x))) c.constant.ensures
