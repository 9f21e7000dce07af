use Rattle.std.proofs.Common.{false, sym, subst}
use Rattle.typing_rules.specs.Terms.{change_by}
use Rattle.typing_rules.specs.OrderedParts as ordered
use Rattle.c_values.specs.Answers.{MeansTerm}
use Rattle.c_known.specs.Gives.{Gives}
use Rattle.c_known.proofs.Binding.{answers-give}
use Rattle.c_terms.specs.Nodes as node
use Rattle.c_terms.proofs.steps.assignment.Goals as goal

pub returns-in-None : goal.returns-in-None
returns-in-None c t w mt mw =
    subst (λ z. Gives MeansTerm c.args.known.now c.args.known.now c.assigned.result (node.assignment_of z c.args.line c.args.first c.args.at t w)) (sym c.in-None.is)
    (answers-give MeansTerm c.args.known.now c.assigned.result (ordered.assigned c.args.line c.args.at t w) (c.assigned.ensures t w mt mw))

pub returns-in-Some : goal.returns-in-Some
returns-in-Some c t w mt mw =
    subst (λ z. Gives MeansTerm c.args.known.now c.args.known.now c.changed.result (node.assignment_of z c.args.line c.args.first c.args.at t w)) (sym c.in-Some.is)
    (subst (λ z. Gives MeansTerm c.args.known.now c.args.known.now c.changed.result (ordered.changed c.args.line (change_by false c.args.first z c.args.at) t w)) c.op.ensures
    (answers-give MeansTerm c.args.known.now c.changed.result (ordered.changed c.args.line (change_by false c.args.first c.op.result c.args.at) t w) (c.changed.ensures t w mt mw)))
