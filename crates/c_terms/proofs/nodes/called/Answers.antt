use Rattle.c_values.specs.Answers.{MeansTerm}
use Rattle.c_known.proofs.Growing.{answers-grown}
use Rattle.typing_rules.specs.OrderedParts as ordered
use Rattle.c_terms.proofs.nodes.called.Goals as goal

pub returns : goal.returns
returns c t mt = answers-grown MeansTerm c.args.known.now c.called.new.types c.called.result (ordered.called t) c.called.ensures.kept (c.called.ensures.value t mt)
