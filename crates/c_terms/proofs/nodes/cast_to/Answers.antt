use Rattle.c_values.specs.Answers.{MeansTerm}
use Rattle.c_known.proofs.Binding.{answers-give}
use Rattle.typing_rules.specs.OrderedParts as ordered
use Rattle.c_terms.proofs.nodes.cast_to.Goals as goal

pub returns : goal.returns
returns c t mt w mw = answers-give MeansTerm c.args.known.now c.cast_to.result (ordered.cast_to c.args.line t w) (c.cast_to.ensures t mt w mw)
