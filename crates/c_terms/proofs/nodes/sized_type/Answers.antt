use Rattle.c_values.specs.Answers.{MeansTerm}
use Rattle.c_known.proofs.Binding.{answers-give}
use Rattle.typing_rules.specs.OrderedParts as ordered
use Rattle.c_terms.proofs.nodes.sized_type.Goals as goal

pub returns : goal.returns
returns c t mt = answers-give MeansTerm c.args.known.now c.sized.result (ordered.sized c.args.line t.type) (c.sized.ensures t.type mt.type)
