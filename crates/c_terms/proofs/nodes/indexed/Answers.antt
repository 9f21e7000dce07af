use Rattle.c_values.specs.Answers.{MeansTerm}
use Rattle.c_known.proofs.Binding.{answers-give}
use Rattle.typing_rules.specs.OrderedParts as ordered
use Rattle.c_terms.proofs.nodes.indexed.Goals as goal

pub returns : goal.returns
returns c v w mv mw = answers-give MeansTerm c.args.known.now c.indexed.result (ordered.indexed c.args.line c.args.at v w) (c.indexed.ensures v w mv mw)
