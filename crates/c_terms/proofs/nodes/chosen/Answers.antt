use Rattle.c_values.specs.Answers.{MeansTerm}
use Rattle.c_known.proofs.Growing.{answers-grown}
use Rattle.typing_rules.specs.OrderedParts as ordered
use Rattle.c_terms.proofs.nodes.chosen.Goals as goal

pub returns : goal.returns
returns c u mu v w mv mw = answers-grown MeansTerm c.args.known.now c.chosen.new.types c.chosen.result (ordered.chosen c.args.line c.args.at u v w) c.chosen.ensures.kept (c.chosen.ensures.term u v w mu mv mw)
