use Rattle.c_values.specs.Answers.{MeansTarget}
use Rattle.c_known.proofs.Growing.{answers-grown}
use Rattle.typing_rules.specs.OrderedParts as ordered
use Rattle.c_terms.proofs.nodes.target_of.Goals as goal

pub returns : goal.returns
returns c t mt = answers-grown MeansTarget c.args.known.now c.target_of.new.types c.target_of.result (ordered.target_of t) c.target_of.ensures.kept (c.target_of.ensures.value t mt)
