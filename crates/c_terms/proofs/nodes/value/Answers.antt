use Rattle.c_values.specs.Stand.{MeansTyped}
use Rattle.c_known.proofs.Growing.{answers-grown}
use Rattle.typing_rules.specs.OrderedParts as ordered
use Rattle.c_terms.proofs.nodes.value.Goals as goal

pub returns : goal.returns
returns c t mt = answers-grown MeansTyped c.args.known.now c.valued.new.types c.valued.result (ordered.valued t) c.valued.ensures.kept (c.valued.ensures.value t mt)
