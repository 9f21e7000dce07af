use Rattle.c_values.specs.Stand.{MeansWritten}
use Rattle.c_known.proofs.Growing.{answers-grown}
use Rattle.c_terms.specs.Nodes as node
use Rattle.c_terms.proofs.nodes.written.Goals as goal

pub returns : goal.returns
returns c t mt = answers-grown MeansWritten c.args.known.now c.written.new.types c.written.result (node.valued_of c.args.first t) c.written.ensures.kept (c.written.ensures.value t mt)
