use Rattle.c_values.specs.Answers.{MeansTerm}
use Rattle.c_known.proofs.Binding.{answers-give}
use Rattle.typing_rules.specs.Checking.{pure}
use Rattle.typing_rules.specs.Terms as terms
use Rattle.c_terms.proofs.nodes.sequence_of.Goals as goal

pub returns : goal.returns
returns c ws mws w mw = answers-give MeansTerm c.args.known.now c.sequence_of.result (pure (terms.result (terms.sequence_of c.args.line ws w))) (c.sequence_of.ensures c.args.known.now.types ws mws w mw)
