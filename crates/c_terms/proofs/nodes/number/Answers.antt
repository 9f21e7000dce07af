use Rattle.c_values.specs.Answers.{MeansTerm}
use Rattle.c_known.proofs.Binding.{answers-give}
use Rattle.typing_rules.specs.Checking.{pure}
use Rattle.typing_rules.specs.Terms as terms
use Rattle.c_terms.proofs.nodes.number.Goals as goal

pub returns : goal.returns
returns c = answers-give MeansTerm c.args.known.now c.number_term.result (pure (terms.result (terms.number_value c.args.line c.args.ty c.args.number))) (c.number_term.ensures c.args.known.now.types)
