use Rattle.c_values.specs.Answers.{MeansTerm}
use Rattle.c_known.proofs.Binding.{answers-give}
use Rattle.c_known.proofs.known.Known.constant.Goals as goal

pub returns : goal.returns
returns c = answers-give MeansTerm c.args.self.now c.number_term.result _ (c.number_term.ensures c.args.self.now.types)
