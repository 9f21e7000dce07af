use Rattle.c_values.specs.Answers.{MeansTerm}
use Rattle.c_known.proofs.Growing.{asks-answers}
use Rattle.c_known.proofs.known.Known.local.Goals as goal

pub returns : goal.returns
returns c = asks-answers MeansTerm c.args.self.now c.local_term.result _ (λ k h. c.local_term.ensures c.args.self.now.types _ (c.local_type.ensures k h))
