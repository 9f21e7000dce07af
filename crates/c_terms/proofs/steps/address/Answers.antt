use Rattle.c_values.specs.Answers.{MeansTerm, address_term}
use Rattle.c_known.proofs.Growing.{answers-grown}
use Rattle.c_terms.proofs.steps.address.Goals as goal

pub returns : goal.returns
returns c t mt = answers-grown MeansTerm c.args.known.now c.address.new.types c.address.result (address_term c.args.line t) c.address.ensures.kept (c.address.ensures.value t mt)
