use Rattle.answers.proofs.Writing.{then}
use Rattle.answers.proofs.pen.Pen.located.Goals as goal

pub returns-clause-wrote : goal.returns-clause-wrote
returns-clause-wrote g c = then (then c.text.ensures.wrote c.text-2.ensures.wrote) c.place.ensures.wrote
