use Rattle.answers.proofs.Writing.{then}
use Rattle.answers.proofs.pen.Pen.words.Goals as goal

pub returns-clause-wrote : goal.returns-clause-wrote
returns-clause-wrote g c = then (then (then c.text.ensures.wrote c.word.ensures.wrote) c.text-2.ensures.wrote) c.word-2.ensures.wrote
