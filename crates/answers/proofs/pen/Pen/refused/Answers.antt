use Rattle.answers.proofs.Writing.{then, one_line}
use Rattle.answers.proofs.pen.Pen.refused.Goals as goal

pub returns-clause-wrote : goal.returns-clause-wrote
returns-clause-wrote g c = one_line (then (then c.text.ensures.wrote c.refusal.ensures.wrote) c.text-2.ensures.wrote)
