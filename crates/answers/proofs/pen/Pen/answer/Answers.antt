use Rattle.answers.proofs.pen.Pen.answer.Goals as goal

pub returns-in-Help-clause-wrote : goal.returns-in-Help-clause-wrote
returns-in-Help-clause-wrote g c = rw c.in-Help.is c.lines.ensures.wrote
