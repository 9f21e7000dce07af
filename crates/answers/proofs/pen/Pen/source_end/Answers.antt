use Rattle.answers.proofs.pen.Pen.source_end.Goals as goal

pub returns-in-Trap-clause-wrote : goal.returns-in-Trap-clause-wrote
returns-in-Trap-clause-wrote g c = rw c.in-Trap.is c.stopped.ensures.wrote
