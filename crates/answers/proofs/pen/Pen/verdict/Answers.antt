use Rattle.answers.proofs.pen.Pen.verdict.Goals as goal

pub returns-in-Undefined-clause-wrote : goal.returns-in-Undefined-clause-wrote
returns-in-Undefined-clause-wrote g c = rw c.in-Undefined.is (c.undefined.ensures.wrote)

pub returns-in-Exhausted-clause-wrote : goal.returns-in-Exhausted-clause-wrote
returns-in-Exhausted-clause-wrote g c = rw c.in-Exhausted.is (c.exhausted.ensures.wrote)

pub returns-in-Reported-clause-wrote : goal.returns-in-Reported-clause-wrote
returns-in-Reported-clause-wrote g c = rw c.in-Reported.is (c.reported.ensures.wrote)

pub returns-in-WriteFault-clause-wrote : goal.returns-in-WriteFault-clause-wrote
returns-in-WriteFault-clause-wrote g c = rw c.in-WriteFault.is (c.line.ensures.wrote)
