use Rattle.c_terms.proofs.steps.stepped_before.Goals as goal

pub returns : goal.returns
returns c t mt = c.stepped.ensures t mt
