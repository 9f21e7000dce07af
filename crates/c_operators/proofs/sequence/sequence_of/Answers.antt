use Rattle.c_operators.proofs.sequence.sequence_of.Goals as goal

pub returns : goal.returns
returns c rows ws m w n = c.result_of.ensures rows _ (c.sequence.ensures rows ws w m n.typed)
