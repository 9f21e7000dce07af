use Rattle.c_values.proofs.literal.number_term.Goals as goal

pub returns : goal.returns
returns c rows = c.result_of.ensures rows _ (c.number_value.ensures rows)
