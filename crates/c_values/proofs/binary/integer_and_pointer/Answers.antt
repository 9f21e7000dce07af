use Rattle.typing_rules.specs.Terms as terms
use Rattle.c_values.proofs.binary.integer_and_pointer.Goals as goal

pub returns : goal.returns
returns c t v w stands a b = c.sum.ensures c.args.types.now t (terms.promoted_value v) w stands (c.in_ok-a.ensures v a) b
