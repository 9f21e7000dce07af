use Rattle.typing_rules.specs.Terms as terms
use Rattle.c_values.proofs.binary.pointer_and_integer.Goals as goal

pub returns : goal.returns
returns c t v w stands a b = c.sum.ensures c.args.types.now t v (terms.promoted_value w) stands a (c.in_ok-b.ensures w b)
