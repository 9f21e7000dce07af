use Rattle.typing_rules.specs.Terms as terms
use Rattle.c_operators.proofs.unary.negation_of_integer.Goals as goal

pub returns : goal.returns
returns c w m = c.negation.ensures c.args.types.now (terms.promoted_value w) (c.in_ok-a.ensures w m)
