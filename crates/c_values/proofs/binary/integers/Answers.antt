use Rattle.typing_rules.specs.Terms as terms
use Rattle.c_values.proofs.Means.{converted-type}
use Rattle.c_values.proofs.binary.integers.Goals as goal

pub returns : goal.returns
returns c t v w stands a b =
    c.arithmetic.ensures c.args.types.now t (terms.converted c.args.computes v) (terms.converted c.args.computes w) stands
    (c.in_ok-a.ensures v a) (c.in_ok-b.ensures w b) (converted-type c.args.computes v)
