use Rattle.std.proofs.Common.{◌∙◌, ap, w64}
use Rattle.std.proofs.lemmas.Int.{quot_is}
use Rattle.srmt_base.specs.Arith.{reduced}
use Rattle.srmt_base.proofs.Integers.{int_eq-zero, int_div_fits}
use Rattle.srmt_base.proofs.arithmetic.divide.Goals as goal

pub returns-else-y-eq0-clause-exact : goal.returns-else-y-eq0-clause-exact
returns-else-y-eq0-clause-exact c =
    let fits = int_div_fits c.args.x c.args.y c.ranges.x c.requires.least in
    rw (int_eq-zero c.args.y c.if-y-eq0.false)
    (c.reduce.ensures.exact ∙ ap (reduced c.args.ty) (quot_is w64 c.args.x c.args.y c.ranges.x c.ranges.y fits))
