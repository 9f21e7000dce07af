use Rattle.std.proofs.Common.{◌∙◌, ap, arith}
use Rattle.std.proofs.lemmas.Int.{ints}
use Rattle.srmt_base.specs.Arith.{reduced}
use Rattle.srmt_base.proofs.arithmetic.arith.Goals as goal

pub returns-in-Add-clause-exact : goal.returns-in-Add-clause-exact
returns-in-Add-clause-exact c = rw c.in-Add.is (c.reduce.ensures.exact ∙ ap (reduced c.args.ty) (omega (arith, ints)))

pub returns-in-Sub-clause-exact : goal.returns-in-Sub-clause-exact
returns-in-Sub-clause-exact c = rw c.in-Sub.is (c.reduce-in-Sub.ensures.exact ∙ ap (reduced c.args.ty) (omega (arith, ints)))
