use Rattle.std.proofs.Common.{◌∙◌, ap, arith, ◌<◌}
use Rattle.std.proofs.lemmas.Bool.Decides.{nat_tests}
use Rattle.srmt_base.specs.declared.op.Op.TheVariants.{Shl}
use Rattle.srmt_base.specs.Types.{width_of}
use Rattle.srmt_base.specs.Arith.{arith_of, bits_at}
use Rattle.c_starts.specs.Wide.{fitted}
use Rattle.c_starts.proofs.Wide.{shl-fit}
use Rattle.c_starts.proofs.computing.shift_left.Goals as goal

pub returns-then-b-from : goal.returns-then-b-from
returns-then-b-from c =
    let below : bits_at c.args.ty c.args.b < width_of c.args.ty = grind (arith, nat_tests) in
    c.fitted.ensures ∙ ap (fitted c.args.ty) (c.arith.ensures.exact ∙ ap (λ w. arith_of Shl w c.args.a c.args.b) c.wide.ensures.exact)
    ∙ shl-fit c.args.ty c.args.a c.args.b below
