use Rattle.std.proofs.Common.{refl, ◌∙◌}
use Rattle.std.proofs.lemmas.Result.{IfOk-weaker}
use Rattle.c_types.specs.Table.{type_at}
use Rattle.c_typed.specs.Typed as tree
use Rattle.c_typed.specs.declared.value.ValueNode.TheVariants as vn
use Rattle.c_typed.proofs.ViewLaws.{view_arithmetic}
use Rattle.c_values.proofs.Means.{made-means, arithmetic-constant}
use Rattle.c_values.proofs.arithmetic.arithmetic.Goals as goal

pub returns : goal.returns
returns c rows t v w stands a b same =
    IfOk-weaker c.make.result _ _
    (λ r made. made-means rows r c.args.line c.args.ty (vn.Arithmetic c.args.op c.args.at c.args.a.value c.args.b.value) c.computed-constant.result made t stands c.args.line refl (tree.arithmetic c.args.op c.args.at v w)
    (λ later more. view_arithmetic (type_at later) c.args.op c.args.at c.args.a.value c.args.b.value ∙ (λ i. tree.arithmetic c.args.op c.args.at (a.value.always later more i) (b.value.always later more i)))
    (arithmetic-constant c.args.op c.args.at c.args.line c.args.computes t _ _ _ v w c.computed-constant.ensures a.constant b.constant same))
    c.make.ensures
