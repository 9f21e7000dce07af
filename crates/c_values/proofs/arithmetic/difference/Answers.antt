use Rattle.std.proofs.Common.{refl, ◌∙◌}
use Rattle.std.proofs.lemmas.Result.{IfOk-weaker}
use Rattle.c_types.specs.Table.{type_at}
use Rattle.c_typed.specs.Typed as tree
use Rattle.c_typed.specs.declared.constant.Constant.TheVariants.{NoForm}
use Rattle.c_typed.specs.declared.value.ValueNode.TheVariants as vn
use Rattle.c_typed.proofs.ViewLaws.{view_difference}
use Rattle.c_values.proofs.Means.{made-means, no-constant-difference}
use Rattle.c_values.proofs.arithmetic.difference.Goals as goal

pub returns : goal.returns
returns c rows t v w stands a b =
    IfOk-weaker c.make.result _ _
    (λ r made. made-means rows r c.args.line c.args.ty (vn.Difference c.args.at c.args.a.value c.args.b.value) NoForm made t stands c.args.line refl (tree.difference c.args.at v w)
    (λ later more. view_difference (type_at later) c.args.at c.args.a.value c.args.b.value ∙ (λ i. tree.difference c.args.at (a.value.always later more i) (b.value.always later more i)))
    (no-constant-difference c.args.line c.args.at t v w))
    c.make.ensures
