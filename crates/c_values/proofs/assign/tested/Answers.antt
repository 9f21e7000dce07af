use Rattle.std.proofs.Common.{◌∙◌}
use Rattle.std.proofs.lemmas.Result.{IfOk-weaker}
use Rattle.c_types.specs.Table.{type_at}
use Rattle.c_typed.specs.Typed.{to_bool}
use Rattle.c_typed.specs.declared.constant.Constant.TheVariants.{NoForm}
use Rattle.c_typed.specs.declared.value.ValueNode.TheVariants as vn
use Rattle.c_typed.proofs.ViewLaws.{view_to_bool}
use Rattle.c_values.proofs.Means.{made-means, no-constant-to_bool}
use Rattle.c_values.proofs.assign.tested.Goals as goal

pub returns : goal.returns
returns c t w stands m =
    IfOk-weaker c.make.result _ _
    (λ r made. made-means c.args.types.now r c.args.operand.first c.args.to (vn.ToBool c.args.operand.first c.args.operand.typed.value) NoForm made t stands w.first m.first (to_bool w.first w.value)
    (λ later more. view_to_bool (type_at later) c.args.operand.first c.args.operand.typed.value ∙ (λ i. to_bool (m.first i) (m.typed.value.always later more i)))
    (no-constant-to_bool w.first w.first t w.value))
    c.make.ensures
