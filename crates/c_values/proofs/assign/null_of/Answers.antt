use Rattle.std.proofs.Common.{ap, ◌∙◌}
use Rattle.std.proofs.lemmas.Result.{IfOk-weaker}
use Rattle.c_types.specs.Table.{type_at}
use Rattle.c_typed.specs.Typed.{start_of, null}
use Rattle.c_typed.specs.declared.constant.Constant.TheVariants.{NoForm}
use Rattle.c_typed.specs.declared.value.ValueNode.TheVariants as vn
use Rattle.c_typed.proofs.ViewLaws.{view_null}
use Rattle.c_values.proofs.Means.{line-of-means, made-means, no-constant-null}
use Rattle.c_values.proofs.assign.null_of.Goals as goal

pub returns : goal.returns
returns c t v stands m =
    let line = ap (λ x. x.line) c.get.ensures ∙ line-of-means c.args.types.now c.args.operand.value v m.value in
    IfOk-weaker c.make.result _ _
    (λ r made. made-means c.args.types.now r c.get.result.now.line c.args.to vn.Null NoForm made t stands (start_of v) line null (λ later more. view_null (type_at later)) (no-constant-null (start_of v) t))
    c.make.ensures
