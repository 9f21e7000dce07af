use Rattle.std.proofs.Common.{refl, ap, ◌∙◌}
use Rattle.c_types.specs.declared.type_ref.TypeRef.TheVariants as ref
use Rattle.c_types.specs.Types.{integer}
use Rattle.c_types.specs.Table.{type_at}
use Rattle.c_typed.specs.Typed as tree
use Rattle.c_typed.specs.declared.value.ValueNode.TheVariants as vn
use Rattle.c_typed.proofs.ViewLaws.{view_minus}
use Rattle.typing_rules.specs.Terms as terms
use Rattle.c_values.proofs.Means.{makes, integer-stands, minus-constant}
use Rattle.c_operators.proofs.unary.minus.Goals as goal

pub returns : goal.returns
returns c w m =
    let rows = c.args.types.now in
    let b = c.in_ok-a.ensures w m in
    makes rows c.make.result c.args.line (ref.Integer c.args.ty) (vn.Minus c.in_ok-a.a.value) c.minus-constant.result c.make.ensures
    (integer c.args.ty) (integer-stands rows c.args.ty) c.args.line refl (tree.minus (terms.converted c.args.ty w))
    (λ later more. view_minus (type_at later) c.in_ok-a.a.value ∙ ap tree.minus (b.value.always later more))
    (minus-constant c.args.ty c.args.line _ _ _ c.minus-constant.ensures b.constant)
