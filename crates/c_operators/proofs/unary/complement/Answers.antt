use Rattle.std.proofs.Common.{refl, ap, ◌∙◌}
use Rattle.c_types.specs.declared.type_ref.TypeRef.TheVariants as ref
use Rattle.c_types.specs.Types.{integer}
use Rattle.c_types.specs.Table.{type_at}
use Rattle.c_typed.specs.Typed as tree
use Rattle.c_typed.specs.declared.value.ValueNode.TheVariants as vn
use Rattle.c_typed.proofs.ViewLaws.{view_complement}
use Rattle.typing_rules.specs.Terms as terms
use Rattle.c_values.proofs.Means.{makes, integer-stands, complement-constant}
use Rattle.c_operators.proofs.unary.complement.Goals as goal

pub returns : goal.returns
returns c w m =
    let rows = c.args.types.now in
    let b = c.in_ok-a.ensures w m in
    makes rows c.make.result c.args.line (ref.Integer c.args.ty) (vn.Complement c.in_ok-a.a.value) c.complement-constant.result c.make.ensures
    (integer c.args.ty) (integer-stands rows c.args.ty) c.args.line refl (tree.complement (terms.converted c.args.ty w))
    (λ later more. view_complement (type_at later) c.in_ok-a.a.value ∙ ap tree.complement (b.value.always later more))
    (complement-constant c.args.line (integer c.args.ty) _ _ _ c.complement-constant.ensures b.constant)
