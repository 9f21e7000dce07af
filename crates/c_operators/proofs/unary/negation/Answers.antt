use Rattle.std.proofs.Common.{refl, ap, ◌∙◌}
use Rattle.srmt_base.specs.declared.ty.Ty.TheVariants.{Int}
use Rattle.c_types.specs.declared.type_ref.TypeRef.TheVariants as ref
use Rattle.c_types.specs.Types.{integer}
use Rattle.c_types.specs.Table.{type_at}
use Rattle.c_typed.specs.Typed as tree
use Rattle.c_typed.specs.declared.value.ValueNode.TheVariants as vn
use Rattle.c_typed.proofs.ViewLaws.{view_negation}
use Rattle.c_values.proofs.Means.{makes, integer-stands, negation-constant}
use Rattle.c_operators.proofs.unary.negation.Goals as goal

pub returns : goal.returns
returns c rows v m =
    makes rows c.make.result c.args.line (ref.Integer Int) (vn.Negation c.args.a.value) c.opposite-constant.result c.make.ensures
    (integer Int) (integer-stands rows Int) c.args.line refl (tree.negation v)
    (λ later more. view_negation (type_at later) c.args.a.value ∙ ap tree.negation (m.value.always later more))
    (negation-constant c.args.line (integer Int) _ _ _ c.opposite-constant.ensures m.constant)
