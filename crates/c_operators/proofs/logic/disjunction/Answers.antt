use Rattle.std.proofs.Common.{refl, ◌∙◌}
use Rattle.srmt_base.specs.declared.ty.Ty.TheVariants.{Int}
use Rattle.c_types.specs.declared.type_ref.TypeRef.TheVariants as ref
use Rattle.c_types.specs.Types.{integer}
use Rattle.c_types.specs.Table.{type_at}
use Rattle.c_typed.specs.Typed as tree
use Rattle.c_typed.specs.declared.value.ValueNode.TheVariants as vn
use Rattle.c_typed.proofs.ViewLaws.{view_disjunction}
use Rattle.c_values.proofs.Means.{makes, integer-stands, disjunction-constant}
use Rattle.c_operators.proofs.logic.disjunction.Goals as goal

pub returns : goal.returns
returns c rows v w m n =
    makes rows c.make.result c.args.line (ref.Integer Int) (vn.Disjunction c.args.a.value c.args.b.value) c.chosen-constant.result c.make.ensures
    (integer Int) (integer-stands rows Int) c.args.line refl (tree.disjunction v w)
    (λ later more. view_disjunction (type_at later) c.args.a.value c.args.b.value ∙ (λ i. tree.disjunction (m.value.always later more i) (n.value.always later more i)))
    (disjunction-constant c.args.line (integer Int) _ _ _ _ v w c.chosen-constant.ensures c.as_test-second.ensures m.constant n.constant)
