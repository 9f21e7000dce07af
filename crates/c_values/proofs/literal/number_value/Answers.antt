use Rattle.std.proofs.Common.{refl, ap, ◌∙◌}
use Rattle.c_types.specs.declared.type_ref.TypeRef.TheVariants as ref
use Rattle.c_types.specs.Types.{integer}
use Rattle.c_types.specs.Table.{type_at}
use Rattle.c_typed.specs.Typed as tree
use Rattle.c_typed.specs.declared.constant.Constant.TheVariants.{Value as Known}
use Rattle.c_typed.specs.declared.value.ValueNode.TheVariants as vn
use Rattle.c_typed.proofs.ViewLaws.{view_constant}
use Rattle.c_values.proofs.Means.{makes, integer-stands, number-constant}
use Rattle.c_values.proofs.literal.number_value.Goals as goal

pub returns : goal.returns
returns c rows =
    makes rows c.make.result c.args.line (ref.Integer c.args.ty) (vn.Constant c.args.number) (Known c.from.result) c.make.ensures
    (integer c.args.ty) (integer-stands rows c.args.ty) c.args.line refl (tree.constant c.args.number)
    (λ later more. view_constant (type_at later) c.args.number)
    (ap Known c.from.ensures ∙ number-constant c.args.line c.args.ty c.args.number)
