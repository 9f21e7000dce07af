use Rattle.std.proofs.Common.{refl, ap, ◌∙◌, subst}
use Rattle.c_types.specs.Table.{type_at}
use Rattle.c_typed.specs.Typed as tree
use Rattle.c_typed.specs.declared.constant.Constant.TheVariants.{NoForm}
use Rattle.c_typed.specs.declared.value.ValueNode.TheVariants as vn
use Rattle.c_typed.proofs.ViewLaws.{view_move}
use Rattle.c_values.specs.Stand.{Makes}
use Rattle.c_values.proofs.Means.{makes, got-place, no-constant-move}
use Rattle.c_operators.proofs.change.moved.Goals as goal

pub returns : goal.returns
returns c rows q m w n =
    let to = (got-place rows c.get.result.now c.args.place q c.get.ensures m).type in
    subst (λ less. Makes rows c.make.result (tree.value c.args.line (tree.place_type q).type (tree.move c.args.change.is_after q less c.args.change.at w))) c.is_difference.ensures
    (makes rows c.make.result c.args.line c.get.result.now.ty.target
    (vn.Move (record { is_after = c.args.change.is_after; is_less = c.is_difference.result; at = c.args.change.at }) c.args.place c.args.by.value) NoForm c.make.ensures
    (tree.place_type q).type to c.args.line refl (tree.move c.args.change.is_after q c.is_difference.result c.args.change.at w)
    (λ later more. view_move (type_at later) _ c.args.place c.args.by.value ∙ (λ i. tree.move c.args.change.is_after (m.always later more i) c.is_difference.result c.args.change.at (n.value.always later more i)))
    (no-constant-move c.args.line (tree.place_type q).type q w c.args.change.is_after c.is_difference.result c.args.change.at))
