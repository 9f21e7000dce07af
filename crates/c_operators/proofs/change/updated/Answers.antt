use Rattle.std.proofs.Common.{refl, ap, ◌∙◌, subst}
use Rattle.c_types.specs.Table.{type_at}
use Rattle.c_typed.specs.Typed as tree
use Rattle.c_typed.specs.declared.constant.Constant.TheVariants.{NoForm}
use Rattle.c_typed.specs.declared.value.ValueNode.TheVariants as vn
use Rattle.c_typed.proofs.ViewLaws.{view_update}
use Rattle.c_values.proofs.Means.{makes, got-place, no-constant-update}
use Rattle.c_operators.proofs.change.updated.Goals as goal

pub returns : goal.returns
returns c rows q m w n =
    let to = (got-place rows c.get.result.now c.args.place q c.get.ensures m).type in
    let x = c.args.change in
    makes rows c.make.result c.args.line c.get.result.now.ty.target
    (vn.Update (record { is_after = x.is_after; first = x.first; op = x.op; at = x.at; ty = c.args.ty }) c.args.place c.args.by.value) NoForm c.make.ensures
    (tree.place_type q).type to c.args.line refl (tree.update x.is_after q x.first x.op x.at c.args.ty w)
    (λ later more. view_update (type_at later) _ c.args.place c.args.by.value ∙ (λ i. tree.update x.is_after (m.always later more i) x.first x.op x.at c.args.ty (n.value.always later more i)))
    (no-constant-update c.args.line (tree.place_type q).type q w x.is_after x.first x.op x.at c.args.ty)
