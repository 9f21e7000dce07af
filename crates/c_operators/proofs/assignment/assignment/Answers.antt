use Rattle.std.proofs.Common.{refl, ◌∙◌}
use Rattle.c_types.specs.Table.{type_at}
use Rattle.c_typed.specs.Typed as tree
use Rattle.c_typed.specs.declared.constant.Constant.TheVariants.{NoForm}
use Rattle.c_typed.specs.declared.value.ValueNode.TheVariants as vn
use Rattle.c_typed.proofs.ViewLaws.{view_assignment}
use Rattle.typing_rules.specs.Terms as terms
use Rattle.c_values.proofs.Means.{makes, got-place, no-constant-assignment}
use Rattle.c_operators.proofs.assignment.assignment.Goals as goal

pub returns : goal.returns
returns c q m w n =
    let rows = c.args.types.now in
    let to = (got-place rows c.get.result.now c.args.place q c.get.ensures m).type in
    let b = c.in_ok-a.ensures (tree.place_type q).type w to n in
    makes rows c.make.result c.args.line c.get.result.now.ty.target (vn.Assignment c.args.place c.in_ok-a.a.value) NoForm c.make.ensures
    (tree.place_type q).type to c.args.line refl (tree.assignment q (terms.converted_by c.args.form (tree.place_type q).type w))
    (λ later more. view_assignment (type_at later) c.args.place c.in_ok-a.a.value ∙ (λ i. tree.assignment (m.always later more i) (b.value.always later more i)))
    (no-constant-assignment c.args.line (tree.place_type q).type q _)
