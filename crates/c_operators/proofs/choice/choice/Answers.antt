use Rattle.std.proofs.Common.{refl, ◌∙◌}
use Rattle.c_types.specs.Table.{type_at}
use Rattle.c_typed.specs.Typed as tree
use Rattle.c_typed.specs.declared.value.ValueNode.TheVariants as vn
use Rattle.c_typed.proofs.ViewLaws.{view_choice}
use Rattle.c_values.proofs.Means.{makes, choice-constant}
use Rattle.c_operators.proofs.choice.choice.Goals as goal

pub returns : goal.returns
returns c rows t u v w stands l m n =
    makes rows c.make.result c.args.line c.args.ty (vn.Choice c.args.test.value c.args.a.value c.args.b.value) c.chosen-constant.result c.make.ensures
    t stands c.args.line refl (tree.choice u v w)
    (λ later more. view_choice (type_at later) c.args.test.value c.args.a.value c.args.b.value
    ∙ (λ i. tree.choice (l.value.always later more i) (m.value.always later more i) (n.value.always later more i)))
    (choice-constant c.args.line t _ _ _ _ u v w c.chosen-constant.ensures l.constant m.constant n.constant)
