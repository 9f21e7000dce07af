use Rattle.std.proofs.Common.{refl, sym, ◌∙◌, subst}
use Rattle.c_types.specs.Table.{type_at}
use Rattle.c_typed.specs.Typed as tree
use Rattle.c_typed.specs.declared.constant.Constant.TheVariants.{NoForm}
use Rattle.c_typed.specs.declared.value.ValueNode.TheVariants as vn
use Rattle.c_typed.proofs.ViewLaws.{view_sequence}
use Rattle.typing_rules.specs.Terms as terms
use Rattle.c_values.specs.Answers.{MeanValues}
use Rattle.c_values.proofs.Means.{makes, got-stands, no-constant-sequence}
use Rattle.c_operators.proofs.Passing.{values-mean}
use Rattle.c_operators.proofs.sequence.sequence.Goals as goal

pub returns : goal.returns
returns c rows ws w m n =
    let values = subst (λ z. MeanValues rows z (terms.values_of ws)) (sym c.in_ok-values.ensures) (values-mean rows c.args.dropped.items ws m) in
    makes rows c.make.result c.args.line c.get.result.now.ty (vn.Sequence c.in_ok-values.values c.args.last.value) NoForm c.make.ensures
    (tree.type_of w.value) (got-stands rows c.get.result.now c.args.last.value w.value c.get.ensures n.value) c.args.line refl (tree.sequence (terms.values_of ws) w.value)
    (λ later more. view_sequence (type_at later) c.in_ok-values.values c.args.last.value ∙ (λ i. tree.sequence (values.always later more i) (n.value.always later more i)))
    (no-constant-sequence c.args.line (tree.type_of w.value) (terms.values_of ws) w.value)
