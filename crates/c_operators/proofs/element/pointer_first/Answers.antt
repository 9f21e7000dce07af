use Rattle.std.proofs.Common.{true, ◌∙◌}
use Rattle.std.proofs.lemmas.Result.{IfOk-at_ok}
use Rattle.c_types.specs.Table.{type_at}
use Rattle.c_typed.specs.Typed as tree
use Rattle.c_typed.proofs.ViewLaws.{view_element}
use Rattle.typing_rules.specs.Terms as terms
use Rattle.c_values.specs.Stand.{MeansTyped}
use Rattle.c_operators.proofs.element.pointer_first.Goals as goal

pub returns : goal.returns
returns c q v w stands m n =
    let rows = c.args.types.now in
    let b = IfOk-at_ok (λ x. MeansTyped rows x (terms.promoted_value w)) c.in_ok-b.ensures (c.promoted_value.ensures w n) in
    c.object.ensures rows (tree.element c.args.at true v (terms.promoted_value w)) q stands (record {
      always = λ later more.
          view_element (type_at later) c.args.at true c.args.a.value c.in_ok-b.b.value
          ∙ (λ i. tree.element c.args.at true (m.value.always later more i) (b.value.always later more i));
    })
