use Rattle.std.proofs.Common.{false, ◌∙◌}
use Rattle.std.proofs.lemmas.Result.{IfOk-at_ok}
use Rattle.c_types.specs.Table.{type_at}
use Rattle.c_typed.specs.Typed as tree
use Rattle.c_typed.proofs.ViewLaws.{view_element}
use Rattle.typing_rules.specs.Terms as terms
use Rattle.c_values.specs.Stand.{MeansTyped}
use Rattle.c_operators.proofs.element.integer_first.Goals as goal

pub returns : goal.returns
returns c q v w stands m n =
    let rows = c.args.types.now in
    let a = IfOk-at_ok (λ x. MeansTyped rows x (terms.promoted_value v)) c.in_ok-a.ensures (c.promoted_value.ensures v m) in
    c.object.ensures rows (tree.element c.args.at false (terms.promoted_value v) w) q stands (record {
      always = λ later more.
          view_element (type_at later) c.args.at false c.in_ok-a.a.value c.args.b.value
          ∙ (λ i. tree.element c.args.at false (a.value.always later more i) (n.value.always later more i));
    })
