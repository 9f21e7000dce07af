use Rattle.std.proofs.Common.{refl, ◌∙◌, subst}
use Rattle.c_types.specs.Types.{result_of}
use Rattle.c_types.specs.Table.{type_at, Stands}
use Rattle.c_typed.specs.Typed as tree
use Rattle.c_typed.specs.declared.constant.Constant.TheVariants.{NoForm}
use Rattle.c_typed.specs.declared.value.ValueNode.TheVariants as vn
use Rattle.c_typed.proofs.ViewLaws.{view_call_through}
use Rattle.c_values.proofs.Means.{makes, stands-now, no-constant-call_through}
use Rattle.c_operators.proofs.call.call_through.Goals as goal

pub returns : goal.returns
returns c t v vs stands m n =
    let rows = c.args.types.now in
    c.result_of.ensures rows _
    (makes rows c.make.result c.args.line c.result-to.result (vn.CallThrough c.args.at c.args.callee.value c.args.arguments) NoForm c.make.ensures
    (result_of t) (subst (λ u. Stands rows c.result-to.result (result_of u)) (stands-now rows _ _ stands) c.result-to.ensures) c.args.line refl (tree.call_through c.args.at v vs)
    (λ later more. view_call_through (type_at later) c.args.at c.args.callee.value c.args.arguments ∙ (λ i. tree.call_through c.args.at (m.value.always later more i) (n.always later more i)))
    (no-constant-call_through c.args.line c.args.at (result_of t) v vs))
