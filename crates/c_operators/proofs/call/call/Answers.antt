use Rattle.std.proofs.Common.{refl, ap, ◌∙◌, subst}
use Rattle.c_types.specs.Types.{result_of}
use Rattle.c_types.specs.Table.{type_at, Stands}
use Rattle.c_typed.specs.Typed as tree
use Rattle.c_typed.specs.declared.constant.Constant.TheVariants.{NoForm}
use Rattle.c_typed.specs.declared.value.ValueNode.TheVariants as vn
use Rattle.c_typed.proofs.ViewLaws.{view_call}
use Rattle.c_values.proofs.Means.{makes, stands-now, no-constant-call}
use Rattle.c_operators.proofs.call.call.Goals as goal

pub returns : goal.returns
returns c t vs stands m =
    let rows = c.args.types.now in
    makes rows c.make.result c.args.line c.result-to.result (vn.Call c.args.at c.args.number c.args.arguments) NoForm c.make.ensures
    (result_of t) (subst (λ u. Stands rows c.result-to.result (result_of u)) (stands-now rows _ _ stands) c.result-to.ensures) c.args.line refl (tree.call c.args.at c.args.number vs)
    (λ later more. view_call (type_at later) c.args.at c.args.number c.args.arguments ∙ ap (tree.call c.args.at c.args.number) (m.always later more))
    (no-constant-call c.args.line c.args.at c.args.number (result_of t) vs)
