use Rattle.std.proofs.Common.{◌≡◌, refl, ap, ◌∙◌, subst}
use Rattle.c_types.specs.Types.{pointer, plain}
use Rattle.c_types.specs.Table.{type_at, Stands}
use Rattle.c_typed.specs.Typed as tree
use Rattle.c_typed.specs.declared.constant.Constant.TheVariants.{NoForm}
use Rattle.c_typed.specs.declared.value.ValueNode.TheVariants as vn
use Rattle.c_typed.proofs.ViewLaws.{view_function}
use Rattle.c_values.proofs.Means.{makes, stands-now, no-constant-function}
use Rattle.c_values.proofs.place.function_value.Goals as goal

pub returns-clause-value : goal.returns-clause-value
returns-clause-value c t stands =
    let new = c.pointer_to.new.self in
    makes new c.make.result c.args.line c.in_ok-to.to (vn.Function c.args.number) NoForm c.make.ensures (pointer plain t)
    (subst (λ u. Stands new c.in_ok-to.to (pointer plain u)) (stands-now c.args.types.now _ _ stands) c.in_ok-to.ensures.made) c.args.line refl (tree.function c.args.number)
    (λ last more. view_function (type_at last) c.args.number) (no-constant-function c.args.line (pointer plain t) c.args.number)
