use Rattle.std.proofs.Common.{◌≡◌, refl, ap, ◌∙◌, subst}
use Rattle.c_types.specs.Types.{pointer_to}
use Rattle.c_types.specs.Table.{type_at, qualified_at, Stands}
use Rattle.c_typed.specs.Typed as tree
use Rattle.c_typed.specs.declared.constant.Constant.TheVariants.{NoForm}
use Rattle.c_typed.specs.declared.value.ValueNode.TheVariants as vn
use Rattle.c_typed.proofs.ViewLaws.{view_address}
use Rattle.c_values.proofs.Means.{makes, got-place, qualified-now, later-place, no-constant-address}
use Rattle.c_values.proofs.place.address_of_place.Goals as goal

pub returns-clause-value : goal.returns-clause-value
returns-clause-value c q m =
    let old = c.args.types.now in
    let new = c.pointer_to.new.self in
    let later = later-place old new c.args.place q c.pointer_to.ensures.kept m in
    let at : qualified_at old c.get.result.now.ty ≡ tree.place_type q = qualified-now old _ _ (got-place old c.get.result.now c.args.place q c.get.ensures m) in
    makes new c.make.result c.args.line c.in_ok-to.to (vn.Address c.args.place) NoForm c.make.ensures (pointer_to (tree.place_type q))
    (subst (λ t. Stands new c.in_ok-to.to (pointer_to t)) at c.in_ok-to.ensures.made) c.args.line refl (tree.address q)
    (λ last more. view_address (type_at last) c.args.place ∙ ap tree.address (later.always last more)) (no-constant-address c.args.line (pointer_to (tree.place_type q)) q)
