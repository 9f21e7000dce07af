use Rattle.std.proofs.Common.{◌≡◌, refl, ap, ◌∙◌, subst}
use Rattle.c_types.specs.Types.{decayed}
use Rattle.c_types.specs.Table.{type_at, Stands}
use Rattle.c_typed.specs.Typed as tree
use Rattle.c_typed.specs.declared.constant.Constant.TheVariants.{NoForm}
use Rattle.c_typed.specs.declared.value.ValueNode.TheVariants as vn
use Rattle.c_typed.proofs.ViewLaws.{view_first_element}
use Rattle.c_values.proofs.Means.{makes, stands-now, later-place, no-constant-first_element}
use Rattle.c_values.proofs.place.first_element.Goals as goal

pub returns-clause-value : goal.returns-clause-value
returns-clause-value c t stands q m =
    let new = c.decayed.new.self in
    let later = later-place c.args.types.now new c.args.place q c.decayed.ensures.kept m in
    makes new c.make.result c.args.line c.in_ok-to.to (vn.FirstElement c.args.place) NoForm c.make.ensures (decayed t)
    (subst (λ u. Stands new c.in_ok-to.to (decayed u)) (stands-now c.args.types.now _ _ stands) c.in_ok-to.ensures.made) c.args.line refl (tree.first_element q)
    (λ last more. view_first_element (type_at last) c.args.place ∙ ap tree.first_element (later.always last more)) (no-constant-first_element c.args.line (decayed t) q)
