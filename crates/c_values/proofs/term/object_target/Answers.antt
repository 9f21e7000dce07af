use Rattle.std.proofs.Common.{◌≡◌, if◌then◌else◌, refl, ap, sym, ◌∙◌, subst}
use Rattle.std.proofs.lemmas.Result.{IfOk-at_ok}
use Rattle.c_types.specs.Types.{is_array, decayed}
use Rattle.c_types.specs.Table.{type_at, Stands}
use Rattle.c_typed.specs.Typed as tree
use Rattle.c_values.proofs.Means.{got-place, stands-now, later-place, value-type}
use Rattle.c_values.proofs.term.object_target.Goals as goal

pub returns-clause-value : goal.returns-clause-value
returns-clause-value c q m =
    let old = c.args.types.now in
    let new = c.value_type.new.types in
    let at : type_at old c.get.result.now.ty.target ≡ (tree.place_type q).type = stands-now old _ _ (got-place old c.get.result.now c.args.place q c.get.ensures m).type in
    let made = IfOk-at_ok (λ r. Stands new r (if is_array (type_at old c.get.result.now.ty.target) then decayed (type_at old c.get.result.now.ty.target) else type_at old c.get.result.now.ty.target))
    c.in_ok-ty.ensures c.value_type.ensures.made in
    λ k. (
      record {
        type = subst (Stands new c.in_ok-ty.ty) (ap (λ u. if is_array u then decayed u else u) at ∙ sym (value-type q)) made;
        place = later-place old new c.args.place q c.value_type.ensures.kept m;
      },
      refl,
    )
