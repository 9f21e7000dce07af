use Rattle.std.proofs.Common.{◌≡◌, true, false, refl, ap, sym, ◌∙◌, subst}
use Rattle.c_types.specs.Types.{is_array, decayed}
use Rattle.c_types.specs.Table.{type_at}
use Rattle.c_typed.specs.Typed as tree
use Rattle.c_typed.specs.declared.constant.Constant.TheVariants.{NoForm}
use Rattle.c_typed.specs.declared.value.ValueNode.TheVariants as vn
use Rattle.c_typed.proofs.ViewLaws.{view_read}
use Rattle.c_values.specs.Stand.{Makes}
use Rattle.c_values.proofs.Means.{makes, got-place, got-line, place_line, stands-now, array-value, other-value, no-constant-read}
use Rattle.c_values.proofs.place.value_at.Goals as goal

pub returns-then-is_array-clause-value : goal.returns-then-is_array-clause-value
returns-then-is_array-clause-value c q m =
    let old = c.args.types.now in
    let new = c.first_element.new.types in
    let to = (got-place old c.get-2.result.now c.args.place q c.get-2.ensures m).type in
    let is : is_array (tree.place_type q).type ≡ true = sym (ap is_array (stands-now old _ _ to)) ∙ sym c.is_array.ensures ∙ c.if-is_array.true in
    subst (Makes new c.first_element.result) (array-value q is)
    (subst (λ l. Makes new c.first_element.result (tree.value l (decayed (tree.place_type q).type) (tree.first_element q))) (got-line old c.get.result.now c.args.place q c.get.ensures m)
    (c.first_element.ensures.value (tree.place_type q).type to q m))

pub returns-else-is_array-clause-value : goal.returns-else-is_array-clause-value
returns-else-is_array-clause-value c q m =
    let rows = c.args.types.now in
    let to = (got-place rows c.get-2.result.now c.args.place q c.get-2.ensures m).type in
    let is : is_array (tree.place_type q).type ≡ false = sym (ap is_array (stands-now rows _ _ to)) ∙ sym c.is_array.ensures ∙ c.if-is_array.false in
    subst (Makes rows c.make.result) (other-value q is)
    (makes rows c.make.result c.get.result.now.line c.get-2.result.now.ty.target (vn.Read c.args.place) NoForm c.make.ensures
    (tree.place_type q).type to (place_line q) (got-line rows c.get.result.now c.args.place q c.get.ensures m) (tree.read q)
    (λ later more. view_read (type_at later) c.args.place ∙ ap tree.read (m.always later more)) (no-constant-read (place_line q) (tree.place_type q).type q))
