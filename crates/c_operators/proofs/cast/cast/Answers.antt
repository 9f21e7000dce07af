use Rattle.std.proofs.Common.{◌≡◌, true, false, if◌then◌else◌, refl, ap, sym, ◌∙◌, subst}
use Rattle.c_types.specs.declared.type_ref.TypeRef.TheVariants as ref
use Rattle.c_types.specs.Types.{is_void, void, ty_of}
use Rattle.c_types.specs.Table.{type_at, Stands}
use Rattle.c_typed.specs.Typed as tree
use Rattle.c_typed.specs.declared.constant.Constant.TheVariants.{NoForm}
use Rattle.c_typed.specs.declared.value.ValueNode.TheVariants as vn
use Rattle.c_typed.proofs.ViewLaws.{view_discarded, view_conversion}
use Rattle.typing_rules.specs.Terms as terms
use Rattle.c_values.specs.Stand.{Makes}
use Rattle.c_values.proofs.Means.{makes, got-type, stands-now, no-constant-discarded, cast-constant}
use Rattle.c_operators.proofs.cast.cast.Goals as goal

pub returns-then-is_void : goal.returns-then-is_void
returns-then-is_void c t stands w m =
    let rows = c.args.types.now in
    let is : is_void t ≡ true = sym (ap is_void (stands-now rows _ _ stands)) ∙ sym c.is_void.ensures ∙ c.if-is_void.true in
    let made = makes rows c.make.result c.args.line ref.Void (vn.Discarded c.args.a.typed.value) NoForm c.make.ensures void (record { always = λ later more. refl })
    c.args.line refl (tree.discarded w.value) (λ later more. view_discarded (type_at later) c.args.a.typed.value ∙ ap tree.discarded (m.typed.value.always later more))
    (no-constant-discarded c.args.line void w.value) in
    subst (λ b. Makes rows c.make.result (if b then tree.value c.args.line void (tree.discarded w.value) else tree.value c.args.line t (tree.conversion w.first w.value))) (sym is) made

pub returns-else-is_void : goal.returns-else-is_void
returns-else-is_void c t stands w m =
    let rows = c.args.types.now in
    let is : is_void t ≡ false = sym (ap is_void (stands-now rows _ _ stands)) ∙ sym c.is_void.ensures ∙ c.if-is_void.false in
    let from = c.ty-from.ensures ∙ ap ty_of (got-type rows c.get.result.now c.args.a.typed.value w.value c.get.ensures m.typed.value) in
    let to = c.ty.ensures ∙ ap ty_of (stands-now rows _ _ stands) in
    let made = makes rows c.make-else-is_void.result c.args.line c.args.to (vn.Conversion c.args.a.first c.args.a.typed.value) c.converted-constant.result c.make-else-is_void.ensures t stands
    c.args.line refl (tree.conversion w.first w.value)
    (λ later more. view_conversion (type_at later) c.args.a.first c.args.a.typed.value ∙ (λ i. tree.conversion (m.first i) (m.typed.value.always later more i)))
    (cast-constant c.ty-from.result c.ty.result c.args.line w.first t _ _ w.value c.converted-constant.ensures from to m.typed.constant) in
    subst (λ b. Makes rows c.make-else-is_void.result (if b then tree.value c.args.line void (tree.discarded w.value) else tree.value c.args.line t (tree.conversion w.first w.value))) (sym is) made
