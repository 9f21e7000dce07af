use Rattle.std.proofs.Common.{◌≡◌, sym, ap, ◌∙◌}
use Rattle.c_types.specs.Types.{is_void, is_integer}
use Rattle.c_types.specs.Table.{type_at}
use Rattle.c_typed.specs.Typed.{type_of}
use Rattle.typing_rules.specs.DeclaratorRules as rule
use Rattle.c_values.proofs.Means.{type-of-means}
use Rattle.c_declarators.proofs.Lengths.{length-void, length-integer, length-other}
use Rattle.c_declarators.proofs.length.length_rule.Goals as goal

pub returns-then-is_void : goal.returns-then-is_void
returns-then-is_void c w m =
    let rows = c.args.types.now in
    let ty : type_at rows c.get.result.now.ty ≡ type_of w.value = ap (λ x. type_at rows x.ty) c.get.ensures ∙ type-of-means rows c.args.value.now.typed.value w.value m.typed.value in
    length-void w.value (sym (ap is_void ty) ∙ sym c.is_void.ensures ∙ c.if-is_void.true)

pub returns-then-is_integer : goal.returns-then-is_integer
returns-then-is_integer c w m =
    let rows = c.args.types.now in
    let ty : type_at rows c.get.result.now.ty ≡ type_of w.value = ap (λ x. type_at rows x.ty) c.get.ensures ∙ type-of-means rows c.args.value.now.typed.value w.value m.typed.value in
    c.constant_length.ensures ∙ ap rule.constant_length m.typed.constant
    ∙ length-integer w.value (sym (ap is_void ty) ∙ sym c.is_void.ensures ∙ c.if-is_void.false) (sym (ap is_integer ty) ∙ sym c.is_integer.ensures ∙ c.if-is_integer.true)

pub returns-else-is_integer : goal.returns-else-is_integer
returns-else-is_integer c w m =
    let rows = c.args.types.now in
    let ty : type_at rows c.get.result.now.ty ≡ type_of w.value = ap (λ x. type_at rows x.ty) c.get.ensures ∙ type-of-means rows c.args.value.now.typed.value w.value m.typed.value in
    length-other w.value (sym (ap is_void ty) ∙ sym c.is_void.ensures ∙ c.if-is_void.false) (sym (ap is_integer ty) ∙ sym c.is_integer.ensures ∙ c.if-is_integer.false)
