use Rattle.std.proofs.Common.{◌≡◌, ◌&&◌, true, false, sym, ap, ◌∙◌}
use Rattle.c_types.specs.Types.{is_integer}
use Rattle.c_types.specs.Table.{type_at}
use Rattle.c_typed.specs.Typed.{type_of}
use Rattle.c_typed.specs.Constants.{constant_of, is_zero}
use Rattle.c_values.proofs.Means.{type-of-means}
use Rattle.c_values.proofs.ruled.operand_of.Goals as goal

pub returns-then-is_integer : goal.returns-then-is_integer
returns-then-is_integer c v m =
    let rows = c.args.types.now in
    let ty : type_at rows c.get.result.now.ty ≡ type_of v = ap (λ x. type_at rows x.ty) c.get.ensures ∙ type-of-means rows c.args.of.now.value v m.value in
    let is : is_integer (type_of v) ≡ true = sym (ap is_integer ty) ∙ sym c.is_integer.ensures ∙ c.if-is_integer.true in
    let zero : c.is_zero.result ≡ (is_integer (type_of v) && is_zero (constant_of v)) =
    c.is_zero.ensures ∙ ap is_zero m.constant ∙ sym (ap (λ b. b && is_zero (constant_of v)) is) in
    λ i. record { type = ty i; is_null = zero i }

pub returns-else-is_integer : goal.returns-else-is_integer
returns-else-is_integer c v m =
    let rows = c.args.types.now in
    let ty : type_at rows c.get.result.now.ty ≡ type_of v = ap (λ x. type_at rows x.ty) c.get.ensures ∙ type-of-means rows c.args.of.now.value v m.value in
    let is : is_integer (type_of v) ≡ false = sym (ap is_integer ty) ∙ sym c.is_integer.ensures ∙ c.if-is_integer.false in
    let zero : c.is_integer.result ≡ (is_integer (type_of v) && is_zero (constant_of v)) =
    c.if-is_integer.false ∙ sym (ap (λ b. b && is_zero (constant_of v)) is) in
    λ i. record { type = ty i; is_null = zero i }
