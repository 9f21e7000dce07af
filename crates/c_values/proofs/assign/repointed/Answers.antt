use Rattle.std.proofs.Common.{◌≡◌, if◌then◌else◌, true, false, ap, sym, ◌∙◌, subst}
use Rattle.std.specs.Result.{IfOk}
use Rattle.c_types.specs.Types.{same_type}
use Rattle.c_types.specs.Table.{type_at}
use Rattle.c_types.proofs.Grown.{Extends-refl}
use Rattle.c_typed.specs.Typed.{type_of, start_of, value, requalified}
use Rattle.c_values.specs.Stand.{MeansTyped}
use Rattle.c_values.proofs.Means.{type-of-means}
use Rattle.c_values.proofs.assign.repointed.Goals as goal

pub returns-then-is_one : goal.returns-then-is_one
returns-then-is_one c t v stands m =
    let rows = c.args.types.now in
    let test : same_type (type_at rows c.get.result.now.ty) (type_at rows c.args.to) ≡ same_type (type_of v) t = λ i. same_type ((ap (λ x. type_at rows x.ty) c.get.ensures ∙ type-of-means rows c.args.operand.value v m.value) i) (stands.always rows (Extends-refl rows) i) in
    let same : same_type (type_of v) t ≡ true = sym test ∙ sym c.is_one.ensures ∙ c.if-is_one.true in
    subst (MeansTyped rows c.args.operand) (sym (ap (λ b. if b then v else value (start_of v) t (requalified v)) same)) m

pub returns-else-is_one : goal.returns-else-is_one
returns-else-is_one c t v stands m =
    let rows = c.args.types.now in
    let test : same_type (type_at rows c.get.result.now.ty) (type_at rows c.args.to) ≡ same_type (type_of v) t = λ i. same_type ((ap (λ x. type_at rows x.ty) c.get.ensures ∙ type-of-means rows c.args.operand.value v m.value) i) (stands.always rows (Extends-refl rows) i) in
    let other : same_type (type_of v) t ≡ false = sym test ∙ sym c.is_one.ensures ∙ c.if-is_one.false in
    subst (λ u. IfOk c.requalified.result (λ r. MeansTyped rows r u)) (sym (ap (λ b. if b then v else value (start_of v) t (requalified v)) other))
    (c.requalified.ensures t v stands m)
