use Rattle.std.proofs.Common.{if◌then◌else◌, ap, sym, ◌∙◌, subst}
use Rattle.std.proofs.lemmas.Bool.{eq-eqb}
use Rattle.std.specs.Result.{IfOk}
use Rattle.srmt_base.specs.Types.{ty_code}
use Rattle.c_types.specs.Types.{ty_of}
use Rattle.typing_rules.specs.Terms as terms
use Rattle.c_values.specs.Stand.{MeansTyped, converted_value}
use Rattle.c_values.proofs.Means.{test-false}
use Rattle.c_values.proofs.convert.converted_from.Goals as goal

pub returns-then-code : goal.returns-then-code
returns-then-code c rows t m from =
    let same = eq-eqb (ty_code (ty_of (terms.written_type t))) (ty_code c.args.to) (sym (ap ty_code from) ∙ sym c.code.ensures ∙ c.if-code.true ∙ c.code-2.ensures) in
    subst (MeansTyped rows c.args.operand.typed) (sym (ap (λ b. if b then t.value else converted_value c.args.to t) same)) m.typed

pub returns-else-code : goal.returns-else-code
returns-else-code c rows t m from =
    let other = test-false (ty_code (ty_of (terms.written_type t))) (ty_code c.args.to) (λ e. c.if-code.false (c.code.ensures ∙ ap ty_code from ∙ e ∙ sym c.code-2.ensures)) in
    subst (λ u. IfOk c.conversion.result (λ r. MeansTyped rows r u)) (sym (ap (λ b. if b then t.value else converted_value c.args.to t) other))
    (c.conversion.ensures rows t m from)
