use Rattle.std.proofs.Common.{◌≡◌, Ok, Err, List, Result, refl, ap, sym, ◌∙◌, subst, inr}
use Rattle.std.specs.Result.{IfOk}
use Rattle.std.specs.declared.alloc.AllocError.{AllocError}
use Rattle.std.proofs.lemmas.Result.{IfOk-at_ok}
use Rattle.c_types.specs.Rules.{conversion_form}
use Rattle.c_types.specs.Table.{type_at, operand_at}
use Rattle.typing_rules.specs.Terms as terms
use Rattle.typing_rules.specs.Checking.{pure}
use Rattle.c_values.specs.Stand.{MeansTyped}
use Rattle.c_values.proofs.Means.{stands-now}
use Rattle.c_values.proofs.Answering.{allowed-answers, made-answers}
use Rattle.c_values.proofs.ruled.converted_to.Goals as goal

pub returns-in-Ok : goal.returns-in-Ok
returns-in-Ok c t w stands m =
    let rows = c.args.types.now in
    let to : type_at rows c.args.to ≡ t = stands-now rows _ _ stands in
    let from : operand_at rows c.operand_of.result ≡ terms.operand_of w.value = c.operand_of.ensures w.value m.typed in
    allowed-answers (MeansTyped rows) c.args.at (conversion_form t (terms.operand_of w.value)) c.in-Ok.form (λ f. pure (terms.converted_by f t w)) c.or_memory.result
    (sym c.in-Ok.is ∙ c.conversion_form.ensures ∙ (λ i. conversion_form (to i) (from i)))
    (made-answers (MeansTyped rows) c.or_memory.result c.converted_by.result (terms.converted_by c.in-Ok.form t w) c.or_memory.ensures (c.converted_by.ensures t w stands m))
