use Rattle.std.proofs.Common.{◌≡◌, ◌∙◌, ◌-◌, ◌+◌, ◌<◌, ◌≤◌, suc, sym, ap, subst, length, Some, None, arith}
use Rattle.std.specs.Prelude.{slice_get, option_map}
use Rattle.c_typed.specs.StatementViews.{function_view}
use Rattle.c_meaning.specs.Entering as entering
use Rattle.c_meaning.specs.Runs.{types_of}
use Rattle.c_meaning.proofs.NamesAndRows.{lent_is}
use Rattle.c_meaning.proofs.FunctionsAt.{first_function, first_part, second_function, second_part}
use Rattle.c_meaning.proofs.calls.function_at.Goals as goal

pub returns-in_ok-function : goal.returns-in_ok-function
returns-in_ok-function c =
    let p = c.args.program.now in
    let before = c.args.number - 1 in
    let is : c.args.number ≡ suc before = omega arith in
    let low : before < length p.main_file.functions = subst (λ l. before < length l) c.as_slice-first.ensures c.if-at-first.true in
    let found : slice_get p.main_file.functions before ≡ Some c.in_ok-function.function.now =
    ap (λ l. slice_get l before) (sym c.as_slice-first.ensures)
    ∙ sym (lent_is c.as_slice-first.result.now before (Some c.in_ok-function.function) c.in_ok-function.ensures.lookup) in
    (first_function p c.args.number before is low ∙ ap (option_map (function_view (types_of p))) found, first_part p c.args.number before is low)

pub returns-in_ok-function-2 : goal.returns-in_ok-function-2
returns-in_ok-function-2 c =
    let p = c.args.program.now in
    let before = c.args.number - 1 in
    let after = before - length c.as_slice-first.result.now in
    let is : c.args.number ≡ suc before = omega arith in
    let high : length p.main_file.functions ≤ before = subst (λ l. length l ≤ before) c.as_slice-first.ensures c.if-at-first.false in
    let same : length c.as_slice-first.result.now ≡ length p.main_file.functions = ap length c.as_slice-first.ensures in
    let rest : before ≡ length p.main_file.functions + after = omega arith in
    let found : slice_get p.binary_file.functions after ≡ Some c.in_ok-function-2.function.now =
    ap (λ l. slice_get l after) (sym c.as_slice-second.ensures)
    ∙ sym (lent_is c.as_slice-second.result.now after (Some c.in_ok-function-2.function) c.in_ok-function-2.ensures.lookup) in
    (second_function p c.args.number before after is rest ∙ ap (option_map (function_view (types_of p))) found, second_part p c.args.number before is high)

pub returns-in_err-function-2 : goal.returns-in_err-function-2
returns-in_err-function-2 c =
    let p = c.args.program.now in
    let before = c.args.number - 1 in
    let after = before - length c.as_slice-first.result.now in
    let is : c.args.number ≡ suc before = omega arith in
    let same : length c.as_slice-first.result.now ≡ length p.main_file.functions = ap length c.as_slice-first.ensures in
    let rest : before ≡ length p.main_file.functions + after = omega arith in
    let found : slice_get p.binary_file.functions after ≡ None =
    ap (λ l. slice_get l after) (sym c.as_slice-second.ensures) ∙ sym (lent_is c.as_slice-second.result.now after None c.in_err-function-2.ensures.lookup) in
    subst (entering.IsFunctionAt p c.args.number) (sym c.from_residual-in_err-function-2.ensures)
    (second_function p c.args.number before after is rest ∙ ap (option_map (function_view (types_of p))) found)
