use Rattle.std.proofs.Common.{◌≡◌, Ok, Err, sym, ◌∙◌}
use Rattle.c_types.specs.Rules.{binary_form}
use Rattle.c_types.specs.Table.{operand_at}
use Rattle.typing_rules.specs.Terms as terms
use Rattle.typing_rules.specs.Checking.{pure}
use Rattle.c_values.specs.Stand.{form_of}
use Rattle.c_values.specs.Answers.{MeansTerm}
use Rattle.c_values.proofs.Answering.{allowed-answers, broken-answers}
use Rattle.c_operators.proofs.operator.computed.Goals as goal

pub returns-in-Err : goal.returns-in-Err
returns-in-Err c v w a b =
    let first : operand_at c.args.types.now c.operand_of.result ≡ terms.operand_of v.value = c.operand_of.ensures v.value a.typed in
    let second : operand_at c.args.types.now c.operand_of-2.result ≡ terms.operand_of w.value = c.operand_of-2.ensures w.value b.typed in
    broken-answers (MeansTerm c.args.types.now) c.args.at (form_of c.args.op v w) c.in-Err.rule (λ f. pure (terms.result (terms.binary_value c.args.line c.args.op c.args.at f v w)))
    (sym c.in-Err.is ∙ c.binary_form.ensures.exact ∙ (λ i. binary_form c.args.op (first i) (second i)))

pub returns-in-Ok : goal.returns-in-Ok
returns-in-Ok c v w a b =
    let first : operand_at c.args.types.now c.operand_of.result ≡ terms.operand_of v.value = c.operand_of.ensures v.value a.typed in
    let second : operand_at c.args.types.now c.operand_of-2.result ≡ terms.operand_of w.value = c.operand_of-2.ensures w.value b.typed in
    allowed-answers (MeansTerm c.args.types.now) c.args.at (form_of c.args.op v w) c.in-Ok.form (λ f. pure (terms.result (terms.binary_value c.args.line c.args.op c.args.at f v w))) c.result_of.result
    (sym c.in-Ok.is ∙ c.binary_form.ensures.exact ∙ (λ i. binary_form c.args.op (first i) (second i)))
    (c.result_of.ensures c.args.types.now _ (c.binary_value.ensures v w a b))
