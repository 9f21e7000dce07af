use Rattle.std.proofs.Common.{◌≡◌, Ok, Err, ap, sym, ◌∙◌}
use Rattle.c_types.specs.Rules.{choice_form}
use Rattle.c_types.specs.Table.{operand_at}
use Rattle.typing_rules.specs.Terms as terms
use Rattle.typing_rules.specs.Checking.{pure}
use Rattle.c_values.specs.Answers.{MeansTerm}
use Rattle.c_values.proofs.Means.{got-type}
use Rattle.c_values.proofs.Answering.{allowed-answers, broken-answers}
use Rattle.c_operators.proofs.logic.chosen.Goals as goal

pub returns-in-Err-clause-term : goal.returns-in-Err-clause-term
returns-in-Err-clause-term c u v w l m n =
    let rows = c.args.types.now in
    let test = got-type rows c.get.result.now c.args.test.typed.value u.value c.get.ensures l.typed.value in
    let first : operand_at rows c.operand_of.result ≡ terms.operand_of v.value = c.operand_of.ensures v.value m.typed in
    let second : operand_at rows c.operand_of-2.result ≡ terms.operand_of w.value = c.operand_of-2.ensures w.value n.typed in
    broken-answers (MeansTerm rows) c.args.at (choice_form (terms.written_type u) (terms.operand_of v.value) (terms.operand_of w.value)) c.in-Err.rule
    (λ f. pure (terms.result (terms.choice_value c.args.line f u.value v w)))
    (sym c.in-Err.is ∙ c.choice_form-form.ensures ∙ (λ i. choice_form (test i) (first i) (second i)))

pub returns-in-Ok-clause-term : goal.returns-in-Ok-clause-term
returns-in-Ok-clause-term c u v w l m n =
    let rows = c.args.types.now in
    let new = c.choice_of.new.types in
    let test = got-type rows c.get.result.now c.args.test.typed.value u.value c.get.ensures l.typed.value in
    let first : operand_at rows c.operand_of.result ≡ terms.operand_of v.value = c.operand_of.ensures v.value m.typed in
    let second : operand_at rows c.operand_of-2.result ≡ terms.operand_of w.value = c.operand_of-2.ensures w.value n.typed in
    allowed-answers (MeansTerm new) c.args.at (choice_form (terms.written_type u) (terms.operand_of v.value) (terms.operand_of w.value)) c.in-Ok.form
    (λ f. pure (terms.result (terms.choice_value c.args.line f u.value v w))) c.result_of.result
    (sym c.in-Ok.is ∙ c.choice_form-form.ensures ∙ (λ i. choice_form (test i) (first i) (second i)))
    (c.result_of.ensures new _ (c.choice_of.ensures.value u.value v w l.typed m n))
