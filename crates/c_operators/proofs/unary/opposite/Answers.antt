use Rattle.std.proofs.Common.{◌≡◌, true, false, ap, sym, ◌∙◌}
use Rattle.c_types.specs.Types.{is_scalar}
use Rattle.typing_rules.specs.Terms as terms
use Rattle.typing_rules.specs.Checking.{pure}
use Rattle.c_values.specs.Answers.{MeansTerm}
use Rattle.c_values.proofs.Means.{got-type}
use Rattle.c_values.proofs.Answering.{tested-answers, untested-answers}
use Rattle.c_operators.proofs.unary.opposite.Goals as goal

pub returns-then-is_scalar : goal.returns-then-is_scalar
returns-then-is_scalar c w m =
    let rows = c.args.types.now in
    let from = got-type rows c.get.result.now c.args.a.typed.value w.value c.get.ensures m.typed.value in
    tested-answers (MeansTerm rows) c.args.line 5 (is_scalar (terms.written_type w)) (terms.written_type w) (λ t. pure (terms.result (terms.negated_value c.args.line w))) c.result_of.result
    (sym (ap is_scalar from) ∙ sym c.is_scalar.ensures ∙ c.if-is_scalar.true)
    (c.result_of.ensures rows _ (c.negated.ensures w m))

pub returns-else-is_scalar : goal.returns-else-is_scalar
returns-else-is_scalar c w m =
    let rows = c.args.types.now in
    let from = got-type rows c.get.result.now c.args.a.typed.value w.value c.get.ensures m.typed.value in
    untested-answers (MeansTerm rows) c.args.line 5 (is_scalar (terms.written_type w)) (terms.written_type w) (λ t. pure (terms.result (terms.negated_value c.args.line w)))
    (sym (ap is_scalar from) ∙ sym c.is_scalar.ensures ∙ c.if-is_scalar.false)
