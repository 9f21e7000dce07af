use Rattle.std.proofs.Common.{◌≡◌, Ok, Err, ap, sym, ◌∙◌}
use Rattle.c_types.specs.Rules.{unary_type}
use Rattle.typing_rules.specs.Terms as terms
use Rattle.typing_rules.specs.Checking.{pure}
use Rattle.c_values.specs.Answers.{MeansTerm}
use Rattle.c_values.proofs.Means.{got-type}
use Rattle.c_values.proofs.Answering.{allowed-answers, broken-answers}
use Rattle.c_operators.proofs.unary.negative.Goals as goal

pub returns-in-Err : goal.returns-in-Err
returns-in-Err c w m =
    let rows = c.args.types.now in
    let from = got-type rows c.get.result.now c.args.a.typed.value w.value c.get.ensures m.typed.value in
    broken-answers (MeansTerm rows) c.args.line (unary_type (terms.written_type w)) c.in-Err.rule (λ ty. pure (terms.result (terms.minus_value c.args.line ty w)))
    (sym c.in-Err.is ∙ c.unary_type.ensures ∙ ap unary_type from)

pub returns-in-Ok : goal.returns-in-Ok
returns-in-Ok c w m =
    let rows = c.args.types.now in
    let from = got-type rows c.get.result.now c.args.a.typed.value w.value c.get.ensures m.typed.value in
    allowed-answers (MeansTerm rows) c.args.line (unary_type (terms.written_type w)) c.in-Ok.ty (λ ty. pure (terms.result (terms.minus_value c.args.line ty w))) c.result_of.result
    (sym c.in-Ok.is ∙ c.unary_type.ensures ∙ ap unary_type from)
    (c.result_of.ensures rows _ (c.minus.ensures w m))
