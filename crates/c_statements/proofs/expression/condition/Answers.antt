use Rattle.std.proofs.Common.{Err, ap, ◌∙◌}
use Rattle.std.proofs.lemmas.Result.{err_from_is_err_and}
use Rattle.c_types.specs.Rules.{tested_type}
use Rattle.typing_rules.specs.SourceViews.{expr_view}
use Rattle.typing_rules.specs.Terms.{written_type}
use Rattle.typing_rules.specs.Checking.{◌>>=◌, pure, ruled_by}
use Rattle.typing_rules.specs.OrderedDeclarations.{value_of}
use Rattle.c_values.specs.Stand.{MeansValue, MeansWritten}
use Rattle.c_known.specs.Views.{line_in}
use Rattle.c_known.proofs.Binding.{bind, answers-give}
use Rattle.c_values.specs.Answers.{IsAllowed}
use Rattle.c_statements.proofs.Giving.{exits}
use Rattle.c_statements.proofs.expression.condition.Goals as goal

pub returns-in_err-tested : goal.returns-in_err-tested
returns-in_err-tested c =
    let s = c.value_of.new.known in
    let p = err_from_is_err_and c.from_residual-in_err-tested.result c.from_residual-in_err-tested.ensures.1 in
    bind MeansWritten MeansValue c.args.known.now s s c.in_ok-operand.operand c.from_residual-in_err-tested.result (value_of (expr_view (line_in c.args.file) c.args.e.now))
    (λ a. ruled_by c.args.line (tested_type (written_type a)) >>= (λ _. pure a.value)) c.in_ok-operand.ensures
    (λ a grown means. exits (λ rows. IsAllowed) MeansValue s s s c.in_err-tested.field-0.0 c.from_residual-in_err-tested.result (ruled_by c.args.line (tested_type (written_type a))) (λ _. pure a.value)
    (p.1 ∙ ap Err p.2) (answers-give (λ rows. IsAllowed) s (Err c.in_err-tested.field-0.0) (ruled_by c.args.line (tested_type (written_type a))) (c.in_err-tested.ensures a.value means.typed)))
