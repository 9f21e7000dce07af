use Rattle.std.proofs.Common.{Ok, Err, ap, ◌∙◌}
use Rattle.std.specs.Prelude.{option_map}
use Rattle.std.proofs.lemmas.Result.{err_from_is_err_and}
use Rattle.c_types.proofs.Grown.{Extends-trans}
use Rattle.c_typed.specs.declared.statement.ForHead.{ForHead}
use Rattle.typing_rules.specs.SourceViews.{expr_view, for_start_view}
use Rattle.typing_rules.specs.Checking.{◌>>=◌, pure}
use Rattle.typing_rules.specs.OrderedStatements as ordered
use Rattle.c_known.specs.Views.{line_in}
use Rattle.c_known.proofs.Binding.{bind, pure-gives}
use Rattle.c_statements.specs.Parts.{MeansValueIf, IsStart, IsHead}
use Rattle.c_statements.proofs.Giving.{exits}
use Rattle.c_statements.proofs.Views.{start-later, value_if-later}
use Rattle.c_statements.proofs.start.for_head.Goals as goal

pub returns-in_err-step : goal.returns-in_err-step
returns-in_err-step c =
    let f = line_in c.args.file in
    let h = c.args.head.now in
    let p = err_from_is_err_and c.from_residual-in_err-step.result c.from_residual-in_err-step.ensures.1 in
    let made = ordered.value_if (option_map (expr_view f) h.step) in
    bind IsStart IsHead c.args.known.now c.for_start.new.known c.value_if.new.known c.in_ok-start.start c.from_residual-in_err-step.result (ordered.for_start (for_start_view f h.start))
    (λ first. ordered.condition_if c.args.line (option_map (expr_view f) h.condition) >>= (λ test. made >>= (λ step. pure (record { start = first; test = test; step = step })))) c.in_ok-start.ensures
    (λ first _ _. bind MeansValueIf IsHead c.for_start.new.known c.condition_if.new.known c.value_if.new.known c.in_ok-test.test c.from_residual-in_err-step.result (ordered.condition_if c.args.line (option_map (expr_view f) h.condition))
    (λ test. made >>= (λ step. pure (record { start = first; test = test; step = step }))) c.in_ok-test.ensures
    (λ test _ _. exits MeansValueIf IsHead c.condition_if.new.known c.value_if.new.known c.value_if.new.known c.in_err-step.field-0.0 c.from_residual-in_err-step.result made
    (λ step. pure (record { start = first; test = test; step = step })) (p.1 ∙ ap Err p.2) c.in_err-step.ensures))

pub returns : goal.returns
returns c =
    let f = line_in c.args.file in
    let h = c.args.head.now in
    let new = c.value_if.new.known in
    let made = ordered.value_if (option_map (expr_view f) h.step) in
    let head : ForHead = record { start = c.in_ok-start.start; test = c.in_ok-test.test; step = c.in_ok-step.step } in
    bind IsStart IsHead c.args.known.now c.for_start.new.known new c.in_ok-start.start (Ok head) (ordered.for_start (for_start_view f h.start))
    (λ first. ordered.condition_if c.args.line (option_map (expr_view f) h.condition) >>= (λ test. made >>= (λ step. pure (record { start = first; test = test; step = step })))) c.in_ok-start.ensures
    (λ first _ started. bind MeansValueIf IsHead c.for_start.new.known c.condition_if.new.known new c.in_ok-test.test (Ok head) (ordered.condition_if c.args.line (option_map (expr_view f) h.condition))
    (λ test. made >>= (λ step. pure (record { start = first; test = test; step = step }))) c.in_ok-test.ensures
    (λ test more tested. bind MeansValueIf IsHead c.condition_if.new.known new new c.in_ok-step.step (Ok head) made (λ step. pure (record { start = first; test = test; step = step })) c.in_ok-step.ensures
    (λ step grown stepped. pure-gives IsHead new head (record { start = first; test = test; step = step })
    (record { start = start-later c.in_ok-start.start first (Extends-trans more grown) started; test = value_if-later c.in_ok-test.test test grown tested; step = stepped }))))
