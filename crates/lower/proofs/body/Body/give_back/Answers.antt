use Rattle.std.proofs.Common.{sym, ◌∙◌}
use Rattle.lower.specs.Emits.{inside_view}
use Rattle.lower.proofs.Steps.{exits}
use Rattle.lower.proofs.RunSteps.{run-step, run-stop, run-same, emitted}
use Rattle.lower.proofs.Closing.{returns-exit, returns-return}
use Rattle.lower.proofs.body.Body.give_back.Goals as goal

pub returns-then-is_main : goal.returns-then-is_main
returns-then-is_main c = λ rows.
    run-same (returns-exit (inside_view c.args.at) c.args.line c.args.source (sym c.is_main.ensures ∙ c.if-is_main.true)) (emitted (c.emit.ensures rows))

pub returns-in_err-close_all : goal.returns-in_err-close_all
returns-in_err-close_all c = λ rows.
    run-stop _ (returns-return (inside_view c.args.at) c.args.line c.args.source (sym c.is_main.ensures ∙ c.if-is_main.false))
    (exits c.from_residual.result _ c.from_residual.ensures.1) (c.in_err-close_all.ensures rows)

pub returns : goal.returns
returns c = λ rows.
    run-step _ (returns-return (inside_view c.args.at) c.args.line c.args.source (sym c.is_main.ensures ∙ c.if-is_main.false))
    (c.in_ok-close_all.ensures rows) (emitted (c.emit-2.ensures rows))
