use Rattle.std.proofs.Common.{sym, ◌∙◌}
use Rattle.lower.specs.Emits.{types_of, inside_view}
use Rattle.lower.proofs.Steps.{exits}
use Rattle.lower.proofs.RunSteps.{run-step, run-stop, run-same}
use Rattle.lower.proofs.FunctionParts.{main-body, other-body}
use Rattle.lower.proofs.functions.lower_body.Goals as goal

pub returns-then-is_main : goal.returns-then-is_main
returns-then-is_main c =
    run-same (main-body (types_of c.args.at) c.args.at.function.now (inside_view c.args.at) (sym c.is_main.ensures ∙ c.if-is_main.true)) c.lower_main.ensures

pub returns-in_err-items_in_block : goal.returns-in_err-items_in_block
returns-in_err-items_in_block c =
    run-stop _ (other-body (types_of c.args.at) c.args.at.function.now (inside_view c.args.at) c.as_slice.result.now c.as_slice.ensures
    (sym c.is_main.ensures ∙ c.if-is_main.false))
    (exits c.from_residual.result _ c.from_residual.ensures.1) c.in_err-items_in_block.ensures

pub returns : goal.returns
returns c =
    run-step _ (other-body (types_of c.args.at) c.args.at.function.now (inside_view c.args.at) c.as_slice.result.now c.as_slice.ensures
    (sym c.is_main.ensures ∙ c.if-is_main.false))
    c.in_ok-items_in_block.ensures c.leave.ensures
