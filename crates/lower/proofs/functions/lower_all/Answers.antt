use Rattle.std.proofs.Common.{refl}
use Rattle.lower.specs.Emits.{types_of, inside_view}
use Rattle.lower.proofs.Steps.{exits}
use Rattle.lower.proofs.RunSteps.{run-step, run-stop, run-given, emit-step, emit-stop}
use Rattle.lower.proofs.FunctionParts.{typed-row}
use Rattle.lower.proofs.functions.lower_all.Goals as goal

pub returns-in_err-ty : goal.returns-in_err-ty
returns-in_err-ty c =
    emit-stop _ (typed-row (types_of c.args.at) c.args.at.function.now (inside_view c.args.at))
    (exits c.from_residual.result _ c.from_residual.ensures.1) refl
    c.in_err-ty.ensures

pub returns-in_err-stand_arguments : goal.returns-in_err-stand_arguments
returns-in_err-stand_arguments c =
    emit-step _ (typed-row (types_of c.args.at) c.args.at.function.now (inside_view c.args.at)) c.in_ok-ty.ensures
    (emit-stop _ refl (exits c.from_residual-in_err-stand_arguments.result _ c.from_residual-in_err-stand_arguments.ensures.1) refl
    c.in_err-stand_arguments.ensures)

pub returns-in_err-lower_with_parameters : goal.returns-in_err-lower_with_parameters
returns-in_err-lower_with_parameters c =
    emit-step _ (typed-row (types_of c.args.at) c.args.at.function.now (inside_view c.args.at)) c.in_ok-ty.ensures
    (emit-step _ refl c.in_ok-stand_arguments.ensures
    (run-stop _ refl (exits c.from_residual-in_err-lower_with_parameters.result _ c.from_residual-in_err-lower_with_parameters.ensures.1)
    c.in_err-lower_with_parameters.ensures))

pub returns : goal.returns
returns c =
    emit-step _ (typed-row (types_of c.args.at) c.args.at.function.now (inside_view c.args.at)) c.in_ok-ty.ensures
    (emit-step _ refl c.in_ok-stand_arguments.ensures (run-step _ refl c.in_ok-lower_with_parameters.ensures run-given))
