use Rattle.std.proofs.Common.{◌≡◌, List, refl, subst}
use Rattle.c_types.specs.declared.type_ref.Row.{Row}
use Rattle.c_types.specs.Table.{type_at}
use Rattle.c_types.specs.Types.{result_of}
use Rattle.lower.specs.Emits.{rows_of, types_of}
use Rattle.c_types.proofs.Grown.{Extends-refl}
use Rattle.lower.proofs.Steps.{exits}
use Rattle.lower.proofs.RunSteps.{run-step, run-stop, emit-step, emit-stop, emitted}
use Rattle.lower.proofs.FunctionParts.{leaves-row}
use Rattle.lower.proofs.functions.leave.Goals as goal

pub returns-in_err-close_all : goal.returns-in_err-close_all
returns-in_err-close_all c =
    run-stop _ refl (exits c.from_residual.result _ c.from_residual.ensures.1) (c.in_err-close_all.ensures (rows_of c.args.at))

pub returns-in_err-source : goal.returns-in_err-source
returns-in_err-source c =
    run-step _ (leaves-row c.args.line (types_of c.args.at c.result-result.result) (types_of c.args.at c.args.at.function.now.ty)
    (subst (λ (rows : List Row). type_at rows c.result-result.result ≡ result_of (type_at rows c.args.at.function.now.ty)) c.types.ensures
    (c.result-result.ensures.always c.types.result.now (Extends-refl c.types.result.now))))
    (c.in_ok-close_all.ensures (rows_of c.args.at))
    (emit-stop _ refl (exits c.from_residual-in_err-source.result _ c.from_residual-in_err-source.ensures.1) refl c.in_err-source.ensures)

pub returns : goal.returns
returns c =
    run-step _ (leaves-row c.args.line (types_of c.args.at c.result-result.result) (types_of c.args.at c.args.at.function.now.ty)
    (subst (λ (rows : List Row). type_at rows c.result-result.result ≡ result_of (type_at rows c.args.at.function.now.ty)) c.types.ensures
    (c.result-result.ensures.always c.types.result.now (Extends-refl c.types.result.now))))
    (c.in_ok-close_all.ensures (rows_of c.args.at))
    (emit-step _ refl c.in_ok-source.ensures (emitted (c.emit.ensures (rows_of c.args.at))))
