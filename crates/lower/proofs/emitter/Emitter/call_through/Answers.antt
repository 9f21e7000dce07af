use Rattle.std.proofs.Common.{refl, sym, ap}
use Rattle.lower.specs.Emitting.{type_number as number_of_type}
use Rattle.lower.specs.Emits.{rows_of}
use Rattle.lower.proofs.PointedTypes.{target-stands}
use Rattle.lower.proofs.Steps.{step, stop, exits, given, same-making}
use Rattle.lower.proofs.emitter.Emitter.call_through.Goals as goal

-- src/calls.rt:69:22
pub returns-in_err-target : goal.returns-in_err-target
returns-in_err-target c = stop _ refl (exits c.from_residual.result _ c.from_residual.ensures.1) (c.in_err-target.ensures)

-- src/calls.rt:70:18
pub returns-in_err-ty : goal.returns-in_err-ty
returns-in_err-ty c =
    step _ refl (c.in_ok-target.ensures) (stop _ refl (exits c.from_residual-in_err-ty.result _ c.from_residual-in_err-ty.ensures.1)
    (same-making (ap number_of_type (sym (target-stands (rows_of c.args.inside) c.types.result.now c.args.pointer c.target.result c.types.ensures
    c.target.ensures))) (c.in_err-ty.ensures)))

-- src/calls.rt:71:9
pub returns-in_err-emit : goal.returns-in_err-emit
returns-in_err-emit c =
    step _ refl (c.in_ok-target.ensures) (step _ refl
    (same-making (ap number_of_type (sym (target-stands (rows_of c.args.inside) c.types.result.now c.args.pointer c.target.result c.types.ensures
    c.target.ensures))) (c.in_ok-ty.ensures)) (stop _ refl (exits c.from_residual-in_err-emit.result _ c.from_residual-in_err-emit.ensures.1)
    (c.in_err-emit.ensures _)))

-- src/calls.rt:53:5
pub returns : goal.returns
returns c =
    step _ refl (c.in_ok-target.ensures) (step _ refl
    (same-making (ap number_of_type (sym (target-stands (rows_of c.args.inside) c.types.result.now c.args.pointer c.target.result c.types.ensures
    c.target.ensures))) (c.in_ok-ty.ensures)) (step _ refl (c.in_ok-emit.ensures _) given))
