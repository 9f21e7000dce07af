use Rattle.std.proofs.Common.{refl}
use Rattle.lower.proofs.Steps.{step, stop, exits, given}
use Rattle.lower.proofs.emitter.Emitter.call.Goals as goal

-- src/calls.rt:40:22
pub returns-in_err-target : goal.returns-in_err-target
returns-in_err-target c = stop _ refl (exits c.from_residual.result _ c.from_residual.ensures.1) (c.in_err-target.ensures)

-- src/calls.rt:41:9
pub returns-in_err-emit : goal.returns-in_err-emit
returns-in_err-emit c =
    step _ refl (c.in_ok-target.ensures) (stop _ refl (exits c.from_residual-in_err-emit.result _ c.from_residual-in_err-emit.ensures.1)
    (c.in_err-emit.ensures _))

-- src/calls.rt:25:5
pub returns : goal.returns
returns c = step _ refl (c.in_ok-target.ensures) (step _ refl (c.in_ok-emit.ensures _) given)
