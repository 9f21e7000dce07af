use Rattle.std.proofs.Common.{refl}
use Rattle.lower.proofs.Steps.{step, stop, exits}
use Rattle.lower.proofs.emitter.Emitter.null.Goals as goal

-- src/operators.rt:82:22
pub returns-in_err-target : goal.returns-in_err-target
returns-in_err-target c = stop _ refl (exits c.from_residual.result _ c.from_residual.ensures.1) (c.in_err-target.ensures)

-- src/operators.rt:70:5
pub returns : goal.returns
returns c = step _ refl (c.in_ok-target.ensures) (c.set.ensures _)
