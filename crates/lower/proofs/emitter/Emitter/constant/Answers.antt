use Rattle.std.proofs.Common.{refl}
use Rattle.lower.proofs.Steps.{step, stop, exits}
use Rattle.lower.proofs.emitter.Emitter.constant.Goals as goal

-- src/operators.rt:48:22
pub returns-in_err-target : goal.returns-in_err-target
returns-in_err-target c = λ rows. stop _ refl (exits c.from_residual.result _ c.from_residual.ensures.1) (c.in_err-target.ensures rows)

-- src/operators.rt:40:5
pub returns : goal.returns
returns c = λ rows. step _ refl (c.in_ok-target.ensures rows) (c.set.ensures rows)
