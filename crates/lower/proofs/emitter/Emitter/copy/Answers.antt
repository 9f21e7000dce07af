use Rattle.std.proofs.Common.{refl}
use Rattle.lower.proofs.Steps.{step, stop, exits, given}
use Rattle.lower.proofs.emitter.Emitter.copy.Goals as goal

-- src
pub returns-in_err-emit : goal.returns-in_err-emit
returns-in_err-emit c = λ rows. stop _ refl (exits c.from_residual.result _ c.from_residual.ensures.1) (c.in_err-emit.ensures rows)

-- src
pub returns : goal.returns
returns c = λ rows. step _ refl (c.in_ok-emit.ensures rows) given
