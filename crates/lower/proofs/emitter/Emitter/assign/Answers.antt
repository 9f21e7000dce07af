use Rattle.std.proofs.Common.{refl}
use Rattle.lower.proofs.Steps.{step, stop, exits, given}
use Rattle.lower.proofs.emitter.Emitter.assign.Goals as goal

-- src/places.rt:78:9
pub returns-in_err-put : goal.returns-in_err-put
returns-in_err-put c = λ rows. stop _ refl (exits c.from_residual.result _ c.from_residual.ensures.1) (c.in_err-put.ensures rows)

-- src/places.rt:70:5
pub returns : goal.returns
returns c = λ rows. step _ refl (c.in_ok-put.ensures rows) given
