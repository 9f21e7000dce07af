use Rattle.std.proofs.Common.{refl}
use Rattle.lower.proofs.Steps.{step, stop, exits, given}
use Rattle.lower.proofs.emitter.Emitter.widen.Goals as goal

-- src/changes.rt:88:9
pub returns-in_err-convert : goal.returns-in_err-convert
returns-in_err-convert c = λ rows. stop _ refl (exits c.from_residual.result _ c.from_residual.ensures.1) (c.in_err-convert.ensures rows)

-- src/changes.rt:79:5
pub returns : goal.returns
returns c = λ rows. step _ refl (c.in_ok-convert.ensures rows) given
