use Rattle.std.proofs.Common.{refl}
use Rattle.lower.proofs.Steps.{step, stop, exits}
use Rattle.lower.proofs.emitter.Emitter.end_update.Goals as goal

-- src/changes.rt:122:9
pub returns-in_err-emit : goal.returns-in_err-emit
returns-in_err-emit c = λ rows. stop _ refl (exits c.from_residual.result _ c.from_residual.ensures.1) (c.in_err-emit.ensures rows)

-- src/changes.rt:132:9
pub returns-in_err-convert : goal.returns-in_err-convert
returns-in_err-convert c =
    λ rows. step _ refl (c.in_ok-emit.ensures rows) (stop _ refl (exits c.from_residual-in_err-convert.result _ c.from_residual-in_err-convert.ensures.1)
    (c.in_err-convert.ensures rows))

-- src/changes.rt:108:5
pub returns : goal.returns
returns c = λ rows. step _ refl (c.in_ok-emit.ensures rows) (step _ refl (c.in_ok-convert.ensures rows) (c.end_change.ensures rows))
