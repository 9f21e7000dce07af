use Rattle.std.proofs.Common.{refl}
use Rattle.lower.proofs.Steps.{step, stop, exits, given}
use Rattle.lower.proofs.emitter.Emitter.get_byte.Goals as goal

-- src/calls.rt:105:22
pub returns-in_err-target : goal.returns-in_err-target
returns-in_err-target c = λ rows. stop _ refl (exits c.from_residual.result _ c.from_residual.ensures.1) (c.in_err-target.ensures rows)

-- src/calls.rt:106:9
pub returns-in_err-emit : goal.returns-in_err-emit
returns-in_err-emit c =
    λ rows. step _ refl (c.in_ok-target.ensures rows) (stop _ refl (exits c.from_residual-in_err-emit.result _ c.from_residual-in_err-emit.ensures.1)
    (c.in_err-emit.ensures rows))

-- src/calls.rt:97:5
pub returns : goal.returns
returns c = λ rows. step _ refl (c.in_ok-target.ensures rows) (step _ refl (c.in_ok-emit.ensures rows) given)
