use Rattle.std.proofs.Common.{refl}
use Rattle.lower.proofs.Steps.{step, stop, exits, given}
use Rattle.lower.proofs.emitter.Emitter.compare_with_null.Goals as goal

-- src/operators.rt:210:21
pub returns-in_err-right : goal.returns-in_err-right
returns-in_err-right c = λ rows. stop _ refl (exits c.from_residual.result _ c.from_residual.ensures.1) (c.in_err-right.ensures rows)

-- src/operators.rt:211:9
pub returns-in_err-emit : goal.returns-in_err-emit
returns-in_err-emit c =
    λ rows. step _ refl (c.in_ok-right.ensures rows) (stop _ refl (exits c.from_residual-in_err-emit.result _ c.from_residual-in_err-emit.ensures.1)
    (c.in_err-emit.ensures rows))

-- src/operators.rt:218:22
pub returns-in_err-target : goal.returns-in_err-target
returns-in_err-target c =
    λ rows. step _ refl (c.in_ok-right.ensures rows) (step _ refl (c.in_ok-emit.ensures rows) (stop _ refl
    (exits c.from_residual-in_err-target.result _ c.from_residual-in_err-target.ensures.1) (c.in_err-target.ensures rows)))

-- src/operators.rt:219:9
pub returns-in_err-emit-2 : goal.returns-in_err-emit-2
returns-in_err-emit-2 c =
    λ rows. step _ refl (c.in_ok-right.ensures rows) (step _ refl (c.in_ok-emit.ensures rows) (step _ refl (c.in_ok-target.ensures rows) (stop _ refl
    (exits c.from_residual-in_err-emit-2.result _ c.from_residual-in_err-emit-2.ensures.1) (c.in_err-emit-2.ensures rows))))

-- src/operators.rt:201:5
pub returns : goal.returns
returns c =
    λ rows. step _ refl (c.in_ok-right.ensures rows) (step _ refl (c.in_ok-emit.ensures rows) (step _ refl (c.in_ok-target.ensures rows) (step _ refl
    (c.in_ok-emit-2.ensures rows) given)))
