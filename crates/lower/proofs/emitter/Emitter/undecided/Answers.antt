use Rattle.std.proofs.Common.{[], ◌+◌, refl}
use Rattle.mid_code.specs.declared.mid.Mid.TheVariants as mid
use Rattle.lower.proofs.Steps.{step, stop, exits, given}
use Rattle.lower.proofs.Jumping.{emits-here, here-fits, neither-digit, same-constant}
use Rattle.lower.proofs.emitter.Emitter.undecided.Goals as goal

pub returns-in_err-target : goal.returns-in_err-target
returns-in_err-target c = λ rows. stop _ refl (exits c.from_residual.result _ c.from_residual.ensures.1) (c.in_err-target.ensures rows)

pub returns-in_err-emit : goal.returns-in_err-emit
returns-in_err-emit c = λ rows.
    step _ refl (c.in_ok-target.ensures rows)
    (stop _ refl (exits c.from_residual-in_err-emit.result _ c.from_residual-in_err-emit.ensures.1)
    (same-constant c.args.line c.in_ok-target.target _ _ (neither-digit c.args.is_or _ c.from-value.ensures) (c.in_err-emit.ensures rows)))

pub overflow_add-place : goal.overflow_add-place
overflow_add-place c = here-fits c.here-place.result _ (c.here-place.ensures [])

pub returns-in_err-emit-2 : goal.returns-in_err-emit-2
returns-in_err-emit-2 c = λ rows.
    step _ refl (c.in_ok-target.ensures rows)
    (step _ refl (same-constant c.args.line c.in_ok-target.target _ _ (neither-digit c.args.is_or _ c.from-value.ensures) (c.in_ok-emit.ensures rows))
    (stop _ refl (exits c.from_residual-in_err-emit-2.result _ c.from_residual-in_err-emit-2.ensures.1)
    (emits-here c.args.line c.here-place.result (λ n. mid.Jump (n + 2)) (λ to. refl) c.here-place.ensures (c.in_err-emit-2.ensures rows))))

pub returns : goal.returns
returns c = λ rows.
    step _ refl (c.in_ok-target.ensures rows)
    (step _ refl (same-constant c.args.line c.in_ok-target.target _ _ (neither-digit c.args.is_or _ c.from-value.ensures) (c.in_ok-emit.ensures rows))
    (step _ refl (emits-here c.args.line c.here-place.result (λ n. mid.Jump (n + 2)) (λ to. refl) c.here-place.ensures (c.in_ok-emit-2.ensures rows)) given))
