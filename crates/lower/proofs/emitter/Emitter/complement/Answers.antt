use Rattle.std.proofs.Common.{refl, sym, ap, Err, ◌∙◌}
use Rattle.lower.specs.Emitting.{temporary}
use Rattle.lower.proofs.Steps.{step, stop, exits, memory, same-making}
use Rattle.lower.proofs.emitter.Emitter.complement.Goals as goal

-- src/operators.rt:189:35
pub returns-in_err-behind : goal.returns-in_err-behind
returns-in_err-behind c = λ rows. memory (exits c.from_residual.result _ c.from_residual.ensures.1 ∙ ap Err c.in_err-behind.ensures.memory)

-- src/operators.rt:189:20
pub returns-in_err-ones : goal.returns-in_err-ones
returns-in_err-ones c =
    λ rows. stop _ refl (exits c.from_residual-in_err-ones.result _ c.from_residual-in_err-ones.ensures.1)
    (same-making (ap (λ n. temporary n c.args.line) (sym c.in_ok-behind.ensures.next)) (c.in_err-ones.ensures rows))

-- src/operators.rt:190:9
pub returns-in_err-emit : goal.returns-in_err-emit
returns-in_err-emit c =
    λ rows. step _ refl (same-making (ap (λ n. temporary n c.args.line) (sym c.in_ok-behind.ensures.next)) (c.in_ok-ones.ensures rows)) (stop _ refl
    (exits c.from_residual-in_err-emit.result _ c.from_residual-in_err-emit.ensures.1) (c.in_err-emit.ensures rows))

-- src/operators.rt:180:5
pub returns : goal.returns
returns c =
    λ rows. step _ refl (same-making (ap (λ n. temporary n c.args.line) (sym c.in_ok-behind.ensures.next)) (c.in_ok-ones.ensures rows)) (step _ refl
    (c.in_ok-emit.ensures rows) (c.compute.ensures rows))
