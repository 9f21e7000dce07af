use Rattle.std.proofs.Common.{refl, sym, ap, Err, ◌∙◌}
use Rattle.lower.specs.Emitting.{temporary}
use Rattle.lower.proofs.Steps.{step, stop, exits, memory, same-making}
use Rattle.lower.proofs.emitter.Emitter.compare_with_zero.Goals as goal

-- src/operators.rt:241:35
pub returns-in_err-behind : goal.returns-in_err-behind
returns-in_err-behind c = λ rows. memory (exits c.from_residual.result _ c.from_residual.ensures.1 ∙ ap Err c.in_err-behind.ensures.memory)

-- src/operators.rt:241:20
pub returns-in_err-zero : goal.returns-in_err-zero
returns-in_err-zero c =
    λ rows. stop _ refl (exits c.from_residual-in_err-zero.result _ c.from_residual-in_err-zero.ensures.1)
    (same-making (ap (λ n. temporary n c.args.line) (sym c.in_ok-behind.ensures.next)) (c.in_err-zero.ensures rows))

-- src/operators.rt:242:9
pub returns-in_err-emit : goal.returns-in_err-emit
returns-in_err-emit c =
    λ rows. step _ refl (same-making (ap (λ n. temporary n c.args.line) (sym c.in_ok-behind.ensures.next)) (c.in_ok-zero.ensures rows)) (stop _ refl
    (exits c.from_residual-in_err-emit.result _ c.from_residual-in_err-emit.ensures.1) (c.in_err-emit.ensures rows))

-- src/operators.rt:232:5
pub returns : goal.returns
returns c =
    λ rows. step _ refl (same-making (ap (λ n. temporary n c.args.line) (sym c.in_ok-behind.ensures.next)) (c.in_ok-zero.ensures rows)) (step _ refl
    (c.in_ok-emit.ensures rows) (c.compute.ensures rows))
