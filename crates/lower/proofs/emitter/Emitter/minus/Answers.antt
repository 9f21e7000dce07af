use Rattle.std.proofs.Common.{refl, sym, ap, Err, ◌∙◌}
use Rattle.lower.specs.Emitting.{temporary}
use Rattle.lower.proofs.Steps.{step, stop, exits, given, memory, same-making}
use Rattle.lower.proofs.emitter.Emitter.minus.Goals as goal

-- src/operators.rt:158:35
pub returns-in_err-behind : goal.returns-in_err-behind
returns-in_err-behind c = λ rows. memory (exits c.from_residual.result _ c.from_residual.ensures.1 ∙ ap Err c.in_err-behind.ensures.memory)

-- src/operators.rt:158:20
pub returns-in_err-left : goal.returns-in_err-left
returns-in_err-left c =
    λ rows. stop _ refl (exits c.from_residual-in_err-left.result _ c.from_residual-in_err-left.ensures.1)
    (same-making (ap (λ n. temporary n c.args.line) (sym c.in_ok-behind.ensures.next)) (c.in_err-left.ensures rows))

-- src/operators.rt:159:9
pub returns-in_err-emit : goal.returns-in_err-emit
returns-in_err-emit c =
    λ rows. step _ refl (same-making (ap (λ n. temporary n c.args.line) (sym c.in_ok-behind.ensures.next)) (c.in_ok-left.ensures rows)) (stop _ refl
    (exits c.from_residual-in_err-emit.result _ c.from_residual-in_err-emit.ensures.1) (c.in_err-emit.ensures rows))

-- src/operators.rt:166:9
pub returns-in_err-emit-2 : goal.returns-in_err-emit-2
returns-in_err-emit-2 c =
    λ rows. step _ refl (same-making (ap (λ n. temporary n c.args.line) (sym c.in_ok-behind.ensures.next)) (c.in_ok-left.ensures rows)) (step _ refl
    (c.in_ok-emit.ensures rows) (stop _ refl (exits c.from_residual-in_err-emit-2.result _ c.from_residual-in_err-emit-2.ensures.1)
    (c.in_err-emit-2.ensures rows)))

-- src/operators.rt:149:5
pub returns : goal.returns
returns c =
    λ rows. step _ refl (same-making (ap (λ n. temporary n c.args.line) (sym c.in_ok-behind.ensures.next)) (c.in_ok-left.ensures rows)) (step _ refl
    (c.in_ok-emit.ensures rows) (step _ refl (c.in_ok-emit-2.ensures rows) given))
