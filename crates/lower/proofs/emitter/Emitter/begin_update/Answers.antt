use Rattle.std.proofs.Common.{suc, refl, sym, ap, Err, ◌∙◌}
use Rattle.lower.specs.Emitting.{temporary}
use Rattle.lower.specs.Expressions.{changing}
use Rattle.lower.proofs.Steps.{step, stop, exits, given, memory, same-making}
use Rattle.lower.proofs.emitter.Emitter.begin_update.Goals as goal

-- src/changes.rt:47:19
pub returns-in_err-old : goal.returns-in_err-old
returns-in_err-old c = stop _ refl (exits c.from_residual.result _ c.from_residual.ensures.1) c.in_err-old.ensures

-- src/changes.rt:49:13
pub returns-then-not-is_after : goal.returns-then-not-is_after
returns-then-not-is_after c =
    step _ refl c.in_ok-old.ensures
    (same-making (ap (λ b. changing b (temporary (suc c.args.k) c.args.line) c.args.line c.in_ok-old.old) c.if-not-is_after.true) given)

-- src/changes.rt:51:37
pub returns-in_err-behind : goal.returns-in_err-behind
returns-in_err-behind c =
    memory (exits c.from_residual-in_err-behind.result _ c.from_residual-in_err-behind.ensures.1 ∙ ap Err c.in_err-behind.ensures.memory)

-- src/changes.rt:51:22
pub returns-in_err-target : goal.returns-in_err-target
returns-in_err-target c =
    step _ refl c.in_ok-old.ensures
    (same-making (ap (λ b. changing b (temporary (suc c.args.k) c.args.line) c.args.line c.in_ok-old.old) c.if-not-is_after.false) (stop _ refl
    (exits c.from_residual-in_err-target.result _ c.from_residual-in_err-target.ensures.1)
    (same-making (ap (λ n. temporary n c.args.line) (sym c.in_ok-behind.ensures.next)) (c.in_err-target.ensures _))))

-- src/changes.rt:33:5
pub returns : goal.returns
returns c =
    step _ refl c.in_ok-old.ensures
    (same-making (ap (λ b. changing b (temporary (suc c.args.k) c.args.line) c.args.line c.in_ok-old.old) c.if-not-is_after.false) (step _ refl
    (same-making (ap (λ n. temporary n c.args.line) (sym c.in_ok-behind.ensures.next)) (c.in_ok-target.ensures _)) (c.copy.ensures _)))
