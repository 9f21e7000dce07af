use Rattle.std.proofs.Common.{refl, ap}
use Rattle.lower.specs.Emitting.{new}
use Rattle.lower.specs.Expressions.{changing}
use Rattle.mid_code.specs.declared.program.RegisterKind.TheVariants.{Address}
use Rattle.lower.proofs.Steps.{step, stop, exits, given, same-making}
use Rattle.lower.proofs.emitter.Emitter.begin_move.Goals as goal

-- src/changes.rt:70:19
pub returns-in_err-old : goal.returns-in_err-old
returns-in_err-old c = stop _ refl (exits c.from_residual.result _ c.from_residual.ensures.1) c.in_err-old.ensures

-- src/changes.rt:72:13
pub returns-then-not-is_after : goal.returns-then-not-is_after
returns-then-not-is_after c =
    step _ refl c.in_ok-old.ensures (same-making (ap (λ b. changing b (new Address c.args.line) c.args.line c.in_ok-old.old) c.if-not-is_after.true) given)

-- src/changes.rt:74:22
pub returns-in_err-target : goal.returns-in_err-target
returns-in_err-target c =
    step _ refl c.in_ok-old.ensures (same-making (ap (λ b. changing b (new Address c.args.line) c.args.line c.in_ok-old.old) c.if-not-is_after.false)
    (stop _ refl (exits c.from_residual-in_err-target.result _ c.from_residual-in_err-target.ensures.1) (c.in_err-target.ensures _)))

-- src/changes.rt:56:5
pub returns : goal.returns
returns c =
    step _ refl c.in_ok-old.ensures (same-making (ap (λ b. changing b (new Address c.args.line) c.args.line c.in_ok-old.old) c.if-not-is_after.false)
    (step _ refl (c.in_ok-target.ensures _) (c.copy.ensures _)))
