use Rattle.std.proofs.Common.{if◌then◌else◌, refl, ap}
use Rattle.lower.specs.Emitting.{pure}
use Rattle.lower.proofs.Steps.{step, stop, exits, given, same-making}
use Rattle.lower.proofs.emitter.Emitter.end_change.Goals as goal

-- src/changes.rt:103:9
pub returns-in_err-put : goal.returns-in_err-put
returns-in_err-put c = λ rows. stop _ refl (exits c.from_residual.result _ c.from_residual.ensures.1) (c.in_err-put.ensures rows)

-- src/changes.rt:93:5
pub returns-then-is_after : goal.returns-then-is_after
returns-then-is_after c =
    λ rows. step _ refl (c.in_ok-put.ensures rows) (same-making (ap (λ b. pure (if b then c.args.old else c.args.new)) c.if-is_after.true) given)

-- src/changes.rt:93:5
pub returns-else-is_after : goal.returns-else-is_after
returns-else-is_after c =
    λ rows. step _ refl (c.in_ok-put.ensures rows) (same-making (ap (λ b. pure (if b then c.args.old else c.args.new)) c.if-is_after.false) given)
