use Rattle.std.proofs.Common.{refl}
use Rattle.lower.proofs.Steps.{step, stop, exits}
use Rattle.lower.proofs.emitter.Emitter.end_move.Goals as goal

-- src/changes.rt:153:21
pub returns-in_err-moved : goal.returns-in_err-moved
returns-in_err-moved c = stop _ refl (exits c.from_residual.result _ c.from_residual.ensures.1) (c.in_err-moved.ensures)

-- src/changes.rt:137:5
pub returns : goal.returns
returns c = step _ refl (c.in_ok-moved.ensures) (c.end_change.ensures _)
