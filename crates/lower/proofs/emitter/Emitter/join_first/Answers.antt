use Rattle.std.proofs.Common.{refl, sym}
use Rattle.lower.proofs.Steps.{step, stop, exits, given, same-making, first-of, second-of}
use Rattle.lower.proofs.emitter.Emitter.join_first.Goals as goal

-- src/choices.rt:96:13
pub returns-then-not-is_address : goal.returns-then-not-is_address
returns-then-not-is_address c = same-making (second-of _ _ (sym c.if-not-is_address.ensures)) given

-- src/choices.rt:98:22
pub returns-in_err-target : goal.returns-in_err-target
returns-in_err-target c =
    same-making (first-of _ _ (sym c.if-not-is_address.ensures)) (stop _ refl (exits c.from_residual.result _ c.from_residual.ensures.1)
    (c.in_err-target.ensures _))

-- src/choices.rt:86:5
pub returns : goal.returns
returns c = same-making (first-of _ _ (sym c.if-not-is_address.ensures)) (step _ refl (c.in_ok-target.ensures _) (c.move_to.ensures _))
