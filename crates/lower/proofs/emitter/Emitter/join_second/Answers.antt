use Rattle.std.proofs.Common.{sym}
use Rattle.lower.proofs.Steps.{given, same-making, first-of, second-of}
use Rattle.lower.proofs.emitter.Emitter.join_second.Goals as goal

-- src/choices.rt:114:13
pub returns-then-not-is_address : goal.returns-then-not-is_address
returns-then-not-is_address c = same-making (second-of _ _ (sym c.if-not-is_address.ensures)) given

-- src/choices.rt:104:5
pub returns : goal.returns
returns c = same-making (first-of _ _ (sym c.if-not-is_address.ensures)) (c.move_to.ensures _)
