use Rattle.std.proofs.Common.{sym}
use Rattle.lower.proofs.Steps.{same-making, first-of, second-of}
use Rattle.lower.proofs.emitter.Emitter.compare.Goals as goal

-- src
pub returns-then-is_address : goal.returns-then-is_address
returns-then-is_address c = same-making (first-of _ _ (sym c.if-is_address.ensures)) (c.compare_pointers.ensures _)

-- src
pub returns-else-is_address : goal.returns-else-is_address
returns-else-is_address c = same-making (second-of _ _ (sym c.if-is_address.ensures)) (c.compute.ensures _)
