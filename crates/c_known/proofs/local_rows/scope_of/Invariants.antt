use Rattle.std.proofs.Common.{◌≡◌, ◌≤◌, ◌<◌, ◌^◌, length, drop, [], ◌∷◌}
use Rattle.c_known.specs.Locals.{names_from}
use Rattle.c_known.proofs.local_rows.scope_of.Given as goal

abbrev pub invariant-loop-left : goal.invariant-loop-left
invariant-loop-left l = (l.blocks ≡ names_from l.left (drop l.left l.parameters) ∷ []) × (l.left ≤ length l.parameters) × (l.left < 2 ^ 32)

abbrev pub decreases-loop-left : goal.decreases-loop-left
decreases-loop-left l = l.left
