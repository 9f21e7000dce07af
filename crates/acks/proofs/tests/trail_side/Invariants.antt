use Rattle.std.proofs.Common.{◌≡◌}
use Rattle.acks.specs.Ends.{shown_of, made_of}
use Rattle.acks.proofs.tests.trail_side.Given as goal

abbrev pub invariant-loop-value : goal.invariant-loop-value
invariant-loop-value g l =
    ((shown_of l.trail).sent ≡ (shown_of l.initial.trail).sent)
    × ((shown_of l.trail).dropped ≡ (shown_of l.initial.trail).dropped)
    × (made_of l.trail ≡ made_of l.initial.trail)
