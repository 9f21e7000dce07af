use Rattle.std.proofs.Common.{◌≡◌}
use Rattle.acks.proofs.tests.take_waiting.Given as goal

abbrev pub invariant-loop : goal.invariant-loop
invariant-loop g l =
    ((g.L.Link.shows l.link).sent ≡ (g.L.Link.shows l.initial.link).sent)
    × ((g.L.Link.shows l.link).dropped ≡ (g.L.Link.shows l.initial.link).dropped)
    × ((g.L.Link.shows l.link).made ≡ (g.L.Link.shows l.initial.link).made)
