use Rattle.std.proofs.Common.{◌≡◌, ◌+◌}
use Rattle.machine.specs.Link.{SentBelow}
use Rattle.acks.proofs.tests.send_waiting.Given as goal

abbrev pub invariant-loop : goal.invariant-loop
invariant-loop g l = SentBelow (l.fn.value + 1) (g.L.Link.shows l.link) × ((g.L.Link.shows l.link).made ≡ (g.L.Link.shows l.initial.link).made)
