use Rattle.std.proofs.Common.{◌≡◌, ◌+◌}
use Rattle.machine.specs.Link.{SentBelow}
use Rattle.acks.proofs.tests.send_many.Given as goal

abbrev pub invariant-loop-value : goal.invariant-loop-value
invariant-loop-value g l = SentBelow (l.value + 1) (g.L.Link.shows l.link) × ((g.L.Link.shows l.link).made ≡ (g.L.Link.shows l.initial.link).made)
