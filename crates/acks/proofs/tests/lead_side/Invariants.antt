use Rattle.std.proofs.Common.{◌≡◌, ◌+◌}
use Rattle.machine.specs.Link.{SentBelow}
use Rattle.acks.specs.Ends.{shown_of, made_of}
use Rattle.acks.proofs.tests.lead_side.Given as goal

abbrev pub invariant-loop-value : goal.invariant-loop-value
invariant-loop-value g l = SentBelow (l.value + 1) (shown_of l.lead) × (made_of l.lead ≡ made_of l.initial.lead)
