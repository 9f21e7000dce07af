use Rattle.std.proofs.Common.{◌≤◌, drop, length}
use Rattle.std.specs.Prelude.{Ok}
use Rattle.typing_rules.specs.SourceViews.{pointers_from}
use Rattle.c_terms.specs.Fronts.{AddsParts}
use Rattle.c_terms.proofs.kinds.add_pointers.Given as goal

abbrev pub invariant-loop-left : goal.invariant-loop-left
invariant-loop-left l = (l.left ≤ length l.pointers) × AddsParts l.fn.known l.fn.known l.fn.lines l.initial.parts.items l.parts.items (Ok tt) (pointers_from (drop l.left l.pointers))

abbrev pub decreases-loop-left : goal.decreases-loop-left
decreases-loop-left l = l.left
