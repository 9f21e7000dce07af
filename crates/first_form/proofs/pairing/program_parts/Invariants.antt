use Rattle.std.proofs.Common.{drop}
use Rattle.first_form.proofs.Growing.{GrowsAll}
use Rattle.first_form.proofs.pairing.program_parts.Given as goal

abbrev pub invariant-loop-index : goal.invariant-loop-index
invariant-loop-index l =
    GrowsAll l.mains l.fn.shared (drop l.index l.fn.shared) l.functions (drop l.index l.functions) l.classes l.leading l.trailing l.site
