use Rattle.std.proofs.Common.{◌≡◌, drop, replicate}
use Rattle.c_typed.specs.StatementViews.{program_view}
use Rattle.source_meaning.specs.Start.{with_given}
use Rattle.lower.proofs.statics.contents.Given as goal

abbrev pub invariant-loop-cell : goal.invariant-loop-cell
invariant-loop-cell l =
    with_given (program_view l.program) l.part (drop l.cell-index l.given) l.values.items
    ≡ with_given (program_view l.program) l.part l.given (replicate l.cells 0)
