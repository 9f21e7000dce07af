use Rattle.std.proofs.Common.{◌≡◌, length, drop, replicate, All}
use Rattle.mid_code.specs.Fits.{IsValue}
use Rattle.c_typed.specs.StatementViews.{program_view}
use Rattle.source_meaning.specs.Start.{with_given}
use Rattle.c_meaning.proofs.statics.contents.Given as goal

abbrev pub invariant-loop-cell : goal.invariant-loop-cell
invariant-loop-cell l = record {
  contents : with_given (program_view l.program) l.part (drop l.cell-index l.given) l.values.items
      ≡ with_given (program_view l.program) l.part l.given (replicate l.cells 0);
  small : All IsValue l.values.items;
  cells : length l.values.items ≡ l.cells;
}
