use Rattle.std.proofs.Common.{Result, map, drop}
use Rattle.std.specs.Prelude.{⊤}
use Rattle.c_typed.specs.StatementViews.{row_view, cell_view}
use Rattle.lower.specs.declared.emitter.Emitter.{Emitter}
use Rattle.lower.specs.declared.refusal.LowerRefusal.{LowerRefusal}
use Rattle.lower.specs.Statements.{all_cells_given}
use Rattle.lower.specs.Emits.{Emits, nothing, rows_of, types_of, inside_view}
use Rattle.lower.proofs.Cells.{Cells}
use Rattle.lower.proofs.initializers.give_cells.Given as goal

-- what the cells left give, behind those so far, all give
abbrev pub invariant-loop-cell : goal.invariant-loop-cell
invariant-loop-cell l = (final : Emitter) (r : Result ⊤ LowerRefusal)
    → Emits nothing (rows_of l.at) l.out final r
    (Cells (inside_view l.at) (types_of l.at) (row_view (types_of l.at) l.row) l.home l.pointer (drop l.cell-index l.cells))
    → Emits nothing (rows_of l.at) l.fn.out final r
    (all_cells_given (inside_view l.at) (row_view (types_of l.at) l.row) l.number (map (cell_view (types_of l.at)) l.cells))
