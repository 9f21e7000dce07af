use Rattle.std.proofs.Common.{Ok, refl, sym, ap, map}
use Rattle.c_typed.specs.StatementViews.{row_view, cell_view}
use Rattle.lower.specs.Statements.{all_cells_given}
use Rattle.lower.specs.Emits.{rows_of, types_of, inside_view}
use Rattle.lower.proofs.Cells.{cells-next, cells-done}
use Rattle.lower.proofs.Steps.{step, stop, given, exits, same-making}
use Rattle.lower.proofs.initializers.give_cells.Goals as goal

pub returns-in_err-pointer : goal.returns-in_err-pointer
returns-in_err-pointer c =
    same-making (ap (λ z. all_cells_given (inside_view c.args.at) z c.args.number (map (cell_view (types_of c.args.at)) c.args.cells.now))
    (sym c.row-row.ensures))
    (step _ refl (c.home-home.ensures (rows_of c.args.at)) (stop _ refl (exits c.from_residual.result _ c.from_residual.ensures.1)
    (c.in_err-pointer.ensures (rows_of c.args.at))))

pub loop-cell-init : goal.loop-cell-init
loop-cell-init c = λ final r h.
    step _ refl (c.home-home.ensures (rows_of c.args.at)) (step _ refl (c.in_ok-pointer.ensures (rows_of c.args.at)) h)

pub loop-cell-preserved : goal.loop-cell-preserved
loop-cell-preserved c = λ final r h.
    c.loop-cell.invariant final r
    (step _ (cells-next (inside_view c.args.at) (types_of c.args.at) (row_view (types_of c.args.at) c.row-row.result) c.home-home.result c.in_ok-pointer.pointer
    c.args.cells.now c.loop-cell.cell-index c.cell-item.result c.loop-cell-test.true c.cell-item.is) c.in_ok-give_cell.ensures h)

pub returns-in_err-give_cell : goal.returns-in_err-give_cell
returns-in_err-give_cell c =
    same-making (ap (λ z. all_cells_given (inside_view c.args.at) z c.args.number (map (cell_view (types_of c.args.at)) c.args.cells.now))
    (sym c.row-row.ensures))
    (c.loop-cell.invariant _ _
    (stop _ (cells-next (inside_view c.args.at) (types_of c.args.at) (row_view (types_of c.args.at) c.row-row.result) c.home-home.result c.in_ok-pointer.pointer
    c.args.cells.now c.loop-cell.cell-index c.cell-item.result c.loop-cell-test.true c.cell-item.is)
    (exits c.from_residual-in_err-give_cell.result _ c.from_residual-in_err-give_cell.ensures.1) c.in_err-give_cell.ensures))

pub returns : goal.returns
returns c =
    same-making (ap (λ z. all_cells_given (inside_view c.args.at) z c.args.number (map (cell_view (types_of c.args.at)) c.args.cells.now))
    (sym c.row-row.ensures))
    (c.loop-cell.invariant c.loop-cell.out (Ok tt)
    (same-making (cells-done (inside_view c.args.at) (types_of c.args.at)
    (row_view (types_of c.args.at) c.row-row.result) c.home-home.result c.in_ok-pointer.pointer
    c.args.cells.now c.loop-cell.cell-index c.loop-cell-test.false) given))
