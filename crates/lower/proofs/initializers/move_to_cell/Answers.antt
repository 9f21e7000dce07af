use Rattle.std.proofs.Common.{refl}
use Rattle.c_types.specs.Table.{type_at}
use Rattle.c_typed.specs.StatementViews.{row_view}
use Rattle.lower.proofs.Cells.{moved-far}
use Rattle.lower.proofs.Steps.{step, stop, exits}
use Rattle.lower.proofs.initializers.move_to_cell.Goals as goal

pub returns-in_err-index : goal.returns-in_err-index
returns-in_err-index c = λ rows.
    stop _ (moved-far (row_view (type_at rows) c.args.row) c.args.pointer c.args.cell c.args.cell c.if-cell-eq0.false refl)
    (exits c.from_residual.result _ c.from_residual.ensures.1) (c.in_err-index.ensures rows)

pub returns-in_err-emit : goal.returns-in_err-emit
returns-in_err-emit c = λ rows.
    step _ (moved-far (row_view (type_at rows) c.args.row) c.args.pointer c.args.cell c.from.result c.if-cell-eq0.false c.from.ensures)
    (c.in_ok-index.ensures rows)
    (stop _ refl (exits c.from_residual-in_err-emit.result _ c.from_residual-in_err-emit.ensures.1) (c.in_err-emit.ensures rows))

pub returns : goal.returns
returns c = λ rows.
    step _ (moved-far (row_view (type_at rows) c.args.row) c.args.pointer c.args.cell c.from.result c.if-cell-eq0.false c.from.ensures)
    (c.in_ok-index.ensures rows) (step _ refl (c.in_ok-emit.ensures rows) (c.emit-2.ensures rows))
