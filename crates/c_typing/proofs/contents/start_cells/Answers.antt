use Rattle.std.proofs.Common.{arith, [], ◌∷◌, ◌++◌, sym, ◌∙◌}
use Rattle.c_typing.proofs.Starts.{start-next}
use Rattle.c_typing.proofs.contents.start_cells.Goals as goal

pub loop-cell-preserved : goal.loop-cell-preserved
loop-cell-preserved c =
    c.in_ok-push.ensures.items ∙ (λ i. c.loop-cell.invariant i ++ c.start_cell.ensures i ∷ [])
    ∙ sym (start-next c.args.types.now c.args.cells.now c.loop-cell.cell-index c.cell-item.result (omega (arith, c.loop-cell-test.true)) c.cell-item.is)
