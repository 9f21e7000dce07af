use Rattle.std.proofs.Common.{arith}
use Rattle.cell_store.specs.Flat.{moved_down}
use Rattle.cell_store.proofs.End.{mapped_more}
use Rattle.cell_store.proofs.table.move_down.Goals as goal

pub loop-row-preserved : goal.loop-row-preserved
loop-row-preserved c =
    rw c.loop-row.invariant (mapped_more (moved_down c.args.by) c.args.rows.now c.loop-row.row-index _ (omega arith))
