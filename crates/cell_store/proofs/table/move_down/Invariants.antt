use Rattle.std.proofs.Common.{◌≡◌, ◌++◌, map, take, drop}
use Rattle.cell_store.specs.Flat.{moved_down}
use Rattle.cell_store.proofs.table.move_down.Given as goal

abbrev pub invariant-loop-row : goal.invariant-loop-row
invariant-loop-row l =
    l.row-items ≡ map (moved_down l.by) (take l.row-index l.fn.rows) ++ drop l.row-index l.fn.rows
