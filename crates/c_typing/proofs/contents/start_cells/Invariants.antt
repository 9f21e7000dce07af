use Rattle.std.proofs.Common.{◌≡◌, map, take}
use Rattle.c_typing.specs.Contents.{cell_start}
use Rattle.c_typing.proofs.contents.start_cells.Given as goal

abbrev pub invariant-loop-cell : goal.invariant-loop-cell
invariant-loop-cell l = l.starts.items ≡ map (cell_start l.types) (take l.cell-index l.cells)
