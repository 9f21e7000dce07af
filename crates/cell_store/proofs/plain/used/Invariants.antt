use Rattle.std.proofs.Common.{◌≡◌, take}
use Rattle.srmt_base.specs.Objects.{live_cells}
use Rattle.cell_store.specs.Plain.{plain}
use Rattle.cell_store.proofs.plain.used.Given as goal

abbrev pub invariant-loop-object : goal.invariant-loop-object
invariant-loop-object l = l.cells ≡ live_cells (plain 0 0 (take l.object-index l.objects))
