use Rattle.std.proofs.Common.{◌≡◌, drop}
use Rattle.cell_store.specs.Plain.{found_in}
use Rattle.cell_store.proofs.plain.position.Given as goal

abbrev pub invariant-loop-at : goal.invariant-loop-at
invariant-loop-at l = found_in (drop l.at l.objects) l.number ≡ found_in l.objects l.number
