use Rattle.std.proofs.Common.{◌≡◌, length}
use Rattle.cell_store.proofs.tests.thousand.Given as goal

abbrev pub invariant-loop-place : goal.invariant-loop-place
invariant-loop-place l = length l.store.live ≡ l.place
