use Rattle.std.proofs.Common.{arith}
use Rattle.cell_store.proofs.Begin.{length-added}
use Rattle.cell_store.proofs.tests.thousand.Goals as goal

pub loop-place-preserved : goal.loop-place-preserved
loop-place-preserved c =
    omega (arith, c.loop-place.invariant, length-added c.loop-place.store c.add.new.self _ _ _ c.in_ok-add.ensures.ok)
