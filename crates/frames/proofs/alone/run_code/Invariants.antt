use Rattle.std.proofs.Common.{◌≡◌, []}
use Rattle.mid_code.specs.Bounds.{alone_to_go}
use Rattle.mid_code.specs.Meaning.{State, Comes}
use Rattle.frames.specs.Alone.{state_at, IsWithinCode}
use Rattle.frames.proofs.AloneRuns.{alone_at}
use Rattle.frames.proofs.alone.run_code.Given as goal

abbrev pub invariant-loop-next : goal.invariant-loop-next
invariant-loop-next l = record {
  within : IsWithinCode l.program l.number l.stand.place l.registers;
  comes : (s : State) → s.machine.top.function ≡ l.number → Comes l.program (state_at l.program s l.fn.registers l.fn.memory l.fn.stand) [] (state_at l.program s l.registers l.memory l.stand);
}

abbrev pub decreases-loop-next : goal.decreases-loop-next
decreases-loop-next l = alone_to_go l.program (alone_at l.number [] l.registers l.stand)
