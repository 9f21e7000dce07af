use Rattle.std.proofs.Common.{◌-◌}
use Rattle.frames.specs.Copied.{IsKept, CopiesMany}
use Rattle.frames.proofs.copied.run_copied.Given as goal

abbrev pub invariant-loop-count : goal.invariant-loop-count
invariant-loop-count l = record {
  copies : CopiesMany l.side l.pair l.number l.count l.fn.registers l.fn.stand l.registers l.stand;
  kept : IsKept l.fn.registers l.registers;
}

abbrev pub decreases-loop-count : goal.decreases-loop-count
decreases-loop-count l = 4294967295 - l.count
