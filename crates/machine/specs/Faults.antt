-- Faults of the outlet, and the sides that end by them.
use Rattle.std.specs.Prelude.{ℕ}
use Rattle.srmt_outside.specs.Count.{next_count}
use Rattle.verdicts.specs.declared.thread_end.ThreadEnd.{ThreadEnd}
use Rattle.verdicts.specs.declared.thread_end.ThreadEnd.TheVariants.{Exit, Trap, Mismatch, Echo, PeerEnded, WriteFault}
use Rattle.machine.specs.declared.stepped.Stepped.{Stepped}
use Rattle.machine.specs.declared.stepped.Stepped.TheVariants.{Made, NotYet, MadeLast}

-- the count of faults after a side has ended so: one more where an event failed, and else as it was
abbrev pub faults_by : ThreadEnd → ℕ → ℕ
faults_by (Exit status) faults = faults
faults_by (Trap trap line) faults = faults
faults_by (Mismatch taken own) faults = faults
faults_by (Echo taken own) faults = faults
faults_by PeerEnded faults = faults
faults_by WriteFault faults = next_count faults

-- and after the try of a step
abbrev pub faults_after : Stepped → ℕ → ℕ
faults_after Made faults = faults
faults_after NotYet faults = faults
faults_after (MadeLast end) faults = faults_by end faults
