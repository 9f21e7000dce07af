-- Faults of the outlet, beside the ends of the leading side.
use Rattle.std.specs.Prelude.{◌≡◌, ℕ, Bool, true, false}
use Rattle.srmt_outside.specs.Count.{next_count}
use Rattle.verdicts.specs.declared.thread_end.ThreadEnd.{ThreadEnd}
use Rattle.verdicts.specs.declared.thread_end.ThreadEnd.TheVariants.{Exit, Trap, Mismatch, Echo, PeerEnded, WriteFault}
use Rattle.verdicts.specs.declared.verdict.Verdict.{Verdict}
use Rattle.verdicts.specs.declared.verdict.Verdict.TheVariants.{Exit as ExitVerdict, Undefined, Exhausted, Reported, WriteFault as FaultVerdict}
use Rattle.machine.specs.Side.{Outcome, Went, Ended}

-- whether a side has ended by an event that failed
abbrev pub is_fault : ThreadEnd → Bool
is_fault (Exit status) = false
is_fault (Trap trap line) = false
is_fault (Mismatch taken own) = false
is_fault (Echo taken own) = false
is_fault PeerEnded = false
is_fault WriteFault = true

abbrev pub has_failed : Outcome → Bool
has_failed (Went s) = false
has_failed (Ended end) = is_fault end

-- the count of faults after some events of the core, by whether an event had failed before them and after
abbrev pub faults_turned : Bool → Bool → ℕ → ℕ
faults_turned false true faults = next_count faults
faults_turned false false faults = faults
faults_turned true true faults = faults
faults_turned true false faults = faults

-- one more where the leading side has ended by an event that failed, and else as it was. It never ends another way after that
pub record CountsFaults (before after : Outcome) (faults now : ℕ) : Type 0 where
  pub count : now ≡ faults_turned (has_failed before) (has_failed after) faults
  pub stays : has_failed before ≡ true → has_failed after ≡ true

-- the count of faults after a whole run, by its verdict
abbrev pub faults_told : Verdict → ℕ → ℕ
faults_told (ExitVerdict status) faults = faults
faults_told (Undefined trap line) faults = faults
faults_told (Exhausted trap line) faults = faults
faults_told (Reported report) faults = faults
faults_told FaultVerdict faults = next_count faults
