-- What the ends of both sides say together.
use Rattle.std.specs.Prelude.{ℕ, Bool, true, false, ◌&&◌, nat_eq}
use Rattle.srmt_base.specs.declared.trap.Trap.{Trap as TrapName}
use Rattle.srmt_base.specs.Trap.{trap_code, is_budget}
use Rattle.verdicts.specs.declared.thread_end.ThreadEnd.{ThreadEnd}
use Rattle.verdicts.specs.declared.thread_end.ThreadEnd.TheVariants.{Exit, Trap, Mismatch, Echo, WriteFault}
use Rattle.verdicts.specs.declared.verdict.Report.TheVariants.{Mismatch as ReportMismatch, Echo as ReportEcho, Parted}
use Rattle.verdicts.specs.declared.verdict.Verdict.{Verdict}
use Rattle.verdicts.specs.declared.verdict.Verdict.TheVariants.{Exit as ExitVerdict, Undefined, Exhausted, Reported, WriteFault as FaultVerdict}

-- both ended by a status
abbrev pub exit_verdict : Bool → ℕ → ℕ → Verdict
exit_verdict true lead trail = ExitVerdict lead
exit_verdict false lead trail = Reported (Parted (Exit lead) (Exit trail))

-- both used up a budget, or came to the same undefined behaviour
abbrev pub stopped_by : Bool → TrapName → ℕ → Verdict
stopped_by true trap line = Exhausted trap line
stopped_by false trap line = Undefined trap line

-- both ended by a trap
abbrev pub trap_verdict : Bool → TrapName → ℕ → TrapName → ℕ → Verdict
trap_verdict true lead line trail other = stopped_by (is_budget lead) lead line
trap_verdict false lead line trail other = Reported (Parted (Trap lead line) (Trap trail other))

-- the first row that fits: an event that failed, then a word that differs, then an acknowledgement
-- that differs, then equal ends; any others have parted
abbrev pub verdict_of_ends : ThreadEnd → ThreadEnd → Verdict
verdict_of_ends WriteFault trail = FaultVerdict
verdict_of_ends lead (Mismatch taken own) = Reported (ReportMismatch taken own)
verdict_of_ends (Echo taken own) trail = Reported (ReportEcho taken own)
verdict_of_ends (Exit lead) (Exit trail) = exit_verdict (nat_eq lead trail) lead trail
verdict_of_ends (Trap lead line) (Trap trail other) = trap_verdict (nat_eq (trap_code lead) (trap_code trail) && nat_eq line other) lead line trail other
verdict_of_ends lead trail = Reported (Parted lead trail)
