-- The count of the outlet's faults over steps, events and whole runs.
use Rattle.std.proofs.Common.{◌≡◌, ℕ, Bool, true, false, ◌&&◌, nat_eq, Option, refl, sym, ap, ◌∙◌}
use Rattle.srmt_base.specs.declared.trap.Trap.{Trap as TrapName}
use Rattle.srmt_base.specs.Trap.{trap_code, is_budget}
use Rattle.verdicts.specs.declared.thread_end.ThreadEnd.{ThreadEnd}
use Rattle.verdicts.specs.declared.thread_end.ThreadEnd.TheVariants.{Exit, Trap, Mismatch, Echo, PeerEnded, WriteFault}
use Rattle.verdicts.specs.Verdict.{verdict_of_ends, exit_verdict, stopped_by, trap_verdict}
use Rattle.machine.specs.declared.stepped.Stepped.{Stepped}
use Rattle.machine.specs.declared.stepped.Stepped.TheVariants.{Made, NotYet, MadeLast}
use Rattle.machine.specs.Faults.{faults_after}
use Rattle.machine.specs.Side.{SideState, Outcome, Went}
use Rattle.pair_core.specs.Turns.{outcome_by, end_of_step}
use Rattle.pair_core.specs.Faults.{is_fault, has_failed, faults_turned, CountsFaults, faults_told}

-- a side that stays counts nothing
pub same_count : (at : Outcome) (faults : ℕ) → CountsFaults at at faults faults
same_count at faults = record { count = stays (has_failed at); stays = λ h. h }
  where
    stays : (b : Bool) → faults ≡ faults_turned b b faults
    stays true = refl
    stays false = refl

-- and steps behind it that end no side count nothing more
pub counts_as : (before middle after : Outcome) (faults now : ℕ) → CountsFaults before middle faults now → has_failed after ≡ has_failed middle → CountsFaults before after faults now
counts_as before middle after faults now c same = record { count = c.count ∙ ap (λ b. faults_turned (has_failed before) b faults) (sym same); stays = λ h. same ∙ c.stays h }

by_step : (stepped : Stepped) (m : SideState) (faults : ℕ) → faults_after stepped faults ≡ faults_turned false (has_failed (outcome_by (end_of_step stepped) m)) faults
by_step Made m faults = refl
by_step NotYet m faults = refl
by_step (MadeLast (Exit status)) m faults = refl
by_step (MadeLast (Trap trap line)) m faults = refl
by_step (MadeLast (Mismatch taken own)) m faults = refl
by_step (MadeLast (Echo taken own)) m faults = refl
by_step (MadeLast PeerEnded) m faults = refl
by_step (MadeLast WriteFault) m faults = refl

-- after the step of a side that had not ended
pub step_count : (stepped : Stepped) (s m : SideState) (end : Option ThreadEnd) (faults now : ℕ) → end ≡ end_of_step stepped → now ≡ faults_after stepped faults → CountsFaults (Went s) (outcome_by end m) faults now
step_count stepped s m end faults now is count =
    record { count = count ∙ by_step stepped m faults ∙ ap (λ e. faults_turned false (has_failed (outcome_by e m)) faults) (sym is); stays = λ h. absurd (cc) }

-- an event after others
both_turned : (a b : Bool) (faults : ℕ) → (a ≡ true → b ≡ true) → faults_turned a b (faults_turned false a faults) ≡ faults_turned false b faults
both_turned false b faults stays = refl
both_turned true true faults stays = refl
both_turned true false faults stays = let no : false ≡ true = stays refl in absurd (cc)

pub counted_on : (middle after : Outcome) (first now last : ℕ) → now ≡ faults_turned false (has_failed middle) first → CountsFaults middle after now last → last ≡ faults_turned false (has_failed after) first
counted_on middle after first now last sofar step =
    step.count ∙ ap (faults_turned (has_failed middle) (has_failed after)) sofar ∙ both_turned (has_failed middle) (has_failed after) first step.stays

-- the verdict tells of a fault exactly where the leading side has ended by one
exit_told : (b : Bool) (lead trail faults : ℕ) → faults_told (exit_verdict b lead trail) faults ≡ faults
exit_told true lead trail faults = refl
exit_told false lead trail faults = refl

stopped_told : (b : Bool) (trap : TrapName) (line faults : ℕ) → faults_told (stopped_by b trap line) faults ≡ faults
stopped_told true trap line faults = refl
stopped_told false trap line faults = refl

trap_told : (b : Bool) (lead : TrapName) (line : ℕ) (trail : TrapName) (other faults : ℕ) → faults_told (trap_verdict b lead line trail other) faults ≡ faults
trap_told true lead line trail other faults = stopped_told (is_budget lead) lead line faults
trap_told false lead line trail other faults = refl

pub told_count : (lead trail : ThreadEnd) (faults : ℕ) → faults_turned false (is_fault lead) faults ≡ faults_told (verdict_of_ends lead trail) faults
told_count WriteFault trail faults = refl
told_count (Exit status) (Exit other) faults = sym (exit_told (nat_eq status other) status other faults)
told_count (Exit status) (Trap trap line) faults = refl
told_count (Exit status) (Mismatch taken own) faults = refl
told_count (Exit status) (Echo taken own) faults = refl
told_count (Exit status) PeerEnded faults = refl
told_count (Exit status) WriteFault faults = refl
told_count (Trap trap line) (Exit status) faults = refl
told_count (Trap trap line) (Trap other at) faults = sym (trap_told (nat_eq (trap_code trap) (trap_code other) && nat_eq line at) trap line other at faults)
told_count (Trap trap line) (Mismatch taken own) faults = refl
told_count (Trap trap line) (Echo taken own) faults = refl
told_count (Trap trap line) PeerEnded faults = refl
told_count (Trap trap line) WriteFault faults = refl
told_count (Mismatch taken own) (Exit status) faults = refl
told_count (Mismatch taken own) (Trap trap line) faults = refl
told_count (Mismatch taken own) (Mismatch other mine) faults = refl
told_count (Mismatch taken own) (Echo other mine) faults = refl
told_count (Mismatch taken own) PeerEnded faults = refl
told_count (Mismatch taken own) WriteFault faults = refl
told_count (Echo taken own) (Exit status) faults = refl
told_count (Echo taken own) (Trap trap line) faults = refl
told_count (Echo taken own) (Mismatch other mine) faults = refl
told_count (Echo taken own) (Echo other mine) faults = refl
told_count (Echo taken own) PeerEnded faults = refl
told_count (Echo taken own) WriteFault faults = refl
told_count PeerEnded (Exit status) faults = refl
told_count PeerEnded (Trap trap line) faults = refl
told_count PeerEnded (Mismatch taken own) faults = refl
told_count PeerEnded (Echo taken own) faults = refl
told_count PeerEnded PeerEnded faults = refl
told_count PeerEnded WriteFault faults = refl
