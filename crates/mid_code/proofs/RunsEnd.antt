-- A run of a valid program ends, after fewer steps and events than its bound.
use Rattle.std.proofs.Common.{◌≡◌, ℕ, zero, suc, ◌+◌, ◌<◌, ◌≤◌, ◌^◌, List, ◌++◌, length, refl, ap, subst, arith, length-append}
use Rattle.srmt_base.specs.declared.event.Event.{Event}
use Rattle.srmt_base.specs.declared.trap.SourceEnd.{SourceEnd}
use Rattle.srmt_base.specs.declared.limits.Limits.{Limits}
use Rattle.mid_code.specs.declared.program.MidProgram.{MidProgram}
use Rattle.mid_code.specs.Valid.{IsValid}
use Rattle.mid_code.specs.Meaning.{State, Step, On, Ends, Stuck, Run, Running, Ended, NoWay, step, preceded, then_run, exec, started}
use Rattle.mid_code.specs.Start.{FitLimits, started_machine}
use Rattle.mid_code.specs.Bounds.{left_to_go}
use Rattle.mid_code.specs.Fits.{Fits}
use Rattle.mid_code.specs.Laws.{CanRun, IsShort}
use Rattle.mid_code.proofs.InstructionsFit.{few_to_turn}
use Rattle.mid_code.proofs.StatesFit.{IsSound, sound_step}
use Rattle.mid_code.proofs.StepsNear.{StepNears, step_nears}
use Rattle.mid_code.proofs.StartFits.{machine_started, fits_started}

-- the run has ended, with at most so many events
record HasEnded (most : ℕ) (r : Run) : Type 0 where
  end : SourceEnd
  events : List Event
  ended : r ≡ Ended end events
  few : length events ≤ most

ended_preceded : (before : List Event) (most : ℕ) (r : Run) → length before ≤ 1 → HasEnded most r → HasEnded (suc most) (preceded before r)
ended_preceded before most r one h = record {
  end = h.end;
  events = before ++ h.events;
  ended = ap (preceded before) h.ended;
  few = omega (arith, length-append before h.events, h.few, one);
}

ended_then : (program : MidProgram) (s : State) (t : Step) (rest : State → Run) (most : ℕ) → IsSound program t → StepNears program s t →
    ((next : State) → Fits program next → left_to_go program next.machine < left_to_go program s.machine → HasEnded most (rest next)) →
    HasEnded (suc most) (then_run t rest)
ended_then program s (On next events) rest most sound near more = ended_preceded events most (rest next) near.1 (more next sound near.0)
ended_then program s (Ends end events) rest most sound near more = record { end = end; events = events; ended = refl; few = omega (arith, near) }
ended_then program s Stuck rest most sound near more = absurd sound

-- one step more than are left is enough
ends_within : (program : MidProgram) → IsValid program → (steps : ℕ) (s : State) → Fits program s → left_to_go program s.machine < steps →
    HasEnded steps (exec program steps s)
ends_within program valid zero s fits few = absurd (omega (arith, few))
ends_within program valid (suc more) s fits few =
    ended_then program s (step program s) (exec program more) more (sound_step program s valid fits) (step_nears program s valid fits.machine)
    (λ next fits' less. ends_within program valid more next fits' (omega (arith, few, less)))

-- a run that goes on has made no more steps than were left, with at most as many events
abbrev Further : MidProgram → ℕ → ℕ → Run → Type 0
Further program steps left (Running s events) = (steps + left_to_go program s.machine ≤ left) × (length events ≤ steps)
Further program steps left (Ended end events) = Unit {0}
Further program steps left NoWay = Unit {0}

goes_further : (program : MidProgram) (before : List Event) (steps left more : ℕ) (r : Run) → length before ≤ 1 → left < more →
    Further program steps left r → Further program (suc steps) more (preceded before r)
goes_further program before steps left more (Running s events) one less h = (omega (arith, less, h.0), omega (arith, one, h.1, length-append before events))
goes_further program before steps left more (Ended end events) one less h = tt
goes_further program before steps left more NoWay one less h = tt

goes_then : (program : MidProgram) (s : State) (t : Step) (rest : State → Run) (steps : ℕ) → IsSound program t → StepNears program s t →
    ((next : State) → Fits program next → Further program steps (left_to_go program next.machine) (rest next)) → Further program (suc steps) (left_to_go program s.machine) (then_run t rest)
goes_then program s (On next events) rest steps sound near more =
    goes_further program events steps (left_to_go program next.machine) (left_to_go program s.machine) (rest next) near.1 near.0 (more next sound)
goes_then program s (Ends end seen) rest steps sound near more = tt
goes_then program s Stuck rest steps sound near more = tt

goes_on : (program : MidProgram) → IsValid program → (steps : ℕ) (s : State) → Fits program s →
    Further program steps (left_to_go program s.machine) (exec program steps s)
goes_on program valid zero s fits = (omega arith, omega arith)
goes_on program valid (suc more) s fits =
    goes_then program s (step program s) (exec program more) more (sound_step program s valid fits) (step_nears program s valid fits.machine) (λ next fits'. goes_on program valid more next fits')

-- the steps that a run has made and those that are left to it
pub made_and_left : (program : MidProgram) → IsValid program → (steps : ℕ) (s t : State) (events : List Event) → Fits program s →
    exec program steps s ≡ Running t events → steps + left_to_go program t.machine ≤ left_to_go program s.machine
made_and_left program valid steps s t events fits e = (subst (Further program steps (left_to_go program s.machine)) e (goes_on program valid steps s fits)).0

-- at the start fewer than 2^62 - 1 steps are left
left_at_start : (program : MidProgram) (limits : Limits) → IsValid program → FitLimits program limits →
    left_to_go program (started_machine program limits) + 1 < 2 ^ 62
left_at_start program limits valid fit =
    let h = machine_started program limits valid fit in
    omega (arith, fit.turns, few_to_turn program (started_machine program limits).top valid h.top)

pub short : (program : MidProgram) (input : List ℕ) (limits : Limits) → CanRun program input limits → IsShort program input limits
short program input limits can =
    let s = started program input limits in
    let fits = fits_started program input limits can.valid can.fit can.bytes in
    let few = left_at_start program limits can.valid can.fit in
    let ended = ends_within program can.valid (left_to_go program s.machine + 1) s fits (omega arith) in
    record {
      steps = left_to_go program s.machine + 1;
      few_steps = few;
      end = ended.end;
      events = ended.events;
      ended = ended.ended;
      few_events = omega (arith, ended.few, few);
      going = λ before t so_far e.
          let on : Further program before (left_to_go program s.machine) (Running t so_far) = subst (Further program before (left_to_go program s.machine)) e (goes_on program can.valid before s fits) in
          (omega (arith, on.0), omega (arith, on.1, on.0, few));
    }
