-- Every state of a run of a valid program fits it, and has a next step or ends.
use Rattle.std.proofs.Common.{◌≡◌, ℕ, zero, suc, ◌+◌, ◌<◌, ◌≤◌, List, [], ◌∷◌, length, Result, Ok, Err, refl, sym, ap, subst, arith}
use Rattle.std.specs.Prelude.{All, IfOk, drop}
use Rattle.srmt_base.specs.declared.event.Event.{Event}
use Rattle.srmt_base.specs.declared.part.Part.{Part}
use Rattle.srmt_base.specs.declared.trap.Trap.{Trap}
use Rattle.srmt_base.specs.Objects.{pointer_to}
use Rattle.srmt_base.specs.Memory.{Memory, begin_of, finish_of, next_number}
use Rattle.mid_code.specs.declared.program.MidProgram.{MidProgram}
use Rattle.mid_code.specs.declared.access.Access.{Access}
use Rattle.mid_code.specs.declared.access.Access.TheVariants.{Opens}
use Rattle.mid_code.specs.Valid.{IsValid}
use Rattle.mid_code.specs.Machine.{Activation, Machine, Does, Goes, Calls, Leaves, Traps, Reaches, Lost, Entry, Entered, Refused, NoFunction, activations, passed, given, given_object, passed_close, local_of, with_local, with_top, waiting, enter, returned_to, does}
use Rattle.mid_code.specs.Meaning.{State, Step, On, Ends, Stuck, Run, Running, Ended, NoWay, after_read, after_write, after_begin, after_call, after_return, own_part, reach, step, step_by, preceded, then_run, exec}
use Rattle.mid_code.specs.Fits.{IsValue, IsWithin, IsMachine, Fits, open_count}
use Rattle.mid_code.proofs.MemoryKept.{AfterWrite, AfterBegin, began, finished}
use Rattle.mid_code.proofs.MachineFits.{EntryFits, ReturnFits, top_changed, local_fits, entry_cases, enter_fits, returned_fits}
use Rattle.mid_code.proofs.AccessShapes.{AccessFits, Shape, GivesValue, WritesMemory, BeginsObject, EndsObject, Tells, EndsRun, step_of, ShapeHolds, shaped}
use Rattle.mid_code.proofs.InstructionsFit.{DoesFit, Waits, does_fits}

-- a step leads to a state that fits, or ends the run
abbrev pub IsSound : MidProgram → Step → Type 0
IsSound program (On s events) = Fits program s
IsSound program (Ends end events) = Unit {0}
IsSound program Stuck = ⊥

module _ (program : MidProgram) (s : State) (h : Fits program s) where
  -- the machine alone changes
  machine_fits : (m : Machine) → IsMachine program m → open_count (activations m) ≤ open_count (activations s.machine) → Fits program (record s { machine = m })
  machine_fits m k opens = record {
    machine = k;
    memory = h.memory;
    input = h.input;
    opened = omega (arith, opens, h.opened);
  }

  -- the activation that runs passes its instruction, and sets a register
  passed_machine : IsWithin program (passed s.machine.top) → IsMachine program (with_top (passed s.machine.top) s.machine)
  passed_machine within = top_changed program s.machine (passed s.machine.top) h.machine refl refl within

  given_machine : (target value : ℕ) → IsWithin program (given target value s.machine.top) →
      IsMachine program (with_top (given target value s.machine.top) s.machine)
  given_machine target value within = top_changed program s.machine (given target value s.machine.top) h.machine refl refl within

  read_fits : (target line : ℕ) (events : List Event) (input : List ℕ) (r : Result ℕ Trap) → IfOk r IsValue → All (λ byte. byte < 256) input →
      ((value : ℕ) → IsValue value → IsWithin program (given target value s.machine.top)) →
      IsSound program (after_read target line events (record s { input = input }) r)
  read_fits target line events input (Ok value) small bytes fits = record {
    machine = given_machine target value (fits value small);
    memory = h.memory;
    input = bytes;
    opened = omega (arith, h.opened);
  }
  read_fits target line events input (Err trap) small bytes fits = tt

  write_fits : (line : ℕ) (events : List Event) (r : Result Memory Trap) → IfOk r (AfterWrite s.memory) → IsWithin program (passed s.machine.top) →
      IsSound program (after_write line events s r)
  write_fits line events (Ok memory) after fits = record {
    machine = passed_machine fits;
    memory = after.0;
    input = h.input;
    opened = omega (arith, after.1, h.opened);
  }
  write_fits line events (Err trap) after fits = tt

  begin_fits : (part : Part) (target line : ℕ) (r : Result Memory Trap) → IfOk r (AfterBegin part s.memory) →
      ((number : ℕ) → IsValue (pointer_to number 0) → IsWithin program (given_object target number s.machine.top)) →
      IsSound program (after_begin target line (next_number part s.memory) s r)
  begin_fits part target line (Ok memory) after fits = record {
    machine = top_changed program s.machine (given_object target (next_number part s.memory) s.machine.top) h.machine refl refl
        (fits (next_number part s.memory) after.small);
    memory = after.kept;
    input = h.input;
    opened = omega (arith, after.count, h.opened);
  }
  begin_fits part target line (Err trap) after fits = tt

  closed_count : 1 ≤ length s.machine.top.opened → length (drop 1 s.machine.top.opened) + 1 ≡ length s.machine.top.opened
  closed_count some = counted s.machine.top.opened some where
    counted : {X : Type 0} (xs : List X) → 1 ≤ length xs → length (drop 1 xs) + 1 ≡ length xs
    counted [] some = absurd (omega arith)
    counted (x ∷ xs) some = omega arith

  end_fits : (number : ℕ) → (1 ≤ length s.machine.top.opened) × IsWithin program (passed_close s.machine.top) →
      Fits program (record s { machine = with_top (passed_close s.machine.top) s.machine; memory = finish_of s.memory number })
  end_fits number a =
      let after = finished s.memory number h.memory in
      record {
        machine = top_changed program s.machine (passed_close s.machine.top) h.machine refl refl a.1;
        memory = after.0;
        input = h.input;
        opened = omega (arith, after.1, h.opened, closed_count a.0);
      }

  -- one case for each shape of an access
  shape_fits : (access : Access) (line : ℕ) (shape : Shape) → ShapeHolds program s access shape → AccessFits program s.machine.top access →
      IsSound program (step_of program line s shape)
  shape_fits access line (GivesValue target events value input) k a = read_fits target line events input value (k.small h) (k.bytes h.input) (k.within a)
  shape_fits access line (WritesMemory events memory) k a = write_fits line events memory (k.kept h a) (k.within a)
  shape_fits access line (BeginsObject target cells) k a =
      let own = own_part program s in
      let b : AccessFits program s.machine.top (Opens target cells) = subst (AccessFits program s.machine.top) k a in
      begin_fits own target line (begin_of own s.memory cells) (began s.memory own cells h.memory b.0) b.1
  shape_fits access line (EndsObject number) k a = end_fits number (k a)
  shape_fits access line (Tells events) k a = machine_fits (with_top (passed s.machine.top) s.machine) (passed_machine (k.1 a)) (omega arith)
  shape_fits access line (EndsRun status events) k a = tt

  reach_fits : (access : Access) (line : ℕ) → AccessFits program s.machine.top access → IsSound program (reach program access line s)
  reach_fits access line a =
      let found = shaped program s line access in
      subst (IsSound program) (sym found.is) (shape_fits access line found.shape found.holds a)

  -- a call is entered
  abbrev OpensKept : Entry → Type 0
  OpensKept (Entered machine) = open_count (activations machine) ≤ open_count (activations s.machine)
  OpensKept (Refused trap line) = Unit {0}
  OpensKept NoFunction = Unit {0}

  after_call_fits : (entry : Entry) → EntryFits program entry → OpensKept entry → IsSound program (after_call s entry)
  after_call_fits (Entered machine) fits opens = machine_fits machine fits opens
  after_call_fits (Refused trap line) fits opens = tt
  after_call_fits NoFunction fits opens = fits

  call_fits : (function : ℕ) (args : List ℕ) (target : ℕ) → IsValid program → Waits program s.machine.top function args target →
      IsSound program (after_call s (enter program function args target (waiting s.machine) s.machine.budgets))
  call_fits function args target valid waits =
      let behind = passed_machine waits.behind in
      let callers = waiting s.machine in
      after_call_fits (enter program function args target callers s.machine.budgets)
      (enter_fits program function args target callers s.machine.budgets valid waits.call (waits.takes, waits.behind, behind.below) behind.left)
      (entry_cases program function waits.call.code args target callers s.machine.budgets waits.call.found OpensKept (λ left e. omega arith) (λ trap e. tt))

  -- a function is left
  return_fits : (below : List Activation) (part : Part) (value : ℕ) → s.machine.below ≡ below → ReturnFits program (returned_to below part value s.machine) →
      IsSound program (after_return s (returned_to below part value s.machine))
  return_fits [] part value is fits = fits
  return_fits (caller ∷ rest) part value is fits = machine_fits _ fits (omega (arith, ap open_count is))

  does_sound : (d : Does) → IsValid program → DoesFit program (local_of program s.machine) d → IsSound program (step_by program d s)
  does_sound (Goes next) valid fits =
      machine_fits (with_local program next s.machine) (local_fits program s.machine next h.machine fits) (omega (arith, ap length fits.opened))
  does_sound (Calls function args target) valid fits = call_fits function args target valid fits
  does_sound (Leaves value) valid fits =
      return_fits s.machine.below _ value refl (returned_fits program s.machine value h.machine fits.0 fits.1)
  does_sound (Traps trap line) valid fits = tt
  does_sound (Reaches access line) valid fits = reach_fits access line fits
  does_sound Lost valid fits = fits

-- a step of a state that fits
pub sound_step : (program : MidProgram) (s : State) → IsValid program → Fits program s → IsSound program (step program s)
sound_step program s valid h =
    let l = local_of program s.machine in
    does_sound program s h (does program l) valid (does_fits program l valid h.machine.top).0

pub fits_on : (program : MidProgram) (s next : State) (events : List Event) → IsValid program → Fits program s → step program s ≡ On next events →
    Fits program next
fits_on program s next events valid h e = subst (IsSound program) e (sound_step program s valid h)

not_preceded : (before : List Event) (r : Run) → (r ≡ NoWay → ⊥) → preceded before r ≡ NoWay → ⊥
not_preceded before (Running s events) not h = cc
not_preceded before (Ended end events) not h = cc
not_preceded before NoWay not h = not refl

not_then : (program : MidProgram) (s : Step) (rest : State → Run) → IsSound program s → ((next : State) → Fits program next → rest next ≡ NoWay → ⊥) →
    then_run s rest ≡ NoWay → ⊥
not_then program (On s events) rest sound not h = not_preceded events (rest s) (not s sound) h
not_then program (Ends end events) rest sound not h = cc
not_then program Stuck rest sound not h = sound

pub never_stuck_from : (program : MidProgram) → IsValid program → (steps : ℕ) (s : State) → Fits program s → exec program steps s ≡ NoWay → ⊥
never_stuck_from program valid zero s fits h = cc
never_stuck_from program valid (suc more) s fits h =
    not_then program (step program s) (exec program more) (sound_step program s valid fits) (λ next fits' g. never_stuck_from program valid more next fits' g) h

-- every state of a run fits
abbrev IfRunning : MidProgram → Run → Type 0
IfRunning program (Running s events) = Fits program s
IfRunning program (Ended end events) = Unit {0}
IfRunning program NoWay = Unit {0}

running_preceded : (program : MidProgram) (before : List Event) (r : Run) → IfRunning program r → IfRunning program (preceded before r)
running_preceded program before (Running s events) h = h
running_preceded program before (Ended end events) h = tt
running_preceded program before NoWay h = tt

running_then : (program : MidProgram) (s : Step) (rest : State → Run) → IsSound program s →
    ((next : State) → Fits program next → IfRunning program (rest next)) →
    IfRunning program (then_run s rest)
running_then program (On s events) rest sound more = running_preceded program events (rest s) (more s sound)
running_then program (Ends end events) rest sound more = tt
running_then program Stuck rest sound more = tt

running_fits : (program : MidProgram) → IsValid program → (steps : ℕ) (s : State) → Fits program s → IfRunning program (exec program steps s)
running_fits program valid zero s fits = fits
running_fits program valid (suc more) s fits = running_then program (step program s) (exec program more) (sound_step program s valid fits) (running_fits program valid more)

pub fits_after : (program : MidProgram) → IsValid program → (steps : ℕ) (s next : State) (events : List Event) → Fits program s →
    exec program steps s ≡ Running next events → Fits program next
fits_after program valid steps s next events fits h = subst (IfRunning program) h (running_fits program valid steps s fits)
