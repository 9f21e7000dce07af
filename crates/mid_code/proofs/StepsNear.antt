-- Each step of a run leaves fewer steps to go, and a run of a valid program ends after fewer steps and events than its bound.
use Rattle.std.proofs.Common.{◌≡◌, ℕ, ◌+◌, ◌*◌, ◌<◌, ◌≤◌, List, [], ◌∷◌, length, Result, Ok, Err, refl, sym, ap, subst, arith}
use Rattle.srmt_base.specs.declared.budgets.Budget.{Budget}
use Rattle.srmt_base.specs.declared.budgets.Budgets.{Budgets}
use Rattle.srmt_base.specs.declared.event.Event.{Event}
use Rattle.srmt_base.specs.declared.part.Part.{Part}
use Rattle.srmt_base.specs.declared.part.Part.TheVariants.{Protected, Binary}
use Rattle.srmt_base.specs.declared.trap.Trap.{Trap}
use Rattle.srmt_base.specs.Budgets.{budget_of, with_budget, spent, leave_of}
use Rattle.srmt_base.specs.Memory.{Memory, begin_of, next_number}
use Rattle.mid_code.specs.declared.program.MidProgram.{MidProgram}
use Rattle.mid_code.specs.declared.access.Access.{Access}
use Rattle.mid_code.specs.Valid.{IsValid}
use Rattle.mid_code.specs.Machine.{Activation, Does, Goes, Calls, Leaves, Traps, Reaches, Lost, Entry, passed, given, given_object, passed_close, part_of_function, local_of, with_top, activation_of, waiting, enter, resumed, returned_to, does}
use Rattle.mid_code.specs.Meaning.{State, Step, On, Ends, Stuck, after_read, after_write, after_begin, after_call, after_return, own_part, reach, step, step_by}
use Rattle.mid_code.specs.Bounds.{to_turn, all_to_turn, left_to_go, Nears}
use Rattle.mid_code.specs.Fits.{IsMachine, Fits}
use Rattle.mid_code.proofs.MachineFits.{entry_cases, enter_spends, begins}
use Rattle.mid_code.proofs.AccessShapes.{Shape, GivesValue, WritesMemory, BeginsObject, EndsObject, Tells, EndsRun, step_of, ShapeHolds, shaped}
use Rattle.mid_code.proofs.InstructionsFit.{DoesFit, Waits, few_to_turn, does_fits}

-- a step leaves fewer steps to go, with at most one event
abbrev pub StepNears : MidProgram → State → Step → Type 0
StepNears program s (On next events) = (left_to_go program next.machine < left_to_go program s.machine) × (length events ≤ 1)
StepNears program s (Ends end events) = length events ≤ 1
StepNears program s Stuck = Unit {0}

module _ (program : MidProgram) (s : State) where
  -- the activation that runs one place further on
  IsNear : Type 0
  IsNear = to_turn program (passed s.machine.top) < to_turn program s.machine.top

  top_nearer : (a : Activation) → to_turn program a < to_turn program s.machine.top → left_to_go program (with_top a s.machine) < left_to_go program s.machine
  top_nearer a near = omega (arith, near)

  read_nears : (target line : ℕ) (events : List Event) (input : List ℕ) (r : Result ℕ Trap) → IsNear → length events ≤ 1 →
      StepNears program s (after_read target line events (record s { input = input }) r)
  unfolding IsNear
  read_nears target line events input (Ok value) near one = (top_nearer (given target value s.machine.top) near, one)
  read_nears target line events input (Err trap) near one = omega arith

  write_nears : (line : ℕ) (events : List Event) (r : Result Memory Trap) → IsNear → length events ≤ 1 → StepNears program s (after_write line events s r)
  unfolding IsNear
  write_nears line events (Ok memory) near one = (top_nearer (passed s.machine.top) near, one)
  write_nears line events (Err trap) near one = omega arith

  begin_nears : (target line number : ℕ) (r : Result Memory Trap) → IsNear → StepNears program s (after_begin target line number s r)
  unfolding IsNear
  begin_nears target line number (Ok memory) near = (top_nearer (given_object target number s.machine.top) near, omega arith)
  begin_nears target line number (Err trap) near = omega arith

  -- one case for each shape of an access
  shape_nears : (access : Access) (line : ℕ) (shape : Shape) → ShapeHolds program s access shape → IsNear → StepNears program s (step_of program line s shape)
  unfolding IsNear
  shape_nears access line (GivesValue target events value input) h near = read_nears target line events input value near h.one
  shape_nears access line (WritesMemory events memory) h near = write_nears line events memory near h.one
  shape_nears access line (BeginsObject target cells) h near =
      begin_nears target line (next_number (own_part program s) s.memory) (begin_of (own_part program s) s.memory cells) near
  shape_nears access line (EndsObject number) h near = (top_nearer (passed_close s.machine.top) near, omega arith)
  shape_nears access line (Tells events) h near = (top_nearer (passed s.machine.top) near, h.0)
  shape_nears access line (EndsRun status events) h near = h

  reach_nears : (access : Access) (line : ℕ) → IsNear → StepNears program s (reach program access line s)
  reach_nears access line near =
      let found = shaped program s line access in
      subst (StepNears program s) (sym found.is) (shape_nears access line found.shape found.holds near)

  -- the activation that runs goes on, with another budget of its part
  local_nearer : (part : Part) (budget : Budget) (a : Activation) →
      65536 * budget.turns + to_turn program a < 65536 * (budget_of part s.machine.budgets).turns + to_turn program s.machine.top →
      left_to_go program (record s.machine { top = a; budgets = with_budget part budget s.machine.budgets }) < left_to_go program s.machine
  local_nearer Protected budget a near = omega (arith, near)
  local_nearer Binary budget a near = omega (arith, near)

  -- a function is entered
  entered_nearer : (part : Part) (left : Budgets) (callee : Activation) → to_turn program callee ≤ 65535 → 1 ≤ (budget_of part s.machine.budgets).turns →
      with_budget part (spent (budget_of part s.machine.budgets)) s.machine.budgets ≡ left → to_turn program (passed s.machine.top) < to_turn program s.machine.top →
      left_to_go program (record { top = callee; below = waiting s.machine; budgets = left }) < left_to_go program s.machine
  entered_nearer Protected left callee few some is near =
      omega (arith, few, some, near, ap (λ (b : Budgets). b.protected.turns) is, ap (λ (b : Budgets). b.binary.turns) is)
  entered_nearer Binary left callee few some is near =
      omega (arith, few, some, near, ap (λ (b : Budgets). b.protected.turns) is, ap (λ (b : Budgets). b.binary.turns) is)

  abbrev CallNears : Entry → Type 0
  CallNears entry = StepNears program s (after_call s entry)

  call_nears : (function : ℕ) (args : List ℕ) (target : ℕ) → IsValid program → Waits program s.machine.top function args target →
      to_turn program (passed s.machine.top) < to_turn program s.machine.top → CallNears (enter program function args target (waiting s.machine) s.machine.budgets)
  call_nears function args target valid waits near =
      let call = waits.call in
      let part = part_of_function program function in
      let callee = activation_of function call.code args target in
      let few = few_to_turn program callee valid (begins program function call.code args target valid call.found call.room call.values) in
      entry_cases program function call.code args target (waiting s.machine) s.machine.budgets call.found CallNears
      (λ left e. (let spends = enter_spends part s.machine.budgets left e in
      (entered_nearer part left callee few spends.some_turns spends.left_is near, omega arith)))
      (λ trap e. omega arith)

  -- a function is left: its caller goes on where it stands
  left_nearer : (part : Part) (caller : Activation) (rest : List Activation) (value : ℕ) → s.machine.below ≡ caller ∷ rest → 1 ≤ to_turn program s.machine.top →
      left_to_go program (record { top = resumed s.machine.top.into value caller; below = rest; budgets = leave_of part s.machine.budgets }) < left_to_go program s.machine
  left_nearer Protected caller rest value is some = omega (arith, ap (all_to_turn program) is, some)
  left_nearer Binary caller rest value is some = omega (arith, ap (all_to_turn program) is, some)

  return_nears : (below : List Activation) (part : Part) (value : ℕ) → s.machine.below ≡ below → 1 ≤ to_turn program s.machine.top →
      StepNears program s (after_return s (returned_to below part value s.machine))
  return_nears [] part value is some = tt
  return_nears (caller ∷ rest) part value is some = (left_nearer part caller rest value is some, omega arith)

  does_near : (d : Does) → IsValid program → DoesFit program (local_of program s.machine) d → Nears program (local_of program s.machine) d →
      StepNears program s (step_by program d s)
  unfolding IsNear
  does_near (Goes next) valid fits near = (local_nearer (part_of_function program s.machine.top.function) next.budget next.at near, omega arith)
  does_near (Calls function args target) valid fits near = call_nears function args target valid fits near
  does_near (Leaves value) valid fits some = return_nears s.machine.below _ value refl some
  does_near (Traps trap line) valid fits near = omega arith
  does_near (Reaches access line) valid fits near = reach_nears access line near
  does_near Lost valid fits near = tt

-- a step of a state that fits
pub step_nears : (program : MidProgram) (s : State) → IsValid program → IsMachine program s.machine → StepNears program s (step program s)
step_nears program s valid h =
    let l = local_of program s.machine in
    let sound = does_fits program l valid h.top in
    does_near program s (does program l) valid sound.0 sound.1

-- a step after which the run goes on leaves fewer
pub left_to_go-step : (program : MidProgram) (s next : State) (events : List Event) → IsValid program → Fits program s → step program s ≡ On next events →
    left_to_go program next.machine < left_to_go program s.machine
left_to_go-step program s next events valid fits e = (subst (StepNears program s) e (step_nears program s valid fits.machine)).0
