-- The budget of cells stands still in a run, and beginning an object passes it exactly where the trap says so.
use Rattle.std.proofs.Common.{◌≡◌, ◌≢◌, ℕ, zero, suc, ◌+◌, ◌<◌, ◌⊎◌, List, [], Option, Some, None, Result, Ok, Err, Bool, true, false, inl, inr, refl, sym, ap, ◌∙◌, subst}
use Rattle.std.specs.Prelude.{IfOk, IfErr, ◌==◌, nat_lt, if◌then◌else◌}
use Rattle.std.proofs.lemmas.Bool.{ltb-true, lt-ltb, true≢false}
use Rattle.srmt_base.specs.declared.budgets.Budget.{Budget}
use Rattle.srmt_base.specs.declared.budgets.Budgets.{Budgets}
use Rattle.srmt_base.specs.declared.event.Event.{Event}
use Rattle.srmt_base.specs.declared.limits.Limits.{Limits}
use Rattle.srmt_base.specs.declared.part.Part.{Part}
use Rattle.srmt_base.specs.declared.part.Part.TheVariants.{Protected, Binary}
use Rattle.srmt_base.specs.declared.trap.Trap.{Trap}
use Rattle.srmt_base.specs.declared.trap.Trap.TheVariants.{Turns, Depth, Store as StoreTrap}
use Rattle.srmt_base.specs.declared.trap.SourceEnd.TheVariants.{Trap as TrapEnd}
use Rattle.srmt_base.specs.Budgets.{budget_of, with_result, spent}
use Rattle.srmt_base.specs.Objects.{begun, end_of, live_cells}
use Rattle.srmt_base.specs.Memory.{Memory, Count, last_number, objects_of, part_of_number, changed, begun_if, next_number, begin_of}
use Rattle.mid_code.specs.declared.program.MidFunction.{MidFunction}
use Rattle.mid_code.specs.declared.program.MidLine.{MidLine}
use Rattle.mid_code.specs.declared.program.MidProgram.{MidProgram}
use Rattle.mid_code.specs.declared.mid.Mid.TheVariants.{Open}
use Rattle.mid_code.specs.declared.access.Access.{Access}
use Rattle.mid_code.specs.declared.access.Access.TheVariants.{Opens}
use Rattle.mid_code.specs.Program.{function_at, line_at}
use Rattle.mid_code.specs.Machine.{Activation, Machine, Does, Goes, Calls, Leaves, Traps, Reaches, Lost, Entry, Entered, Refused, NoFunction, local_of, part_of_function, waiting, activation_of, entry_by, entry_in, enter, returned, act, act_at, does}
use Rattle.mid_code.specs.Meaning.{State, Step, On, Ends, Stuck, Run, Running, Ended, NoWay, after_read, after_write, after_begin, after_call, after_return, own_part, reach, step, step_by, preceded, then_run, exec, started}
use Rattle.mid_code.proofs.OtherTraps.{IsOther}
use Rattle.mid_code.proofs.MemoryKept.{HasCells, kept_part}
use Rattle.mid_code.proofs.AccessShapes.{Shape, GivesValue, WritesMemory, BeginsObject, EndsObject, Tells, EndsRun, step_of, ShapeHolds, shaped}
use Rattle.mid_code.proofs.InstructionsCounted.{OpensBy, not_store, act_opens}

begin_kept : (budget : ℕ) (memory : Memory) (part : Part) (cells : ℕ) (r : Result Count Trap) → HasCells budget memory →
    IfOk (changed part memory (begun_if r (objects_of part memory) cells)) (HasCells budget)
begin_kept budget memory part cells (Err trap) h = tt
begin_kept budget memory part cells (Ok count) h =
    kept_part budget memory part (begun (objects_of part memory) (next_number part memory) cells false) h (h part)

-- a step that goes on keeps the budgets
abbrev pub IfCells : ℕ → Step → Type 0
IfCells cells (On next events) = HasCells cells next.memory
IfCells cells (Ends end events) = Unit {0}
IfCells cells Stuck = Unit {0}

module _ (budget : ℕ) (program : MidProgram) (s : State) (h : HasCells budget s.memory) where
  read_cells : (target line : ℕ) (events : List Event) (input : List ℕ) (r : Result ℕ Trap) →
      IfCells budget (after_read target line events (record s { input = input }) r)
  read_cells target line events input (Ok value) = h
  read_cells target line events input (Err trap) = tt

  write_cells : (line : ℕ) (events : List Event) (r : Result Memory Trap) → IfOk r (HasCells budget) → IfCells budget (after_write line events s r)
  write_cells line events (Ok memory) k = k
  write_cells line events (Err trap) k = tt

  begin_cells : (target line number : ℕ) (r : Result Memory Trap) → IfOk r (HasCells budget) → IfCells budget (after_begin target line number s r)
  begin_cells target line number (Ok memory) k = k
  begin_cells target line number (Err trap) k = tt

  -- one case for each shape of an access
  shape_cells : (access : Access) (line : ℕ) (shape : Shape) → ShapeHolds program s access shape → IfCells budget (step_of program line s shape)
  shape_cells access line (GivesValue target events value input) k = read_cells target line events input value
  shape_cells access line (WritesMemory events memory) k = write_cells line events memory (k.cells budget h)
  shape_cells access line (BeginsObject target cells) k =
      let part = own_part program s in
      begin_cells target line (next_number part s.memory) (begin_of part s.memory cells) (begin_kept budget s.memory part cells _ h)
  shape_cells access line (EndsObject number) k =
      let part = part_of_number number in
      kept_part budget s.memory part (end_of (objects_of part s.memory) number) h (h part)
  shape_cells access line (Tells events) k = h
  shape_cells access line (EndsRun status events) k = tt

  reach_cells : (access : Access) (line : ℕ) → IfCells budget (reach program access line s)
  reach_cells access line =
      let found = shaped program s line access in
      subst (IfCells budget) (sym found.is) (shape_cells access line found.shape found.holds)

  call_cells : (entry : Entry) → IfCells budget (after_call s entry)
  call_cells (Entered machine) = h
  call_cells (Refused trap line) = tt
  call_cells NoFunction = tt

  return_cells : (r : Option Machine) → IfCells budget (after_return s r)
  return_cells (Some machine) = h
  return_cells None = tt

  does_cells : (d : Does) → IfCells budget (step_by program d s)
  does_cells (Goes next) = h
  does_cells (Calls function args target) = call_cells (enter program function args target (waiting s.machine) s.machine.budgets)
  does_cells (Leaves value) = return_cells (returned program value s.machine)
  does_cells (Traps trap line) = tt
  does_cells (Reaches access line) = reach_cells access line
  does_cells Lost = tt

abbrev IfRunningCells : ℕ → Run → Type 0
IfRunningCells cells (Running s events) = HasCells cells s.memory
IfRunningCells cells (Ended end events) = Unit {0}
IfRunningCells cells NoWay = Unit {0}

preceded_cells : (cells : ℕ) (before : List Event) (r : Run) → IfRunningCells cells r → IfRunningCells cells (preceded before r)
preceded_cells cells before (Running s events) h = h
preceded_cells cells before (Ended end events) h = tt
preceded_cells cells before NoWay h = tt

then_cells : (cells : ℕ) (t : Step) (rest : State → Run) → IfCells cells t → ((next : State) → HasCells cells next.memory → IfRunningCells cells (rest next)) →
    IfRunningCells cells (then_run t rest)
then_cells cells (On next events) rest h more = preceded_cells cells events (rest next) (more next h)
then_cells cells (Ends end events) rest h more = tt
then_cells cells Stuck rest h more = tt

run_cells : (cells : ℕ) (program : MidProgram) (steps : ℕ) (s : State) → HasCells cells s.memory → IfRunningCells cells (exec program steps s)
run_cells cells program zero s h = h
run_cells cells program (suc more) s h =
    then_cells cells (step program s) (exec program more) (does_cells cells program s h (does program (local_of program s.machine))) (run_cells cells program more)

pub cells_after : (program : MidProgram) (input : List ℕ) (limits : Limits) (steps : ℕ) (s : State) (events : List Event) →
    exec program steps (started program input limits) ≡ Running s events → HasCells limits.cells s.memory
cells_after program input limits steps s events e = subst (IfRunningCells limits.cells) e (run_cells limits.cells program steps (started program input limits) at_start) where
  at_start : (part : Part) → (objects_of part (started program input limits).memory).budget ≡ limits.cells
  at_start Protected = refl
  at_start Binary = refl

-- where an object cannot begin
abbrev pub HasNoRoom : ℕ → Part → Memory → ℕ → Type 0
HasNoRoom budget part memory cells = (last_number part < next_number part memory) ⊎ (budget < live_cells (objects_of part memory) + cells)

module _ (memory : Memory) (part : Part) (cells : ℕ) where
  -- beginning, by both tests
  abbrev begun_by : Bool → Bool → Result Memory Trap
  begun_by used full =
      let s = objects_of part memory in
      changed part memory (begun_if (if used then Err StoreTrap else if full then Err StoreTrap
      else Ok (record { fresh = s.fresh + 1; cells = live_cells s + cells; budget = s.budget })) s cells)

  no_room_by : (trap : Trap) (used full : Bool) → nat_lt (last_number part) (next_number part memory) ≡ used →
      nat_lt (objects_of part memory).budget (live_cells (objects_of part memory) + cells) ≡ full → begun_by used full ≡ Err trap →
      HasNoRoom (objects_of part memory).budget part memory cells
  no_room_by trap true full last room e = inl (ltb-true (last_number part) (next_number part memory) last)
  no_room_by trap false true last room e = inr (ltb-true (objects_of part memory).budget (live_cells (objects_of part memory) + cells) room)
  no_room_by trap false false last room e = absurd (cc)

  no_room : (trap : Trap) → begin_of part memory cells ≡ Err trap → HasNoRoom (objects_of part memory).budget part memory cells
  no_room trap e =
      no_room_by trap (nat_lt (last_number part) (next_number part memory)) (nat_lt (objects_of part memory).budget (live_cells (objects_of part memory) + cells)) refl refl e

  no_room_back_by : (used full : Bool) → (used ≡ true) ⊎ (full ≡ true) → begun_by used full ≡ Err StoreTrap
  no_room_back_by true full h = refl
  no_room_back_by false true h = refl
  no_room_back_by false false (inl e) = absurd (true≢false (sym e))
  no_room_back_by false false (inr e) = absurd (true≢false (sym e))

  no_room_back : HasNoRoom (objects_of part memory).budget part memory cells → begin_of part memory cells ≡ Err StoreTrap
  no_room_back h =
      let s = objects_of part memory in
      no_room_back_by (nat_lt (last_number part) s.fresh) (nat_lt s.budget (live_cells s + cells))
      (elim h as (λ _. (nat_lt (last_number part) s.fresh ≡ true) ⊎ (nat_lt s.budget (live_cells s + cells) ≡ true)) [
        | inl last ↦ inl (lt-ltb (last_number part) s.fresh last)
        | inr room ↦ inr (lt-ltb s.budget (live_cells s + cells) room)
      ])

-- a step that is no trap by that budget
abbrev IsNoStore : Step → Type 0
IsNoStore t = (line : ℕ) → t ≡ Ends (TrapEnd StoreTrap line) [] → ⊥

module _ (s : State) (at : ℕ) where
  read_by : (target : ℕ) (events : List Event) (input : List ℕ) (r : Result ℕ Trap) → IfErr r IsOther →
      IsNoStore (after_read target at events (record s { input = input }) r)
  read_by target events input (Ok value) h line e = cc
  read_by target events input (Err trap) h line e = let same : trap ≡ StoreTrap = cc in not_store trap h same

  write_by : (events : List Event) (r : Result Memory Trap) → IfErr r IsOther → IsNoStore (after_write at events s r)
  write_by events (Ok memory) h line e = cc
  write_by events (Err trap) h line e = let same : trap ≡ StoreTrap = cc in not_store trap h same

-- nor is the entry of a function
abbrev NoStoreEntry : Entry → Type 0
NoStoreEntry (Entered machine) = Unit {0}
NoStoreEntry (Refused trap line) = trap ≢ StoreTrap
NoStoreEntry NoFunction = Unit {0}

entry_no_store : (program : MidProgram) (function : ℕ) (args : List ℕ) (into : ℕ) (callers : List Activation) (budgets : Budgets) →
    NoStoreEntry (enter program function args into callers budgets)
entry_no_store program function args into callers budgets = by_function (function_at program function) where
  by_tests : (line : ℕ) (a : Activation) (part : Part) (deep used : Bool) (budget : Budget) →
      NoStoreEntry (entry_by line a callers (with_result part budgets (if deep then Err Depth else if used then Err Turns else Ok budget)))
  by_tests line a part true used budget = λ e. cc
  by_tests line a part false true budget = λ e. cc
  by_tests line a part false false budget = tt

  by_function : (f : Option MidFunction) → NoStoreEntry (entry_in program function f args into callers budgets)
  by_function None = tt
  by_function (Some f) =
      let part = part_of_function program function in
      let budget = budget_of part budgets in
      by_tests f.line (activation_of function f args into) part (budget.depth == 0) (budget.turns == 0) (spent budget)

-- the next instruction begins an object for which there is no room
abbrev pub OpensPast : ℕ → MidProgram → State → ℕ → Option MidLine → Type 0
OpensPast budget program s line l =
    (target cells : ℕ) × (l ≡ Some (record { line = line; mid = Open target cells })) × HasNoRoom budget (own_part program s) s.memory cells

module _ (budget : ℕ) (program : MidProgram) (s : State) (line : ℕ) (h : HasCells budget s.memory) where
  begin_trapped : (target cells at : ℕ) (r : Result Memory Trap) → begin_of (own_part program s) s.memory cells ≡ r →
      after_begin target at (next_number (own_part program s) s.memory) s r ≡ Ends (TrapEnd StoreTrap line) [] →
      (at ≡ line) × HasNoRoom budget (own_part program s) s.memory cells
  begin_trapped target cells at (Ok memory) is e = absurd (cc)
  begin_trapped target cells at (Err trap) is e =
      let same : at ≡ line = cc in
      (same, subst (λ b. HasNoRoom b (own_part program s) s.memory cells) (h (own_part program s)) (no_room s.memory (own_part program s) cells trap is))

  begin_forward : (l : MidLine) (target cells at : ℕ) → OpensBy l.mid l.line (Reaches (Opens target cells) at) →
      step_of program at s (BeginsObject target cells) ≡ Ends (TrapEnd StoreTrap line) [] → OpensPast budget program s line (Some l)
  begin_forward l target cells at o e =
      let done = begin_trapped target cells at (begin_of (own_part program s) s.memory cells) refl e in
      let where_it_is : l.line ≡ line = o.1 ∙ done.0 in
      (target, cells, ap (λ n. Some (record { line = n; mid = l.mid })) where_it_is ∙ ap (λ m. Some (record { line = line; mid = m })) o.0, done.1)

  -- of the shapes only the beginning of an object is
  shape_forward : (l : MidLine) (access : Access) (at : ℕ) (shape : Shape) → ShapeHolds program s access shape → OpensBy l.mid l.line (Reaches access at) →
      step_of program at s shape ≡ Ends (TrapEnd StoreTrap line) [] → OpensPast budget program s line (Some l)
  shape_forward l access at (GivesValue target events value input) k o e = absurd (read_by s at target events input value k.other line e)
  shape_forward l access at (WritesMemory events memory) k o e = absurd (write_by s at events memory k.other line e)
  shape_forward l access at (BeginsObject target cells) k o e =
      begin_forward l target cells at (subst (λ a. OpensBy l.mid l.line (Reaches a at)) k o) e
  shape_forward l access at (EndsObject number) k o e = absurd (cc)
  shape_forward l access at (Tells events) k o e = absurd (cc)
  shape_forward l access at (EndsRun status events) k o e = absurd (cc)

  reach_forward : (l : MidLine) (access : Access) (at : ℕ) → OpensBy l.mid l.line (Reaches access at) →
      reach program access at s ≡ Ends (TrapEnd StoreTrap line) [] → OpensPast budget program s line (Some l)
  reach_forward l access at o e =
      let found = shaped program s at access in
      shape_forward l access at found.shape found.holds o (sym found.is ∙ e)

  call_forward : (l : MidLine) (entry : Entry) → NoStoreEntry entry → after_call s entry ≡ Ends (TrapEnd StoreTrap line) [] →
      OpensPast budget program s line (Some l)
  call_forward l (Entered machine) other e = absurd (cc)
  call_forward l (Refused trap at) other e = let same : trap ≡ StoreTrap = cc in absurd (other same)
  call_forward l NoFunction other e = absurd (cc)

  return_forward : (l : MidLine) (r : Option Machine) → after_return s r ≡ Ends (TrapEnd StoreTrap line) [] → OpensPast budget program s line (Some l)
  return_forward l (Some machine) e = absurd (cc)
  return_forward l None e = absurd (cc)

  store_forward_by : (l : MidLine) (d : Does) → OpensBy l.mid l.line d → step_by program d s ≡ Ends (TrapEnd StoreTrap line) [] →
      OpensPast budget program s line (Some l)
  store_forward_by l (Goes next) o e = absurd (cc)
  store_forward_by l (Calls function args target) o e =
      let callers = waiting s.machine in
      call_forward l (enter program function args target callers s.machine.budgets) (entry_no_store program function args target callers s.machine.budgets) e
  store_forward_by l (Leaves value) o e = return_forward l (returned program value s.machine) e
  store_forward_by l (Traps trap at) o e = let same : trap ≡ StoreTrap = cc in absurd (o same)
  store_forward_by l (Reaches access at) o e = reach_forward l access at o e
  store_forward_by l Lost o e = absurd (cc)

  store_forward_at : (l : Option MidLine) → step_by program (act_at program l (local_of program s.machine)) s ≡ Ends (TrapEnd StoreTrap line) [] →
      OpensPast budget program s line l
  store_forward_at None e = absurd (cc)
  store_forward_at (Some l) e =
      let m = local_of program s.machine in
      store_forward_by l (act program l.mid l.line m) (act_opens program m l.line l.mid) e

  pub store_forward : step program s ≡ Ends (TrapEnd StoreTrap line) [] →
      OpensPast budget program s line (line_at program s.machine.top.function s.machine.top.place)
  unfolding does
  store_forward e = store_forward_at (line_at program s.machine.top.function s.machine.top.place) e

  pub store_back : OpensPast budget program s line (line_at program s.machine.top.function s.machine.top.place) →
      step program s ≡ Ends (TrapEnd StoreTrap line) []
  unfolding does
  store_back o =
      let part = own_part program s in
      let past : HasNoRoom (objects_of part s.memory).budget part s.memory o.1 = subst (λ b. HasNoRoom b part s.memory o.1) (sym (h part)) o.3 in
      ap (λ l. step_by program (act_at program l (local_of program s.machine)) s) o.2
      ∙ ap (after_begin o.0 line (next_number part s.memory) s) (no_room_back s.memory part o.1 past)
