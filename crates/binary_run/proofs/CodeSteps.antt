-- What the code does to its fields is a step of the binary functions.
use Rattle.std.proofs.Common.{◌≡◌, ℕ, ◌+◌, ◌<◌, ◌≤◌, ◌^◌, List, [], ◌∷◌, length, Some, None, Result, Ok, Err, refl, sym, ap, ◌∙◌, subst, Fits, w8, slice_index_or, arith}
use Rattle.std.specs.Prelude.{All, drop}
use Rattle.std.proofs.lemmas.List.{get_or_default}
use Rattle.std.proofs.lemmas.List.Elements.{All-drop}
use Rattle.srmt_base.specs.declared.event.Event.{Event}
use Rattle.srmt_base.specs.declared.part.Part.{Part}
use Rattle.srmt_base.specs.declared.part.Part.TheVariants.{Protected, Binary}
use Rattle.srmt_base.specs.declared.trap.Trap.{Trap}
use Rattle.srmt_base.specs.declared.trap.SourceEnd.{SourceEnd}
use Rattle.srmt_base.specs.Objects.{Objects}
use Rattle.srmt_base.specs.Memory.{Memory, read_of, write_of, begin_of, next_number}
use Rattle.mid_code.specs.declared.program.MidProgram.{MidProgram}
use Rattle.mid_code.specs.declared.program.MidLine.{MidLine}
use Rattle.mid_code.specs.declared.access.Access.{Access}
use Rattle.mid_code.specs.declared.access.Access.TheVariants.{Loads, Stores, VolatileLoads, VolatileStores, Opens, Closes, Puts, Gets, Exits}
use Rattle.mid_code.specs.Program.{line_at}
use Rattle.mid_code.specs.Valid.{IsValid}
use Rattle.mid_code.specs.Machine.{Activation, Machine, Does, Goes, Reaches, activations, live_of, one_if, local_of, with_local, with_top, resumed, act}
use Rattle.mid_code.specs.Meaning.{State, Step, On, Ends, Stuck, after_read, after_write, after_begin, own_part, reach}
use Rattle.mid_code.specs.Fits.{IsWithin}
use Rattle.mid_code.proofs.Naming.{function_kept}
use Rattle.mid_code.proofs.InstructionsFit.{next_found, does-at}
use Rattle.frames.specs.Kept.{Kept, TakesResult, IsPopped, with_machine, depths}
use Rattle.frames.specs.Acts.{CanEnter, IsReady, HasGone}
use Rattle.frames.proofs.Ready.{ready_at}
use Rattle.binary_run.specs.Binary.{Next, Enters, Runs, Stopped, BinaryState, Went, Ended, After, after_step, enters, meant, runs, gives_back, step_next, binary_step}
use Rattle.binary_run.specs.Fits.{MayEnter, FitsNext, FitsBinary, AreSmall, said}
use Rattle.binary_run.specs.Bounds.{IsNearer}
use Rattle.binary_run.specs.declared.binary.BinaryStep.{BinaryStep}
use Rattle.binary_run.specs.declared.binary.BinaryStep.TheVariants as code
use Rattle.binary_run.proofs.StackFits.{part_of, top_within, has_caller}
use Rattle.binary_run.proofs.StepFits.{HoldsSmall, HasNeared, args_room}
use Rattle.binary_run.proofs.StatesFit.{few_activations}

-- the state that some fields are
abbrev pub state_in : Machine → Objects → ℕ → Next → BinaryState
state_in machine objects entered next = record { machine = machine; objects = objects; entered = entered; next = next }

-- a binary function runs
module _ (program : MidProgram) (b : BinaryState) (valid : IsValid program) (h : FitsBinary program b) (runs_next : b.next ≡ Runs) where
  pub own : part_of program b.machine.top ≡ Binary
  own = subst (FitsNext program b.machine.top) runs_next h.next

  pub runs_within : IsWithin program b.machine.top
  runs_within = top_within program b.machine own h.machine

  pub no_line : line_at program b.machine.top.function b.machine.top.place ≡ None → ⊥
  no_line none = let l = next_found program b.machine.top runs_within in absurd (cc)

  pub ready : (line : MidLine) → line_at program b.machine.top.function b.machine.top.place ≡ Some line → IsReady program b.machine.top line.mid
  ready line at = ready_at program b.machine.top line valid runs_within at

  pub small_place : b.machine.top.place + 1 < 2 ^ 32
  small_place =
      let w = runs_within in
      omega (arith, w.place, (function_kept program b.machine.top.function w.code valid w.found).limit)

  pub takes_result : TakesResult b.machine.top.into b.machine.below
  takes_result = has_caller program b.machine.top b.machine.below valid own h.machine.below

  pub room_for_stub : length (activations b.machine) + depths b.machine.budgets < 2001
  room_for_stub =
      omega (arith, few_activations program b h, ap (one_if Protected) own, ap (λ x. x.depth) h.machine.uncounted)

-- a binary function may be entered
pub can_enter : (program : MidProgram) (function : ℕ) (args : List ℕ) → IsValid program → MayEnter program function args → CanEnter program function (length args)
can_enter program function args valid may = record {
  code = may.function;
  found = may.found;
  few = (function_kept program function may.function valid may.found).registers;
  room = args_room program function args may.function valid may may.found;
}

live_few : (program : MidProgram) (part : Part) (below : List Activation) → live_of program part below ≤ length below
live_few program part [] = omega arith
live_few program part (a ∷ rest) = by part (part_of program a) (live_few program part rest)
  where
    by : (part own : Part) → live_of program part rest ≤ length rest → one_if part own + live_of program part rest ≤ length (a ∷ rest)
    by Protected Protected few = omega (arith, few)
    by Protected Binary few = omega (arith, few)
    by Binary Protected few = omega (arith, few)
    by Binary Binary few = omega (arith, few)

one_few : (part own : Part) → one_if part own ≤ 1
one_few Protected Protected = omega arith
one_few Protected Binary = omega arith
one_few Binary Protected = omega arith
one_few Binary Binary = omega arith

pub few_entered : (program : MidProgram) (b : BinaryState) → FitsBinary program b → b.entered ≤ 2000
few_entered program b h =
    omega (arith, h.entered, few_activations program b h, live_few program Protected b.machine.below, one_few Protected (part_of program b.machine.top))

-- what the instruction does is the step
pub unmoved : (program : MidProgram) (b : BinaryState) (shared : Objects) (input : List ℕ) (line : MidLine) (d : Does) (before after : Kept)
    (objects : Objects) (entered : ℕ) (next : Next) (x : After) → state_in before.machine objects entered next ≡ b → b.next ≡ Runs →
    line_at program before.machine.top.function before.machine.top.place ≡ Some line → act program line.mid line.line (local_of program before.machine) ≡ d →
    after ≡ before → runs program d (state_in after.machine objects entered next) shared input ≡ Some x → binary_step program b shared input ≡ Some x
unmoved program b shared input line d before after objects entered next x view is at e same done =
    let here = state_in before.machine objects entered next in
    let runs_here : here.next ≡ Runs = subst (λ (s : BinaryState). s.next ≡ Runs) (sym view) is in
    let done_here : runs program d here shared input ≡ Some x =
    subst (λ (k : Kept). runs program d (state_in k.machine objects entered next) shared input ≡ Some x) same done in
    let step : binary_step program here shared input ≡ Some x =
    ap (λ n. step_next n program here shared input) runs_here
    ∙ ap (λ y. runs program y here shared input) (does-at program (local_of program before.machine) line at ∙ e) ∙ done_here in
    subst (λ s. binary_step program s shared input ≡ Some x) view step

-- the activation has gone on
pub gone_on : (program : MidProgram) (b : BinaryState) (shared : Objects) (input : List ℕ) (line : MidLine) (before after : Kept)
    (objects : Objects) (entered : ℕ) (next : Next) → state_in before.machine objects entered next ≡ b → b.next ≡ Runs →
    line_at program before.machine.top.function before.machine.top.place ≡ Some line →
    HasGone program (act program line.mid line.line (local_of program before.machine)) before after →
    binary_step program b shared input ≡ Some (record { state = state_in after.machine objects entered next; shared = shared; input = input; events = []; answer = Went })
gone_on program b shared input line before after objects entered next view is at gone =
    let next_is : Runs ≡ next = sym (subst (λ (s : BinaryState). s.next ≡ Runs) (sym view) is) in
    let machine : with_local program gone.local before.machine ≡ after.machine = ap (λ (k : Kept). k.machine) (sym gone.stands) in
    unmoved program b shared input line (Goes gone.local) before before objects entered next _ view is at gone.goes refl
    (ap (λ n. Some (record { state = state_in (with_local program gone.local before.machine) objects entered n; shared = shared; input = input; events = []; answer = Went })) next_is
    ∙ ap (λ m. Some (record { state = state_in m objects entered next; shared = shared; input = input; events = []; answer = Went })) machine)

-- an access other than `Get` does not look at the input
abbrev with_input : List ℕ → Step → Step
with_input input (On s events) = On (record s { input = input }) events
with_input input (Ends end events) = Ends end events
with_input input Stuck = Stuck

module _ (program : MidProgram) (s : State) (input : List ℕ) where
  abbrev other : State
  other = record s { input = input }

  read_apart : (target line : ℕ) (events : List Event) (r : Result ℕ Trap) → after_read target line events other r ≡ with_input input (after_read target line events s r)
  read_apart target line events (Ok value) = refl
  read_apart target line events (Err trap) = refl

  write_apart : (line : ℕ) (events : List Event) (r : Result Memory Trap) → after_write line events other r ≡ with_input input (after_write line events s r)
  write_apart line events (Ok memory) = refl
  write_apart line events (Err trap) = refl

  begin_apart : (target line number : ℕ) (r : Result Memory Trap) → after_begin target line number other r ≡ with_input input (after_begin target line number s r)
  begin_apart target line number (Ok memory) = refl
  begin_apart target line number (Err trap) = refl

  input_apart : (access : Access) (line : ℕ) → ((target : ℕ) → access ≡ Gets target → ⊥) → reach program access line other ≡ with_input input (reach program access line s)
  input_apart (Loads target pointer) line not = read_apart target line [] (read_of s.memory pointer)
  input_apart (Stores pointer value) line not = write_apart line [] (write_of s.memory pointer value)
  input_apart (VolatileLoads target pointer) line not = read_apart target line _ (read_of s.memory pointer)
  input_apart (VolatileStores pointer value) line not = write_apart line _ (write_of s.memory pointer value)
  input_apart (Opens target cells) line not = begin_apart target line (next_number (own_part program s) s.memory) (begin_of (own_part program s) s.memory cells)
  input_apart (Closes number) line not = refl
  input_apart (Puts value) line not = refl
  input_apart (Gets target) line not = absurd (not target refl)
  input_apart (Exits value) line not = refl

-- an access has ended the run
pub reached_end : (program : MidProgram) (access : Access) (line : ℕ) (b : BinaryState) (machine : Machine) (objects : Objects) (entered : ℕ) (following : Next) (shared : Objects)
    (rest input : List ℕ) (memory : Memory) (end : SourceEnd) (events : List Event) → state_in machine objects entered following ≡ b →
    ((target : ℕ) → access ≡ Gets target → ⊥) → memory ≡ record { protected = shared; binary = objects } →
    reach program access line (record { machine = machine; memory = memory; input = rest }) ≡ Ends end events →
    meant program (Reaches access line) b shared input ≡ Some (record {
      state = record b { next = Stopped };
      shared = shared;
      input = input;
      events = events;
      answer = Ended end;
    })
reached_end program access line b machine objects entered following shared rest input memory end events view not lent e =
    let here = state_in machine objects entered following in
    let s : State = record { machine = machine; memory = memory; input = rest } in
    let ends : reach program access line (record s { input = input }) ≡ Ends end events = input_apart program s input access line not ∙ ap (with_input input) e in
    let lent_ends : reach program access line (record { machine = machine; memory = record { protected = shared; binary = objects }; input = input }) ≡ Ends end events =
    subst (λ m. reach program access line (record { machine = machine; memory = m; input = input }) ≡ Ends end events) lent ends in
    subst (λ x. meant program (Reaches access line) x shared input ≡ Some (record { state = record x { next = Stopped }; shared = shared; input = input; events = events; answer = Ended end }))
    view
    (ap (λ t. after_step entered t here shared input) lent_ends)

-- the answers of the code
pub small_said : (answer : BinaryStep) → HoldsSmall (said answer) → AreSmall answer
small_said code.Went h = h
small_said (code.Returned value) h = h
small_said (code.Calls function args) h = h
small_said (code.Ended end) h = h

pub nearer_said : (answer : BinaryStep) (before after : ℕ) → HasNeared (said answer) before after → IsNearer answer before after
nearer_said code.Went before after h = h
nearer_said (code.Returned value) before after h = h
nearer_said (code.Calls function args) before after h = h
nearer_said (code.Ended end) before after h = h

-- the input is bytes
pub bytes : (xs : List ℕ) (n : ℕ) → ((i : ℕ) → Fits w8 (slice_index_or xs i 0)) → All (λ byte. byte < 256) (drop n xs)
bytes xs n fit =
    All-drop (λ byte. byte < 256) n xs (λ k d within. let same = get_or_default xs k d 0 within in let small = fit k in omega (arith, same, small))

-- a stub is away, and the function below it has its value
pub given_back : (b : BinaryState) (value target : ℕ) (popped taken : Kept) (below : List Activation) → IsPopped below b.machine popped.machine →
    target ≡ b.machine.top.into → taken ≡ with_machine (with_top (resumed target value popped.machine.top) popped.machine) popped →
    gives_back below value b ≡ state_in taken.machine b.objects b.entered Runs
given_back b value target popped taken [] pop into is = absurd pop
given_back b value target popped taken (caller ∷ rest) pop into is = rw (is, pop, into) refl

-- the entry of a function is the step that is due
pub entered_step : (program : MidProgram) (inside b : BinaryState) (shared : Objects) (input : List ℕ) (function : ℕ) (args : List ℕ) (after : After) →
    inside ≡ b → inside.next ≡ Enters function args → enters program function args b shared input ≡ Some after → binary_step program b shared input ≡ Some after
entered_step program inside b shared input function args after same is begun =
    let next = subst (λ (s : BinaryState). s.next ≡ Enters function args) same is in
    ap (λ n. step_next n program b shared input) next ∙ begun
