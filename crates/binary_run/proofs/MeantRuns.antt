-- As long as the binary functions call nothing outside, their run is that of the whole program.
--
-- Above the stub stands the function that was entered, and upon it those that it has called. In the whole run the same
-- activations stand above the caller, but that the result of the lowest goes into a register of that caller.
use Rattle.std.proofs.Common.{◌≡◌, ℕ, zero, suc, ◌+◌, List, [], ◌∷◌, ◌++◌, Option, Some, None, Result, Ok, Err, refl, sym, ap, ◌∙◌, subst}
use Rattle.std.proofs.lemmas.List.{append-nil}
use Rattle.srmt_base.specs.declared.budgets.Budget.{Budget}
use Rattle.srmt_base.specs.declared.budgets.Budgets.{Budgets}
use Rattle.srmt_base.specs.declared.event.Event.{Event}
use Rattle.srmt_base.specs.declared.part.Part.{Part}
use Rattle.srmt_base.specs.declared.part.Part.TheVariants.{Protected, Binary}
use Rattle.srmt_base.specs.declared.trap.Trap.{Trap}
use Rattle.srmt_base.specs.Budgets.{budget_of, with_result, after_entry, after_leave, enter_of}
use Rattle.srmt_base.specs.Memory.{Memory}
use Rattle.srmt_base.specs.Objects.{Objects}
use Rattle.mid_code.specs.declared.program.MidFunction.{MidFunction}
use Rattle.mid_code.specs.declared.program.MidProgram.{MidProgram}
use Rattle.mid_code.specs.Program.{function_at}
use Rattle.mid_code.specs.Machine.{Activation, Local, Machine, Does, Goes, Calls as CallsOne, Leaves, Traps, Reaches, Lost, activations, activation_of, passed, resumed, waiting, part_of_function, local_of, entry_by, entry_in, enter, returned_to, does}
use Rattle.mid_code.specs.Meaning.{State, Step, On, Ends, Stuck, Run, Running, after_call, after_return, step_by, step, preceded, then_run, exec}
use Rattle.binary_run.specs.Binary.{Runs, Enters, BinaryState, Answer, Went, Returned, Calls, Ended, After, state_with, after_step, calls, leaves, runs, step_next, binary_step}
use Rattle.binary_run.specs.Fits.{FitsNext}
use Rattle.binary_run.specs.Laws.{preceded_by, then_answer, then_on, runs_on, from_call, with_result_in, IsMeant, RunsAsMeant}
use Rattle.binary_run.proofs.StackFits.{part_of}
use Rattle.binary_run.proofs.SameInstruction.{into_other, local_other, does_other, state_other, step_other, StaysIn, ChangesTop, Changes, does_same, reach_same}

-- the function that was entered, with what stands upon it
data Above : Type 0 where
  Only : (entered : Activation) → Above
  Upon : (a : Activation) (rest : Above) → Above

abbrev top : Above → Activation
top (Only e) = e
top (Upon a rest) = a

abbrev with_top_of : Activation → Above → Above
with_top_of a (Only e) = Only a
with_top_of a (Upon b rest) = Upon a rest

abbrev AreOwn : MidProgram → Above → Type 0
AreOwn program (Only e) = part_of program e ≡ Binary
AreOwn program (Upon a rest) = (part_of program a ≡ Binary) × AreOwn program rest

-- the stack of the binary functions, and that of the whole run
abbrev below_own : List Activation → Above → List Activation
below_own base (Only e) = base
below_own base (Upon a rest) = top rest ∷ below_own base rest

abbrev target_of : ℕ → Above → ℕ
target_of target (Only e) = target
target_of target (Upon a rest) = a.into

abbrev below_whole : ℕ → List Activation → Above → List Activation
below_whole target callers (Only e) = callers
below_whole target callers (Upon a rest) = into_other (target_of target rest) (top rest) ∷ below_whole target callers rest

own_top : (program : MidProgram) (x : Above) → AreOwn program x → part_of program (top x) ≡ Binary
own_top program (Only e) own = own
own_top program (Upon a rest) own = own.0

top_own : (program : MidProgram) (x : Above) (a : Activation) → (top x).function ≡ a.function → AreOwn program x → AreOwn program (with_top_of a x)
top_own program (Only e) a same own = ap (part_of_function program) (sym same) ∙ own
top_own program (Upon b rest) a same own = (ap (part_of_function program) (sym same) ∙ own.0, own.1)

top_is : (x : Above) (a : Activation) → top (with_top_of a x) ≡ a
top_is (Only e) a = refl
top_is (Upon b rest) a = refl

below_own_is : (base : List Activation) (x : Above) (a : Activation) → below_own base (with_top_of a x) ≡ below_own base x
below_own_is base (Only e) a = refl
below_own_is base (Upon b rest) a = refl

target_is : (target : ℕ) (x : Above) (a : Activation) → (top x).into ≡ a.into → target_of target (with_top_of a x) ≡ target_of target x
target_is target (Only e) a same = refl
target_is target (Upon b rest) a same = sym same

below_whole_is : (target : ℕ) (callers : List Activation) (x : Above) (a : Activation) → below_whole target callers (with_top_of a x) ≡ below_whole target callers x
below_whole_is target callers (Only e) a = refl
below_whole_is target callers (Upon b rest) a = refl

module _ (program : MidProgram) (stub : Activation) (more : List Activation) (is_stub : part_of program stub ≡ Protected) (unused : Budget)
    (caller : Activation) (rest : List Activation) (target : ℕ) (protected : Budget) where
  abbrev own_machine : Above → Budget → Machine
  own_machine x budget = record { top = top x; below = below_own (stub ∷ more) x; budgets = record { protected = unused; binary = budget } }

  abbrev whole_machine : Above → Budget → Machine
  whole_machine x budget = record {
    top = into_other (target_of target x) (top x);
    below = below_whole target (caller ∷ rest) x;
    budgets = record { protected = protected; binary = budget };
  }

  abbrev whole : Above → Budget → Memory → List ℕ → State
  whole x budget memory input = record { machine = whole_machine x budget; memory = memory; input = input }

  abbrev own_state : Above → Budget → Objects → ℕ → BinaryState
  own_state x budget objects entered = record { machine = own_machine x budget; objects = objects; entered = entered; next = Runs }

  abbrev memory_after : After → Memory
  memory_after after = record { protected = after.shared; binary = after.state.objects }

  -- a step of the binary functions that goes on is a step of the whole run
  record GoesAlong (after : After) (s : Step) : Type 0 where
    above : Above
    budget : Budget
    own : AreOwn program above
    state : after.state ≡ own_state above budget after.state.objects after.state.entered
    on : s ≡ On (whole above budget (memory_after after) after.input) after.events

  abbrev budgets_with : Budget → Budgets
  budgets_with budget = record { protected = protected; binary = budget }

  abbrev FollowsBy : Answer → After → Step → Type 0
  FollowsBy Went after s = GoesAlong after s
  FollowsBy (Returned value) after s =
      s ≡ On (with_result_in caller rest target value (budgets_with after.state.machine.budgets.binary) after) after.events
  FollowsBy (Calls function args) after s = Unit {0}
  FollowsBy (Ended end) after s = s ≡ Ends end after.events

  abbrev Follows : Option After → Step → Type 0
  Follows None s = Unit {0}
  Follows (Some after) s = FollowsBy after.answer after s

  module _ (x : Above) (budget : Budget) (own : AreOwn program x) (objects shared : Objects) (entered : ℕ) (input : List ℕ) where
    abbrev b : BinaryState
    b = own_state x budget objects entered

    abbrev m : Machine
    m = own_machine x budget

    abbrev memory : Memory
    memory = record { protected = shared; binary = objects }

    abbrev here : State
    here = state_with b shared input

    abbrev there : State
    there = whole x budget memory input

    is_own : part_of program (top x) ≡ Binary
    is_own = own_top program x own

    -- the newest activation goes on by itself
    along : (n : Machine) (memory2 : Memory) (input2 : List ℕ) (events : List Event) (s : Step) → ChangesTop m n →
        s ≡ On (state_other (target_of target x) (below_whole target (caller ∷ rest) x) protected (record { machine = n; memory = memory2; input = input2 })) events →
        Follows (after_step entered (On (record { machine = n; memory = memory2; input = input2 }) events) b shared input) s
    along n memory2 input2 events s changes e =
        let x2 = with_top_of n.top x in
        let machine : n ≡ own_machine x2 n.budgets.binary =
        rw (top_is x n.top, below_own_is (stub ∷ more) x n.top, changes.below, changes.protected) refl in
        record {
          above = x2;
          budget = n.budgets.binary;
          own = top_own program x n.top changes.function own;
          state = ap (λ k. record { machine = k; objects = memory2.binary; entered = entered; next = Runs }) machine;
          on = e ∙ rw (top_is x n.top, target_is target x n.top changes.into, below_whole_is target (caller ∷ rest) x n.top) refl;
        }

    reach_follows : (s s2 : Step) → s2 ≡ step_other (target_of target x) (below_whole target (caller ∷ rest) x) protected s → Changes m s →
        Follows (after_step entered s b shared input) s2
    reach_follows (On s events) s2 e changes = along s.machine s.memory s.input events s2 changes e
    reach_follows (Ends end events) s2 e changes = e
    reach_follows Stuck s2 e changes = tt

    goes_follows : (next : Local) → (top x).function ≡ next.at.function → (top x).into ≡ next.at.into →
        Follows (runs program (Goes next) b shared input) (step_by program (Goes (local_other (target_of target x) next)) there)
    goes_follows next function into =
        let n : Machine = record m { top = next.at; budgets = record { protected = unused; binary = next.budget } } in
        let changes : ChangesTop m n = record { function = function; into = into; below = refl; protected = refl } in
        rw is_own (along n memory input [] (On (state_other (target_of target x) (below_whole target (caller ∷ rest) x) protected (record { machine = n; memory = memory; input = input })) []) changes refl)

    -- a function is called
    entry_follows : (line : ℕ) (callee : Activation) (r : Result Budget Trap) → part_of program callee ≡ Binary →
        Follows (after_step entered (after_call here (entry_by line callee (waiting m) (with_result Binary m.budgets r))) b shared input)
        (after_call there (entry_by line callee (waiting (whole_machine x budget)) (with_result Binary (whole_machine x budget).budgets r)))
    entry_follows line callee (Err trap) binary = refl
    entry_follows line callee (Ok left) binary =
        let x2 = with_top_of (passed (top x)) x in
        record {
          above = Upon callee x2;
          budget = left;
          own = (binary, top_own program x (passed (top x)) refl own);
          state = rw (top_is x (passed (top x)), below_own_is (stub ∷ more) x (passed (top x))) refl;
          on = rw (top_is x (passed (top x)), target_is target x (passed (top x)) refl, below_whole_is target (caller ∷ rest) x (passed (top x))) refl;
        }

    found_follows : (function : ℕ) (args : List ℕ) (t : ℕ) (o : Option MidFunction) → part_of_function program function ≡ Binary →
        Follows (after_step entered (after_call here (entry_in program function o args t (waiting m) m.budgets)) b shared input)
        (after_call there (entry_in program function o args t (waiting (whole_machine x budget)) (whole_machine x budget).budgets))
    found_follows function args t None binary = tt
    found_follows function args t (Some code) binary =
        let callee = activation_of function code args t in
        subst (λ p. Follows (after_step entered (after_call here (entry_by code.line callee (waiting m) (enter_of p m.budgets))) b shared input)
        (after_call there (entry_by code.line callee (waiting (whole_machine x budget)) (enter_of p (whole_machine x budget).budgets))))
        (sym binary) (entry_follows code.line callee (after_entry budget) binary)

    call_follows : (function : ℕ) (args : List ℕ) (t : ℕ) (part : Part) → part_of_function program function ≡ part →
        Follows (calls program part function args t b shared input) (after_call there (enter program function args t (waiting (whole_machine x budget)) (whole_machine x budget).budgets))
    call_follows function args t Protected is = tt
    call_follows function args t Binary is = found_follows function args t (function_at program function) is

  -- the newest function is left
  leaves_follows : (x : Above) (budget : Budget) → AreOwn program x → (objects shared : Objects) (entered : ℕ) (input : List ℕ) (value : ℕ) →
      Follows (leaves program value (returned_to (below_own (stub ∷ more) x) (part_of program (top x)) value (own_machine x budget)) (own_state x budget objects entered) shared input)
      (after_return (whole x budget (record { protected = shared; binary = objects }) input) (returned_to (below_whole target (caller ∷ rest) x) (part_of program (top x)) value (whole_machine x budget)))
  leaves_follows (Only e) budget own objects shared entered input value = rw (own, is_stub) refl
  leaves_follows (Upon a r) budget own objects shared entered input value =
      let after = resumed a.into value (top r) in
      let left = after_leave budget in
      let along : GoesAlong (record {
        state = record { machine = record { top = after; below = below_own (stub ∷ more) r; budgets = record { protected = unused; binary = left } }; objects = objects; entered = entered; next = Runs };
        shared = shared;
        input = input;
        events = [];
        answer = Went;
      }) (On (record {
        machine = record { top = resumed a.into value (into_other (target_of target r) (top r)); below = below_whole target (caller ∷ rest) r; budgets = record { protected = protected; binary = left } };
        memory = record { protected = shared; binary = objects };
        input = input;
      }) []) = record {
        above = with_top_of after r;
        budget = left;
        own = top_own program r after refl own.1;
        state = rw (top_is r after, below_own_is (stub ∷ more) r after) refl;
        on = rw (top_is r after, target_is target r after refl, below_whole_is target (caller ∷ rest) r after) refl;
      } in
      rw (own.0, own_top program r own.1) along

  -- a step
  does_follows : (x : Above) (budget : Budget) (own : AreOwn program x) (objects shared : Objects) (entered : ℕ) (input : List ℕ) (d : Does) →
      StaysIn (record { at = top x; budget = budget }) d →
      Follows (runs program d (own_state x budget objects entered) shared input)
      (step_by program (does_other (target_of target x) d) (whole x budget (record { protected = shared; binary = objects }) input))
  does_follows x budget own objects shared entered input (Goes next) stays = goes_follows x budget own objects shared entered input next stays.0 stays.1
  does_follows x budget own objects shared entered input (CallsOne function args t) stays =
      call_follows x budget own objects shared entered input function args t (part_of_function program function) refl
  does_follows x budget own objects shared entered input (Leaves value) stays = leaves_follows x budget own objects shared entered input value
  does_follows x budget own objects shared entered input (Traps trap line) stays = refl
  does_follows x budget own objects shared entered input (Reaches access line) stays =
      let s = state_with (own_state x budget objects entered) shared input in
      let same = reach_same program (target_of target x) (below_whole target (caller ∷ rest) x) protected s access line in
      reach_follows x budget own objects shared entered input _ _ same.0 same.1
  does_follows x budget own objects shared entered input Lost stays = tt

  step_follows : (x : Above) (budget : Budget) (own : AreOwn program x) (objects shared : Objects) (entered : ℕ) (input : List ℕ) →
      Follows (binary_step program (own_state x budget objects entered) shared input) (step program (whole x budget (record { protected = shared; binary = objects }) input))
  step_follows x budget own objects shared entered input =
      let t = target_of target x in
      let l : Local = record { at = top x; budget = budget } in
      let b = own_state x budget objects entered in
      let there = whole x budget (record { protected = shared; binary = objects }) input in
      let is = own_top program x own in
      let same = does_same program t l in
      let here_does : does program (local_of program b.machine) ≡ does program l =
      ap (λ p. does program (record { at = top x; budget = budget_of p b.machine.budgets })) is in
      let there_does : does program (local_of program there.machine) ≡ does_other t (does program l) =
      ap (λ p. does program (record { at = into_other t (top x); budget = budget_of p there.machine.budgets })) is ∙ same.0 in
      subst (λ d. Follows (runs program d b shared input) (step program there)) (sym here_does)
      (subst (λ d. Follows (runs program (does program l) b shared input) (step_by program d there)) (sym there_does)
      (does_follows x budget own objects shared entered input (does program l) same.1))

  -- a run
  abbrev Meant : (ℕ → Run) → Option After → Type 0
  Meant run None = Unit {0}
  Meant run (Some after) = IsMeant run caller rest target (budgets_with unused) after.answer after

  abbrev from : State → ℕ → Run
  from s n = exec program n s

  -- after a step, or the entry of the function
  preceded_meant : (run run2 : ℕ → Run) (events : List Event) → ((n : ℕ) → (k : ℕ) × (run k ≡ preceded events (run2 n))) → (o : Option After) → Meant run2 o → Meant run (preceded_by events o)
  preceded_meant run run2 events later None h = tt
  preceded_meant run run2 events later (Some after) h = by after.answer h
    where
      by : (answer : Answer) → IsMeant run2 caller rest target (budgets_with unused) answer after →
          IsMeant run caller rest target (budgets_with unused) answer (record after { events = events ++ after.events })
      by Went h = tt
      by (Returned value) h = let k = later h.0 in (k.0, k.1 ∙ ap (preceded events) h.1)
      by (Calls function args) h = tt
      by (Ended end) h = let k = later h.0 in (k.0, k.1 ∙ ap (preceded events) h.1)

  then_meant : (answer : Answer) (after : After) (s : State) (o : Option After) → after.answer ≡ answer → FollowsBy answer after (step program s) →
      ((g : GoesAlong after (step program s)) → Meant (from (whole g.above g.budget (memory_after after) after.input)) o) → Meant (from s) (then_answer answer after o)
  then_meant Went after s o is g next =
      let there = whole g.above g.budget (memory_after after) after.input in
      preceded_meant (from s) (from there) after.events (λ n. (suc n, ap (λ st. then_run st (exec program n)) g.on)) o (next g)
  then_meant (Returned value) after s o is e next =
      let final = with_result_in caller rest target value (budgets_with unused) after in
      subst (λ a. IsMeant (from s) caller rest target (budgets_with unused) a after) (sym is)
      (1, ap (λ st. then_run st (exec program 0)) e ∙ ap (Running final) (append-nil after.events))
  then_meant (Calls function args) after s o is e next = subst (λ a. IsMeant (from s) caller rest target (budgets_with unused) a after) (sym is) tt
  then_meant (Ended end) after s o is e next =
      subst (λ a. IsMeant (from s) caller rest target (budgets_with unused) a after) (sym is) (1, ap (λ st. then_run st (exec program 0)) e)

  run_meant : (steps : ℕ) (x : Above) (budget : Budget) → AreOwn program x → (objects shared : Objects) (entered : ℕ) (input : List ℕ) →
      Meant (from (whole x budget (record { protected = shared; binary = objects }) input)) (runs_on program steps (own_state x budget objects entered) shared input)
  run_meant zero x budget own objects shared entered input = tt
  run_meant (suc steps) x budget own objects shared entered input =
      by (binary_step program (own_state x budget objects entered) shared input) (step_follows x budget own objects shared entered input) (run_meant steps)
    where
      by : (o : Option After) → Follows o (step program (whole x budget (record { protected = shared; binary = objects }) input)) →
          ((x : Above) (budget : Budget) → AreOwn program x → (objects shared : Objects) (entered : ℕ) (input : List ℕ) →
          Meant (from (whole x budget (record { protected = shared; binary = objects }) input)) (runs_on program steps (own_state x budget objects entered) shared input)) →
          Meant (from (whole x budget (record { protected = shared; binary = objects }) input)) (then_on o (runs_on program steps))
      by None f later = tt
      by (Some after) f later =
          then_meant after.answer after (whole x budget (record { protected = shared; binary = objects }) input) (runs_on program steps after.state after.shared after.input) refl f
          (λ g. subst (λ s. Meant (from (whole g.above g.budget (memory_after after) after.input)) (runs_on program steps s after.shared after.input)) (sym g.state)
          (later g.above g.budget g.own after.state.objects after.shared after.state.entered after.input))

-- what is left to binary functions comes from them alone
same_budgets : (run : ℕ → Run) (caller : Activation) (rest : List Activation) (target : ℕ) (budgets : Budgets) (unused : Budget) (answer : Answer) (after : After) →
    IsMeant run caller rest target (record { protected = budgets.protected; binary = unused }) answer after → IsMeant run caller rest target budgets answer after
same_budgets run caller rest target budgets unused Went after h = tt
same_budgets run caller rest target budgets unused (Returned value) after h = h
same_budgets run caller rest target budgets unused (Calls function args) after h = tt
same_budgets run caller rest target budgets unused (Ended end) after h = h

-- from the entry on
module _ (program : MidProgram) (b : BinaryState) (shared : Objects) (input : List ℕ) (function : ℕ) (args : List ℕ)
    (rests : part_of program b.machine.top ≡ Protected) (binary : part_of_function program function ≡ Binary)
    (caller : Activation) (rest : List Activation) (target : ℕ) (budgets : Budgets) (same : budgets.binary ≡ b.machine.budgets.binary) where
  abbrev IsSameRun : (ℕ → Run) → Option After → Type 0
  IsSameRun = Meant program b.machine.top b.machine.below rests b.machine.budgets.protected caller rest target budgets.protected

  abbrev before : State
  before = record {
    machine = record { top = caller; below = rest; budgets = budgets };
    memory = record { protected = shared; binary = b.objects };
    input = input;
  }

  abbrev entry_run : ℕ → Activation → Result Budgets Trap → ℕ → Run
  entry_run line callee r n = then_run (after_call before (entry_by line callee (caller ∷ rest) r)) (exec program n)

  abbrev entry_steps : ℕ → ℕ → Activation → Result Budgets Trap → Option After
  entry_steps steps line callee r =
      then_on (after_step (b.entered + 1) (after_call (state_with b shared input) (entry_by line callee (activations b.machine) r)) b shared input) (runs_on program steps)

  budget_meant : (steps line : ℕ) (code : MidFunction) (r : Result Budget Trap) →
      IsSameRun (entry_run line (activation_of function code args target) (with_result Binary budgets r))
      (entry_steps steps line (activation_of function code args 0) (with_result Binary b.machine.budgets r))
  budget_meant steps line code (Err trap) = (0, refl)
  budget_meant steps line code (Ok left) =
      let entered = Only (activation_of function code args 0) in
      let there = whole program b.machine.top b.machine.below rests b.machine.budgets.protected caller rest target budgets.protected entered left
      (record { protected = shared; binary = b.objects }) input in
      let next = run_meant program b.machine.top b.machine.below rests b.machine.budgets.protected caller rest target budgets.protected steps entered left binary
      b.objects shared (b.entered + 1) input in
      preceded_meant program b.machine.top b.machine.below rests b.machine.budgets.protected caller rest target budgets.protected
      (entry_run line (activation_of function code args target) (with_result Binary budgets (Ok left))) (λ n. exec program n there) [] (λ n. (n, refl)) _ next

  found_meant : (steps : ℕ) (o : Option MidFunction) →
      IsSameRun (λ n. then_run (after_call before (entry_in program function o args target (caller ∷ rest) budgets)) (exec program n))
      (then_on (after_step (b.entered + 1) (after_call (state_with b shared input) (entry_in program function o args 0 (activations b.machine) b.machine.budgets)) b shared input) (runs_on program steps))
  found_meant steps None = tt
  found_meant steps (Some code) =
      let callee = activation_of function code args target in
      let own = activation_of function code args 0 in
      subst (λ p. IsSameRun (entry_run code.line callee (enter_of p budgets)) (entry_steps steps code.line own (enter_of p b.machine.budgets))) (sym binary)
      (subst (λ x. IsSameRun (entry_run code.line callee (with_result Binary budgets (after_entry x))) (entry_steps steps code.line own (enter_of Binary b.machine.budgets)))
      (sym same) (budget_meant steps code.line code (after_entry b.machine.budgets.binary)))

  call_meant : (steps : ℕ) → b.next ≡ Enters function args → IsSameRun (from_call program function args target before) (runs_on program steps b shared input)
  call_meant zero next = tt
  call_meant (suc steps) next =
      subst (λ n. IsSameRun (from_call program function args target before) (then_on (step_next n program b shared input) (runs_on program steps))) (sym next)
      (found_meant steps (function_at program function))

pub runs_meant : (program : MidProgram) → RunsAsMeant program
runs_meant program b shared input function args steps after fits next is caller rest target budgets same =
    let due : FitsNext program b.machine.top (Enters function args) = subst (FitsNext program b.machine.top) next fits.next in
    let before : State = record {
      machine = record { top = caller; below = rest; budgets = budgets };
      memory = record { protected = shared; binary = b.objects };
      input = input;
    } in
    let run = from_call program function args target before in
    let meant = call_meant program b shared input function args due.0 due.1.binary caller rest target budgets same steps next in
    same_budgets run caller rest target budgets b.machine.budgets.protected after.answer after
    (subst (Meant program b.machine.top b.machine.below due.0 b.machine.budgets.protected caller rest target budgets.protected run) is meant)
