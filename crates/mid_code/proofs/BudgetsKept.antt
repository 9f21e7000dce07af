-- What a step counts of a part and what it leaves to it make up what was left.
use Rattle.std.proofs.Common.{◌≡◌, ℕ, ◌+◌, ◌-◌, ◌≤◌, List, [], ◌∷◌, None, Result, Ok, Err, Bool, true, false, refl, sym, ap, ◌∙◌, subst, arith}
use Rattle.std.specs.Prelude.{◌==◌, if◌then◌else◌}
use Rattle.srmt_base.specs.declared.budgets.Budget.{Budget}
use Rattle.srmt_base.specs.declared.budgets.Budgets.{Budgets}
use Rattle.srmt_base.specs.declared.event.Event.{Event}
use Rattle.srmt_base.specs.declared.part.Part.{Part}
use Rattle.srmt_base.specs.declared.part.Part.TheVariants.{Protected, Binary}
use Rattle.srmt_base.specs.declared.trap.Trap.{Trap}
use Rattle.srmt_base.specs.declared.trap.Trap.TheVariants.{Turns, Depth}
use Rattle.srmt_base.specs.Budgets.{budget_of, with_budget, with_result, after_turn, spent, leave_of}
use Rattle.srmt_base.specs.Memory.{Memory, begin_of, next_number}
use Rattle.mid_code.specs.declared.program.MidProgram.{MidProgram}
use Rattle.mid_code.specs.declared.access.Access.{Access}
use Rattle.mid_code.specs.Program.{function_at}
use Rattle.mid_code.specs.Machine.{Activation, Local, Machine, Does, Goes, Calls, Leaves, Traps, Reaches, Lost, activations, live_of, passed, given, given_object, passed_close, counts, part_of_function, local_of, with_local, with_top, waiting, activation_of, entry_by, entry_in, enter, resumed, returned_to, does}
use Rattle.mid_code.specs.Meaning.{State, Step, On, Ends, Stuck, after_read, after_write, after_begin, after_call, after_return, own_part, reach, step, step_by}
use Rattle.mid_code.specs.Counting.{Counting, Uncounted, OneTurn, OneActivation, next_counting, turns_of}
use Rattle.mid_code.proofs.Naming.{not_zero}
use Rattle.mid_code.proofs.MachineFits.{live_same, live_more}
use Rattle.mid_code.proofs.AccessShapes.{Shape, GivesValue, WritesMemory, BeginsObject, EndsObject, Tells, EndsRun, step_of, shaped}
use Rattle.mid_code.proofs.InstructionsCounted.{Quiet, Counted, CallsOne, does_counted}

-- a part's budgets after a step that counts so much
pub record AfterCount (program : MidProgram) (m next : Machine) (c : Counting) (part : Part) : Type 0 where
  pub turns : (budget_of part next.budgets).turns + turns_of part c ≡ (budget_of part m.budgets).turns
  pub depth : live_of program part (activations next) + (budget_of part next.budgets).depth ≡ live_of program part (activations m) + (budget_of part m.budgets).depth

-- what a step that goes on leaves of the budgets
abbrev pub IfGoesOn : MidProgram → Machine → Counting → Step → Type 0
IfGoesOn program m c (On next events) = (part : Part) → AfterCount program m next.machine c part
IfGoesOn program m c (Ends end events) = Unit {0}
IfGoesOn program m c Stuck = Unit {0}

-- a part's budget as it is, in both
same_budget : (own part : Part) (budget : Budget) (budgets : Budgets) → budget ≡ budget_of own budgets →
    budget_of part (with_budget own budget budgets) ≡ budget_of part budgets
same_budget Protected Protected budget budgets e = e
same_budget Protected Binary budget budgets e = refl
same_budget Binary Protected budget budgets e = refl
same_budget Binary Binary budget budgets e = e

-- the entry of a function, by both tests
abbrev pub tested : State → Part → ℕ → Activation → Bool → Bool → Step
tested s part line callee deep used =
    after_call s (entry_by line callee (waiting s.machine) (with_result part s.machine.budgets
    (if deep then Err Depth else if used then Err Turns else Ok (spent (budget_of part s.machine.budgets)))))

-- a turn, by its test
abbrev pub turned : MidProgram → State → ℕ → Bool → Step
turned program s line used =
    let l = local_of program s.machine in
    step_by program (counts line l (if used then Err Turns else Ok (record l.budget { turns = l.budget.turns - 1 }))) s

module _ (program : MidProgram) (s : State) where
  -- the activation that runs changes alone
  top_on : (a : Activation) → s.machine.top.function ≡ a.function → (part : Part) → AfterCount program s.machine (with_top a s.machine) Uncounted part
  top_on a e part = record { turns = omega arith; depth = omega (arith, live_same program part s.machine.top a s.machine.below e) }

  local_on : (next : Local) → Quiet program (local_of program s.machine) (Goes next) → (part : Part) →
      AfterCount program s.machine (with_local program next s.machine) Uncounted part
  local_on next h part =
      let same = same_budget (part_of_function program s.machine.top.function) part next.budget s.machine.budgets h.0 in
      record {
        turns = omega (arith, ap (λ (b : Budget). b.turns) same);
        depth = omega (arith, ap (λ (b : Budget). b.depth) same, live_same program part s.machine.top next.at s.machine.below h.1);
      }

  read_on : (target line : ℕ) (events : List Event) (input : List ℕ) (r : Result ℕ Trap) →
      IfGoesOn program s.machine Uncounted (after_read target line events (record s { input = input }) r)
  read_on target line events input (Ok value) = top_on (given target value s.machine.top) refl
  read_on target line events input (Err trap) = tt

  write_on : (line : ℕ) (events : List Event) (r : Result Memory Trap) → IfGoesOn program s.machine Uncounted (after_write line events s r)
  write_on line events (Ok memory) = top_on (passed s.machine.top) refl
  write_on line events (Err trap) = tt

  begin_on : (target line number : ℕ) (r : Result Memory Trap) → IfGoesOn program s.machine Uncounted (after_begin target line number s r)
  begin_on target line number (Ok memory) = top_on (given_object target number s.machine.top) refl
  begin_on target line number (Err trap) = tt

  -- one case for each shape of an access
  shape_on : (line : ℕ) (shape : Shape) → IfGoesOn program s.machine Uncounted (step_of program line s shape)
  shape_on line (GivesValue target events value input) = read_on target line events input value
  shape_on line (WritesMemory events memory) = write_on line events memory
  shape_on line (BeginsObject target cells) =
      begin_on target line (next_number (own_part program s) s.memory) (begin_of (own_part program s) s.memory cells)
  shape_on line (EndsObject number) = top_on (passed_close s.machine.top) refl
  shape_on line (Tells events) = top_on (passed s.machine.top) refl
  shape_on line (EndsRun status events) = tt

  reach_on : (access : Access) (line : ℕ) → IfGoesOn program s.machine Uncounted (reach program access line s)
  reach_on access line =
      let found = shaped program s line access in
      subst (IfGoesOn program s.machine Uncounted) (sym found.is) (shape_on line found.shape)

  -- a call of no function does not go on
  pub lost_call : (function : ℕ) (args : List ℕ) (into : ℕ) (callers : List Activation) (budgets : Budgets) → function_at program function ≡ None →
      after_call s (enter program function args into callers budgets) ≡ Stuck
  lost_call function args into callers budgets none = ap (λ f. after_call s (entry_in program function f args into callers budgets)) none

  -- a return gives a live activation back
  returned_on : (own : Part) (caller : Activation) (rest : List Activation) (value : ℕ) → part_of_function program s.machine.top.function ≡ own →
      s.machine.below ≡ caller ∷ rest → (part : Part) →
      AfterCount program s.machine (record { top = resumed s.machine.top.into value caller; below = rest; budgets = leave_of own s.machine.budgets }) Uncounted part
  returned_on Protected caller rest value own is Protected =
      record { turns = omega arith; depth = omega (arith, live_more program Protected Protected s.machine.top s.machine.below own, ap (live_of program Protected) is) }
  returned_on Protected caller rest value own is Binary =
      record { turns = omega arith; depth = omega (arith, live_more program Binary Protected s.machine.top s.machine.below own, ap (live_of program Binary) is) }
  returned_on Binary caller rest value own is Protected =
      record { turns = omega arith; depth = omega (arith, live_more program Protected Binary s.machine.top s.machine.below own, ap (live_of program Protected) is) }
  returned_on Binary caller rest value own is Binary =
      record { turns = omega arith; depth = omega (arith, live_more program Binary Binary s.machine.top s.machine.below own, ap (live_of program Binary) is) }

  return_on : (below : List Activation) (value : ℕ) → s.machine.below ≡ below →
      IfGoesOn program s.machine Uncounted (after_return s (returned_to below (part_of_function program s.machine.top.function) value s.machine))
  return_on [] value is = tt
  return_on (caller ∷ rest) value is = returned_on (part_of_function program s.machine.top.function) caller rest value refl is

  quiet_on : (d : Does) → Quiet program (local_of program s.machine) d → IfGoesOn program s.machine Uncounted (step_by program d s)
  quiet_on (Goes next) h = local_on next h
  quiet_on (Calls function args target) h =
      subst (IfGoesOn program s.machine Uncounted) (sym (lost_call function args target (waiting s.machine) s.machine.budgets h)) tt
  quiet_on (Leaves value) h = return_on s.machine.below value refl
  quiet_on (Traps trap line) h = tt
  quiet_on (Reaches access line) h = reach_on access line
  quiet_on Lost h = tt

  -- a turn
  turn_left : (own : Part) (line : ℕ) (a : Activation) → s.machine.top.function ≡ a.function → 1 ≤ (budget_of own s.machine.budgets).turns → (part : Part) →
      AfterCount program s.machine
      (record s.machine { top = a; budgets = with_budget own (record (budget_of own s.machine.budgets) { turns = (budget_of own s.machine.budgets).turns - 1 }) s.machine.budgets })
      (OneTurn own line) part
  turn_left Protected line a e some Protected = record { turns = omega (arith, some); depth = omega (arith, live_same program Protected s.machine.top a s.machine.below e) }
  turn_left Protected line a e some Binary = record { turns = omega arith; depth = omega (arith, live_same program Binary s.machine.top a s.machine.below e) }
  turn_left Binary line a e some Protected = record { turns = omega arith; depth = omega (arith, live_same program Protected s.machine.top a s.machine.below e) }
  turn_left Binary line a e some Binary = record { turns = omega (arith, some); depth = omega (arith, live_same program Binary s.machine.top a s.machine.below e) }

  turn_on : (line : ℕ) (used : Bool) → ((local_of program s.machine).budget.turns == 0) ≡ used →
      IfGoesOn program s.machine (OneTurn (part_of_function program s.machine.top.function) line) (turned program s line used)
  turn_on line true is = tt
  turn_on line false is =
      let own = part_of_function program s.machine.top.function in
      turn_left own line (passed s.machine.top) refl (not_zero (budget_of own s.machine.budgets).turns is)

  -- an entry
  entry_left : (own : Part) (line : ℕ) (callee : Activation) → part_of_function program callee.function ≡ own →
      1 ≤ (budget_of own s.machine.budgets).turns → 1 ≤ (budget_of own s.machine.budgets).depth → (part : Part) →
      AfterCount program s.machine
      (record { top = callee; below = waiting s.machine; budgets = with_budget own (spent (budget_of own s.machine.budgets)) s.machine.budgets }) (OneActivation own line) part
  entry_left Protected line callee own some deep Protected =
      record { turns = omega (arith, some); depth = omega (arith, deep, live_more program Protected Protected callee (waiting s.machine) own) }
  entry_left Protected line callee own some deep Binary =
      record { turns = omega arith; depth = omega (arith, live_more program Binary Protected callee (waiting s.machine) own) }
  entry_left Binary line callee own some deep Protected =
      record { turns = omega arith; depth = omega (arith, live_more program Protected Binary callee (waiting s.machine) own) }
  entry_left Binary line callee own some deep Binary =
      record { turns = omega (arith, some); depth = omega (arith, deep, live_more program Binary Binary callee (waiting s.machine) own) }

  entry_on : (part : Part) (line : ℕ) (callee : Activation) → part_of_function program callee.function ≡ part → (deep used : Bool) →
      ((budget_of part s.machine.budgets).depth == 0) ≡ deep → ((budget_of part s.machine.budgets).turns == 0) ≡ used →
      IfGoesOn program s.machine (OneActivation part line) (tested s part line callee deep used)
  entry_on part line callee own true used d u = tt
  entry_on part line callee own false true d u = tt
  entry_on part line callee own false false d u =
      entry_left part line callee own (not_zero (budget_of part s.machine.budgets).turns u) (not_zero (budget_of part s.machine.budgets).depth d)

-- what a call of a function that is there comes to
pub record Tests (program : MidProgram) (s : State) (part : Part) (line : ℕ) (d : Does) : Type 0 where
  pub callee : Activation
  pub own : part_of_function program callee.function ≡ part
  pub step_is : step_by program d s ≡
      tested s part line callee ((budget_of part s.machine.budgets).depth == 0) ((budget_of part s.machine.budgets).turns == 0)

pub call_tests : (program : MidProgram) (s : State) (part : Part) (line : ℕ) (d : Does) → CallsOne program part line d → Tests program s part line d
call_tests program s part line d c =
    let callee = activation_of c.function c.code c.args c.target in
    let test : Part → ℕ → Step = λ p n. tested s p n callee ((budget_of p s.machine.budgets).depth == 0) ((budget_of p s.machine.budgets).turns == 0) in
    record {
      callee = callee;
      own = c.part_is;
      step_is = ap (λ x. step_by program x s) c.does_call
          ∙ ap (λ f. after_call s (entry_in program c.function f c.args c.target (waiting s.machine) s.machine.budgets)) c.found
          ∙ ap (λ p. test p c.code.line) c.part_is ∙ ap (test part) c.line_is;
    }

-- a turn at the part of the function that runs
pub turn_tests : (program : MidProgram) (s : State) (line : ℕ) (d : Does) →
    d ≡ counts line (local_of program s.machine) (after_turn (local_of program s.machine).budget) →
    step_by program d s ≡ turned program s line ((local_of program s.machine).budget.turns == 0)
turn_tests program s line d e = ap (λ x. step_by program x s) e

goes_by : (program : MidProgram) (s : State) (c : Counting) (d : Does) → Counted program (local_of program s.machine) c d →
    IfGoesOn program s.machine c (step_by program d s)
goes_by program s Uncounted d h = quiet_on program s d h
goes_by program s (OneTurn own line) d h =
    subst (λ p. IfGoesOn program s.machine (OneTurn p line) (step_by program d s)) h.0
    (subst (IfGoesOn program s.machine (OneTurn (part_of_function program s.machine.top.function) line)) (sym (turn_tests program s line d h.1))
    (turn_on program s line ((local_of program s.machine).budget.turns == 0) refl))
goes_by program s (OneActivation own line) d h =
    let t = call_tests program s own line d h in
    subst (IfGoesOn program s.machine (OneActivation own line)) (sym t.step_is)
    (entry_on program s own line t.callee t.own ((budget_of own s.machine.budgets).depth == 0) ((budget_of own s.machine.budgets).turns == 0) refl refl)

pub step_goes : (program : MidProgram) (s : State) → IfGoesOn program s.machine (next_counting program s.machine) (step program s)
step_goes program s =
    let l = local_of program s.machine in
    goes_by program s (next_counting program s.machine) (does program l) (does_counted program l)
