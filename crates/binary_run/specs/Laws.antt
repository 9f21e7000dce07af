-- A law by which a reader can trust the machine of the binary functions: as long as they call nothing outside, they do
-- what the meaning of the whole program does.
use Rattle.std.specs.Prelude.{◌≡◌, ℕ, zero, suc, List, ◌++◌, Option, Some, None}
use Rattle.srmt_base.specs.declared.budgets.Budgets.{Budgets}
use Rattle.srmt_base.specs.declared.event.Event.{Event}
use Rattle.srmt_base.specs.Objects.{Objects}
use Rattle.mid_code.specs.declared.program.MidProgram.{MidProgram}
use Rattle.mid_code.specs.Machine.{Activation, activations, resumed, enter}
use Rattle.mid_code.specs.Meaning.{State, Run, Running, Ended as EndedRun, after_call, then_run, exec}
use Rattle.binary_run.specs.Binary.{Enters, BinaryState, Answer, Went, Returned, Calls, Ended, After, answers, binary_step}
use Rattle.binary_run.specs.Fits.{FitsBinary}

-- after a step with these events
abbrev pub preceded_by : List Event → Option After → Option After
preceded_by before None = None
preceded_by before (Some after) = Some (record after { events = before ++ after.events })

abbrev pub then_answer : Answer → After → Option After → Option After
then_answer Went after next = preceded_by after.events next
then_answer (Returned value) after next = Some after
then_answer (Calls function args) after next = Some after
then_answer (Ended end) after next = Some after

abbrev pub then_on : Option After → (BinaryState → Objects → List ℕ → Option After) → Option After
then_on None rest = None
then_on (Some after) rest = then_answer after.answer after (rest after.state after.shared after.input)

-- at most so many steps, up to the first that answers anything but `Went`, with the events of all
abbrev pub runs_on : MidProgram → ℕ → BinaryState → Objects → List ℕ → Option After
runs_on program zero b shared input = answers Went b shared input
runs_on program (suc more) b shared input = then_on (binary_step program b shared input) (runs_on program more)

-- the run of the whole program from the call of a function on, with which the newest activation waits
abbrev pub from_call : MidProgram → ℕ → List ℕ → ℕ → State → ℕ → Run
from_call program function args target s steps =
    then_run (after_call s (enter program function args target (activations s.machine) s.machine.budgets)) (exec program steps)

-- the state of the whole run in which the caller has the result
abbrev pub with_result_in : Activation → List Activation → ℕ → ℕ → Budgets → After → State
with_result_in caller rest target value budgets after = record {
  machine = record {
    top = resumed target value caller;
    below = rest;
    budgets = record budgets { binary = after.state.machine.budgets.binary };
  };
  memory = record { protected = after.shared; binary = after.state.objects };
  input = after.input;
}

-- the whole run comes to the same: the caller has the same result with the same events, memory, input and budget, or
-- the run ends with the same events and end
abbrev pub IsMeant : (ℕ → Run) → Activation → List Activation → ℕ → Budgets → Answer → After → Type 0
IsMeant run caller rest target budgets Went after = Unit {0}
IsMeant run caller rest target budgets (Returned value) after =
    (steps : ℕ) × (run steps ≡ Running (with_result_in caller rest target value budgets after) after.events)
IsMeant run caller rest target budgets (Calls function args) after = Unit {0}
IsMeant run caller rest target budgets (Ended end) after = (steps : ℕ) × (run steps ≡ EndedRun end after.events)

-- whoever calls the function, and with whatever is left to the main file's functions
abbrev pub RunsAsMeant : MidProgram → Type 0
RunsAsMeant program =
    (b : BinaryState) (shared : Objects) (input : List ℕ) (function : ℕ) (args : List ℕ) (steps : ℕ) (after : After) →
    FitsBinary program b → b.next ≡ Enters function args → runs_on program steps b shared input ≡ Some after →
    (caller : Activation) (rest : List Activation) (target : ℕ) (budgets : Budgets) → budgets.binary ≡ b.machine.budgets.binary →
    let s : State = record {
      machine = record { top = caller; below = rest; budgets = budgets };
      memory = record { protected = shared; binary = b.objects };
      input = input;
    } in
    IsMeant (from_call program function args target s) caller rest target budgets after.answer after
