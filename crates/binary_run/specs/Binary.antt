-- The binary functions by themselves, as the world runs them: a step is that of the meaning of middle code, but that a
-- function of the main file is called outside, and that a function which was entered from outside returns there.
--
-- The functions of the main file run elsewhere. Where one waits for a binary function, or a binary one for it, a *stub*
-- stands in the stack in its place: an activation of its number, with one register for a result, that is never run. The
-- lowest is that of `main`.
use Rattle.std.specs.Prelude.{ℕ, ◌+◌, ◌-◌, List, [], ◌∷◌, Option, Some, None}
use Rattle.srmt_base.specs.declared.event.Event.{Event}
use Rattle.srmt_base.specs.declared.limits.Limits.{Limits}
use Rattle.srmt_base.specs.declared.part.Part.{Part}
use Rattle.srmt_base.specs.declared.part.Part.TheVariants.{Protected, Binary}
use Rattle.srmt_base.specs.declared.trap.SourceEnd.{SourceEnd}
use Rattle.srmt_base.specs.Budgets.{full_budget}
use Rattle.srmt_base.specs.Objects.{Objects}
use Rattle.srmt_base.specs.Statics.{started_objects}
use Rattle.mid_code.specs.declared.program.MidProgram.{MidProgram}
use Rattle.mid_code.specs.Machine.{Activation, Machine, Does, Goes, Calls as CallsOne, Leaves, Traps, Reaches, Lost, activations, part_of_function, local_of, waiting, enter, resumed, returned, does}
use Rattle.mid_code.specs.Meaning.{State, Step, On, Ends, Stuck, after_call, step_by}

-- what comes next
pub data Next : Type 0 where
  -- nothing, until a function is entered or a value is given back: the newest activation is a stub
  Rests : Next
  -- the entry of a binary function with these arguments, above the stub
  Enters : (function : ℕ) (args : List ℕ) → Next
  -- an instruction of the newest activation
  Runs : Next
  -- nothing any more: the run has ended
  Stopped : Next

pub record BinaryState : Type 0 where
  pub machine : Machine
  pub objects : Objects
  -- how many functions were entered from outside and have not returned
  pub entered : ℕ
  pub next : Next

-- what a step answers
pub data Answer : Type 0 where
  Went : Answer
  -- the function that was entered last has returned this
  Returned : (value : ℕ) → Answer
  -- a function of the main file is called
  Calls : (function : ℕ) (args : List ℕ) → Answer
  Ended : (end : SourceEnd) → Answer

-- what a step comes to: the state, the main file's objects and the rest of the input after it, its events and its answer
pub record After : Type 0 where
  pub state : BinaryState
  pub shared : Objects
  pub input : List ℕ
  pub events : List Event
  pub answer : Answer

-- a stub of a function, whose result goes into a register of the binary function below it
abbrev pub stub_of : ℕ → ℕ → Activation
stub_of function into = record { function = function; place = 0; registers = 0 ∷ []; opened = []; into = into }

-- the start: `main` waits, and nothing was entered. What is left to the main file's functions is counted where they run
abbrev pub started_binary : MidProgram → Limits → BinaryState
started_binary program limits = record {
  machine = record {
    top = stub_of program.main 0;
    below = [];
    budgets = record { protected = record { turns = 0; depth = 0 }; binary = full_budget limits };
  };
  objects = started_objects Binary program.binary_statics limits.cells;
  entered = 0;
  next = Rests;
}

-- the whole run, with the main file's objects and the input
abbrev pub state_with : BinaryState → Objects → List ℕ → State
state_with b shared input = record { machine = b.machine; memory = record { protected = shared; binary = b.objects }; input = input }

-- the main file's objects and the input stay as they are
abbrev pub answers : Answer → BinaryState → Objects → List ℕ → Option After
answers answer next shared input = Some (record { state = next; shared = shared; input = input; events = []; answer = answer })

-- after a step of the meaning, with so many functions entered
abbrev pub after_step : ℕ → Step → BinaryState → Objects → List ℕ → Option After
after_step entered (On s events) b shared input = Some (record {
  state = record { machine = s.machine; objects = s.memory.binary; entered = entered; next = Runs };
  shared = s.memory.protected;
  input = s.input;
  events = events;
  answer = Went;
})
after_step entered (Ends end events) b shared input =
    Some (record { state = record b { next = Stopped }; shared = shared; input = input; events = events; answer = Ended end })
after_step entered Stuck b shared input = None

-- a function is entered from outside, above all activations
abbrev pub enters : MidProgram → ℕ → List ℕ → BinaryState → Objects → List ℕ → Option After
enters program function args b shared input =
    after_step (b.entered + 1) (after_call (state_with b shared input) (enter program function args 0 (activations b.machine) b.machine.budgets)) b shared input

-- what the newest activation does has its meaning
abbrev pub meant : MidProgram → Does → BinaryState → Objects → List ℕ → Option After
meant program d b shared input = after_step b.entered (step_by program d (state_with b shared input)) b shared input

-- a function of the main file is called: its stub waits above the caller, which has passed its call
abbrev pub calls : MidProgram → Part → ℕ → List ℕ → ℕ → BinaryState → Objects → List ℕ → Option After
calls program Protected function args target b shared input =
    answers (Calls function args)
    (record b { machine = record b.machine { top = stub_of function target; below = waiting b.machine }; next = Rests })
    shared input
calls program Binary function args target b shared input = meant program (CallsOne function args target) b shared input

-- a function that returns into a stub was entered from outside
abbrev pub returns : Part → ℕ → Machine → BinaryState → Objects → List ℕ → Option After
returns Protected value m b shared input =
    answers (Returned value) (record { machine = m; objects = b.objects; entered = b.entered - 1; next = Rests }) shared input
returns Binary value m b shared input = answers Went (record b { machine = m; next = Runs }) shared input

abbrev pub leaves : MidProgram → ℕ → Option Machine → BinaryState → Objects → List ℕ → Option After
leaves program value None b shared input = None
leaves program value (Some m) b shared input = returns (part_of_function program m.top.function) value m b shared input

-- an instruction
abbrev pub runs : MidProgram → Does → BinaryState → Objects → List ℕ → Option After
runs program (CallsOne function args target) b shared input =
    calls program (part_of_function program function) function args target b shared input
runs program (Leaves value) b shared input = leaves program value (returned program value b.machine) b shared input
runs program (Goes local) b shared input = meant program (Goes local) b shared input
runs program (Traps trap line) b shared input = meant program (Traps trap line) b shared input
runs program (Reaches access line) b shared input = meant program (Reaches access line) b shared input
runs program Lost b shared input = meant program Lost b shared input

-- one step
abbrev pub step_next : Next → MidProgram → BinaryState → Objects → List ℕ → Option After
step_next Rests program b shared input = None
step_next (Enters function args) program b shared input = enters program function args b shared input
step_next Runs program b shared input = runs program (does program (local_of program b.machine)) b shared input
step_next Stopped program b shared input = None

abbrev pub binary_step : MidProgram → BinaryState → Objects → List ℕ → Option After
binary_step program b shared input = step_next b.next program b shared input

-- a value is given back: the stub is left, and the function below it, which has called, takes the value and goes on
abbrev pub gives_back : List Activation → ℕ → BinaryState → BinaryState
gives_back [] value b = b
gives_back (caller ∷ rest) value b =
    record b { machine = record b.machine { top = resumed b.machine.top.into value caller; below = rest }; next = Runs }
