-- What a program of middle code means: the run of one machine, on one thread.
use Rattle.std.specs.Prelude.{◌≡◌, ℕ, zero, suc, ◌%◌, List, [], ◌∷◌, ◌++◌, Option, Some, None, Result, Ok, Err}
use Rattle.srmt_base.specs.declared.event.Event.{Event}
use Rattle.srmt_base.specs.declared.event.Event.TheVariants.{Byte, PortRead, PortWrite, Exit as ExitEvent}
use Rattle.srmt_base.specs.declared.trap.Trap.{Trap}
use Rattle.srmt_base.specs.declared.trap.SourceEnd.{SourceEnd}
use Rattle.srmt_base.specs.declared.trap.SourceEnd.TheVariants.{Exit as ExitEnd, Trap as TrapEnd}
use Rattle.srmt_base.specs.declared.limits.Limits.{Limits}
use Rattle.srmt_base.specs.declared.part.Part.{Part}
use Rattle.srmt_base.specs.Input.{NextByte, next_byte}
use Rattle.srmt_base.specs.Objects.{object_part, offset_part}
use Rattle.srmt_base.specs.Memory.{Memory, read_of, write_of, begin_of, finish_of, next_number}
use Rattle.mid_code.specs.declared.program.MidProgram.{MidProgram}
use Rattle.mid_code.specs.declared.access.Access.{Access}
use Rattle.mid_code.specs.declared.access.Access.TheVariants.{Loads, Stores, VolatileLoads, VolatileStores, Opens, Closes, Puts, Gets, Exits}
use Rattle.mid_code.specs.Machine.{Machine, Does, Goes, Calls, Leaves, Traps, Reaches, Lost, Entry, Entered, Refused, NoFunction, passed, given, given_object, passed_close, with_top, with_local, local_of, part_of_function, waiting, enter, returned, does}
use Rattle.mid_code.specs.Start.{started_machine, started_memory}

-- a run at some moment: the machine, memory, and the bytes of the input that are still to be read
pub record State : Type 0 where
  pub machine : Machine
  pub memory : Memory
  pub input : List ℕ

-- what one step of a run gives, with its events
pub data Step : Type 0 where
  On : (state : State) (events : List Event) → Step
  Ends : (end : SourceEnd) (events : List Event) → Step
  Stuck : Step

-- after a read: the register takes the value. A trap ends the run, and no event of the access is given
abbrev pub after_read : ℕ → ℕ → List Event → State → Result ℕ Trap → Step
after_read target line events s (Ok value) = On (record s { machine = with_top (given target value s.machine.top) s.machine }) events
after_read target line events s (Err trap) = Ends (TrapEnd trap line) []

-- after a write
abbrev pub after_write : ℕ → List Event → State → Result Memory Trap → Step
after_write line events s (Ok memory) = On (record s { machine = with_top (passed s.machine.top) s.machine; memory = memory }) events
after_write line events s (Err trap) = Ends (TrapEnd trap line) []

-- after an object of a number has begun
abbrev pub after_begin : ℕ → ℕ → ℕ → State → Result Memory Trap → Step
after_begin target line number s (Ok memory) =
    On (record s { machine = with_top (given_object target number s.machine.top) s.machine; memory = memory }) []
after_begin target line number s (Err trap) = Ends (TrapEnd trap line) []

-- after the next byte of the input, or EOF at its end
abbrev pub after_get : ℕ → State → NextByte → Step
after_get target s byte = On (record s { machine = with_top (given target byte.value s.machine.top) s.machine; input = byte.rest }) []

-- the part in which the running function begins its objects
abbrev pub own_part : MidProgram → State → Part
own_part program s = part_of_function program s.machine.top.function

-- what memory and the outside do, by what the instruction wants of them
abbrev pub reach : MidProgram → Access → ℕ → State → Step
reach program (Loads target pointer) line s = after_read target line [] s (read_of s.memory pointer)
reach program (Stores pointer value) line s = after_write line [] s (write_of s.memory pointer value)
reach program (VolatileLoads target pointer) line s =
    after_read target line (PortRead (object_part pointer) (offset_part pointer) ∷ []) s (read_of s.memory pointer)
reach program (VolatileStores pointer value) line s =
    after_write line (PortWrite (object_part pointer) (offset_part pointer) value ∷ []) s (write_of s.memory pointer value)
reach program (Opens target cells) line s =
    after_begin target line (next_number (own_part program s) s.memory) s (begin_of (own_part program s) s.memory cells)
reach program (Closes number) line s =
    On (record s { machine = with_top (passed_close s.machine.top) s.machine; memory = finish_of s.memory number }) []
-- the byte is written (C11 7.21.7.8: converted to unsigned char)
reach program (Puts value) line s = On (record s { machine = with_top (passed s.machine.top) s.machine }) (Byte (value % 256) ∷ [])
reach program (Gets target) line s = after_get target s (next_byte s.input)
-- the run is over
reach program (Exits value) line s = Ends (ExitEnd (value % 256)) (ExitEvent (value % 256) ∷ [])

-- after the entry of a function
abbrev pub after_call : State → Entry → Step
after_call s (Entered machine) = On (record s { machine = machine }) []
after_call s (Refused trap line) = Ends (TrapEnd trap line) []
after_call s NoFunction = Stuck

-- after a return
abbrev pub after_return : State → Option Machine → Step
after_return s (Some machine) = On (record s { machine = machine }) []
after_return s None = Stuck

-- every function that is called is entered
abbrev pub step_by : MidProgram → Does → State → Step
step_by program (Goes local) s = On (record s { machine = with_local program local s.machine }) []
step_by program (Calls function args target) s = after_call s (enter program function args target (waiting s.machine) s.machine.budgets)
step_by program (Leaves value) s = after_return s (returned program value s.machine)
step_by program (Traps trap line) s = Ends (TrapEnd trap line) []
step_by program (Reaches access line) s = reach program access line s
step_by program Lost s = Stuck

-- one step of a run
abbrev pub step : MidProgram → State → Step
step program s = step_by program (does program (local_of program s.machine)) s

-- what comes after a step, where the run goes on, and else
abbrev pub if_on : {A : Type 0} → Step → A → (State → A) → A
if_on (On s events) otherwise rest = rest s
if_on (Ends end events) otherwise rest = otherwise
if_on Stuck otherwise rest = otherwise

-- a run so far, or as it ended, with all its events
pub data Run : Type 0 where
  Running : (state : State) (events : List Event) → Run
  Ended : (end : SourceEnd) (events : List Event) → Run
  NoWay : Run

-- a run after earlier events
abbrev pub preceded : List Event → Run → Run
preceded before (Running s events) = Running s (before ++ events)
preceded before (Ended end events) = Ended end (before ++ events)
preceded before NoWay = NoWay

abbrev pub then_run : Step → (State → Run) → Run
then_run (On s events) rest = preceded events (rest s)
then_run (Ends end events) rest = Ended end events
then_run Stuck rest = NoWay

-- at most so many steps from a state
abbrev pub exec : MidProgram → ℕ → State → Run
exec program zero s = Running s []
exec program (suc more) s = then_run (step program s) (exec program more)

-- some steps lead from a state to another, with these events in all
abbrev pub Comes : MidProgram → State → List Event → State → Type 0
Comes program s events next = (steps : ℕ) × (exec program steps s ≡ Running next events)

-- the run from a state ends so, with these events in all
abbrev pub Finishes : MidProgram → State → List Event → SourceEnd → Type 0
Finishes program s events end = (steps : ℕ) × (exec program steps s ≡ Ended end events)

-- the start: `main` was entered, and nothing of the input was read
abbrev pub started : MidProgram → List ℕ → Limits → State
started program input limits =
    record { machine = started_machine program limits; memory = started_memory program limits; input = input }

-- the meaning: with this input and these limits the program gives these events and ends so
abbrev pub Middle : MidProgram → List ℕ → Limits → List Event → SourceEnd → Type 0
Middle program input limits events end = Finishes program (started program input limits) events end
