-- What each access comes to: one of six shapes, by which every law of a step is proved.
--
-- Both tables by access stand here: a new access has a row in each of them, and no other proof names it.
use Rattle.std.proofs.Common.{◌≡◌, ℕ, ◌<◌, ◌≤◌, ◌%◌, List, [], ◌∷◌, length, Result, Ok, refl, arith}
use Rattle.std.specs.Prelude.{All, IfOk, IfErr}
use Rattle.std.proofs.lemmas.List.Elements.{All-head, All-tail}
use Rattle.srmt_base.specs.declared.event.Event.{Event}
use Rattle.srmt_base.specs.declared.event.Event.TheVariants.{Byte, PortRead, PortWrite, Exit as ExitEvent}
use Rattle.srmt_base.specs.declared.trap.Trap.{Trap}
use Rattle.srmt_base.specs.declared.trap.SourceEnd.TheVariants.{Exit as ExitEnd}
use Rattle.srmt_base.specs.Input.{next_byte}
use Rattle.srmt_base.specs.Objects.{pointer_to, object_part, offset_part}
use Rattle.srmt_base.specs.Memory.{Memory, read_of, write_of, begin_of, finish_of, next_number}
use Rattle.mid_code.specs.declared.program.MidProgram.{MidProgram}
use Rattle.mid_code.specs.declared.access.Access.{Access}
use Rattle.mid_code.specs.declared.access.Access.TheVariants.{Loads, Stores, VolatileLoads, VolatileStores, Opens, Closes, Puts, Gets, Exits}
use Rattle.mid_code.specs.Machine.{Activation, passed, given, given_object, passed_close, with_top}
use Rattle.mid_code.specs.Meaning.{State, Step, On, Ends, after_read, after_write, after_begin, own_part, reach}
use Rattle.mid_code.specs.Fits.{IsValue, IsWithin, Fits}
use Rattle.mid_code.proofs.OtherTraps.{IsOther, read_other, write_other}
use Rattle.mid_code.proofs.PartsKept.{read_value}
use Rattle.mid_code.proofs.MemoryKept.{AfterWrite, HasCells, wrote, wrote_cells}

-- an access wants what it may, and the activation stands within the program after it
abbrev pub AccessFits : MidProgram → Activation → Access → Type 0
AccessFits program a (Loads target pointer) = IsValue pointer × ((value : ℕ) → IsValue value → IsWithin program (given target value a))
AccessFits program a (Stores pointer value) = IsValue pointer × IsValue value × IsWithin program (passed a)
AccessFits program a (VolatileLoads target pointer) = IsValue pointer × ((value : ℕ) → IsValue value → IsWithin program (given target value a))
AccessFits program a (VolatileStores pointer value) = IsValue pointer × IsValue value × IsWithin program (passed a)
AccessFits program a (Opens target cells) =
    (1 ≤ cells) × ((number : ℕ) → IsValue (pointer_to number 0) → IsWithin program (given_object target number a))
AccessFits program a (Closes number) = (1 ≤ length a.opened) × IsWithin program (passed_close a)
AccessFits program a (Puts value) = IsWithin program (passed a)
AccessFits program a (Gets target) = (value : ℕ) → IsValue value → IsWithin program (given target value a)
AccessFits program a (Exits value) = Unit {0}

-- the shapes
pub data Shape : Type 0 where
  -- memory or the input gives a value, which a register takes, and leaves so much input
  GivesValue : (target : ℕ) (events : List Event) (value : Result ℕ Trap) (input : List ℕ) → Shape
  -- memory changes, as in a write
  WritesMemory : (events : List Event) (memory : Result Memory Trap) → Shape
  -- an object begins, whose address a register takes
  BeginsObject : (target cells : ℕ) → Shape
  -- the newest object of the activation ends
  EndsObject : (number : ℕ) → Shape
  -- the run goes on, and tells these events
  Tells : (events : List Event) → Shape
  -- the run is over
  EndsRun : (status : ℕ) (events : List Event) → Shape

-- the step of a shape
abbrev pub step_of : MidProgram → ℕ → State → Shape → Step
step_of program line s (GivesValue target events value input) = after_read target line events (record s { input = input }) value
step_of program line s (WritesMemory events memory) = after_write line events s memory
step_of program line s (BeginsObject target cells) =
    after_begin target line (next_number (own_part program s) s.memory) s (begin_of (own_part program s) s.memory cells)
step_of program line s (EndsObject number) =
    On (record s { machine = with_top (passed_close s.machine.top) s.machine; memory = finish_of s.memory number }) []
step_of program line s (Tells events) = On (record s { machine = with_top (passed s.machine.top) s.machine }) events
step_of program line s (EndsRun status events) = Ends (ExitEnd status) events

-- a value that is given: no budget is passed, it fits a register, and the input stays bytes
pub record IsGiven (program : MidProgram) (s : State) (access : Access) (target : ℕ) (events : List Event) (given_value : Result ℕ Trap) (input : List ℕ) :
    Type 0 where
  pub other : IfErr given_value IsOther
  pub one : length events ≤ 1
  pub small : Fits program s → IfOk given_value IsValue
  pub bytes : All (λ byte. byte < 256) s.input → All (λ byte. byte < 256) input
  pub within : AccessFits program s.machine.top access → (value : ℕ) → IsValue value → IsWithin program (given target value s.machine.top)

-- a write: no budget is passed, and memory keeps its numbers, its values and its budgets
pub record IsWrite (program : MidProgram) (s : State) (access : Access) (events : List Event) (memory : Result Memory Trap) : Type 0 where
  pub other : IfErr memory IsOther
  pub one : length events ≤ 1
  pub cells : (budget : ℕ) → HasCells budget s.memory → IfOk memory (HasCells budget)
  pub kept : Fits program s → AccessFits program s.machine.top access → IfOk memory (AfterWrite s.memory)
  pub within : AccessFits program s.machine.top access → IsWithin program (passed s.machine.top)

-- what holds of an access of a shape
abbrev pub ShapeHolds : MidProgram → State → Access → Shape → Type 0
ShapeHolds program s access (GivesValue target events value input) = IsGiven program s access target events value input
ShapeHolds program s access (WritesMemory events memory) = IsWrite program s access events memory
ShapeHolds program s access (BeginsObject target cells) = access ≡ Opens target cells
ShapeHolds program s access (EndsObject number) =
    AccessFits program s.machine.top access → (1 ≤ length s.machine.top.opened) × IsWithin program (passed_close s.machine.top)
ShapeHolds program s access (Tells events) = (length events ≤ 1) × (AccessFits program s.machine.top access → IsWithin program (passed s.machine.top))
ShapeHolds program s access (EndsRun status events) = length events ≤ 1

-- an access has a shape
pub record Shaped (program : MidProgram) (s : State) (line : ℕ) (access : Access) : Type 0 where
  pub shape : Shape
  pub is : reach program access line s ≡ step_of program line s shape
  pub holds : ShapeHolds program s access shape

module _ (program : MidProgram) (s : State) (line : ℕ) where
  read_shaped : (target pointer : ℕ) (events : List Event) (access : Access) → length events ≤ 1 →
      (AccessFits program s.machine.top access → (value : ℕ) → IsValue value → IsWithin program (given target value s.machine.top)) →
      IsGiven program s access target events (read_of s.memory pointer) s.input
  read_shaped target pointer events access one within = record {
    other = read_other s.memory pointer;
    one = one;
    small = λ h. read_value s.memory pointer h.memory;
    bytes = λ bytes. bytes;
    within = within;
  }

  write_shaped : (pointer value : ℕ) (events : List Event) (access : Access) → length events ≤ 1 →
      (AccessFits program s.machine.top access → IsValue value × IsWithin program (passed s.machine.top)) →
      IsWrite program s access events (write_of s.memory pointer value)
  write_shaped pointer value events access one fits = record {
    other = write_other s.memory pointer value;
    one = one;
    cells = λ budget h. wrote_cells budget s.memory pointer value h;
    kept = λ h a. wrote s.memory pointer value h.memory (fits a).0;
    within = λ a. (fits a).1;
  }

  next_small : (input : List ℕ) → All (λ byte. byte < 256) input → IsValue (next_byte input).value
  next_small [] bytes = omega arith
  next_small (byte ∷ rest) bytes = omega (arith, All-head (λ b. b < 256) byte rest bytes)

  next_rest : (input : List ℕ) → All (λ byte. byte < 256) input → All (λ byte. byte < 256) (next_byte input).rest
  next_rest [] bytes = bytes
  next_rest (byte ∷ rest) bytes = All-tail (λ b. b < 256) byte rest bytes

  -- one case for each access
  pub shaped : (access : Access) → Shaped program s line access
  shaped (Loads target pointer) = record {
    shape = GivesValue target [] (read_of s.memory pointer) s.input;
    is = refl;
    holds = read_shaped target pointer [] (Loads target pointer) (omega arith) (λ a. a.1);
  }
  shaped (Stores pointer value) = record {
    shape = WritesMemory [] (write_of s.memory pointer value);
    is = refl;
    holds = write_shaped pointer value [] (Stores pointer value) (omega arith) (λ a. (a.1, a.2));
  }
  shaped (VolatileLoads target pointer) =
      let events = PortRead (object_part pointer) (offset_part pointer) ∷ [] in
      record {
        shape = GivesValue target events (read_of s.memory pointer) s.input;
        is = refl;
        holds = read_shaped target pointer events (VolatileLoads target pointer) (omega arith) (λ a. a.1);
      }
  shaped (VolatileStores pointer value) =
      let events = PortWrite (object_part pointer) (offset_part pointer) value ∷ [] in
      record {
        shape = WritesMemory events (write_of s.memory pointer value);
        is = refl;
        holds = write_shaped pointer value events (VolatileStores pointer value) (omega arith) (λ a. (a.1, a.2));
      }
  shaped (Opens target cells) = record { shape = BeginsObject target cells; is = refl; holds = refl }
  shaped (Closes number) = record { shape = EndsObject number; is = refl; holds = λ a. a }
  shaped (Puts value) = record { shape = Tells (Byte (value % 256) ∷ []); is = refl; holds = (omega arith, λ a. a) }
  shaped (Gets target) = record {
    shape = GivesValue target [] (Ok (next_byte s.input).value) (next_byte s.input).rest;
    is = refl;
    holds = record {
      other = tt;
      one = omega arith;
      small = λ h. next_small s.input h.input;
      bytes = next_rest s.input;
      within = λ a. a;
    };
  }
  shaped (Exits value) = record { shape = EndsRun (value % 256) (ExitEvent (value % 256) ∷ []); is = refl; holds = omega arith }
