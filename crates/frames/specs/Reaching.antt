-- What memory and the outside do for an instruction.
use Rattle.std.specs.Prelude.{◌≡◌, ℕ, ◌%◌, ◌≤◌, ◌+◌, List, [], ◌∷◌, length, Option, Some, None, Result, Ok, Err, IfOk}
use Rattle.srmt_base.specs.declared.event.Event.{Event}
use Rattle.srmt_base.specs.declared.event.Event.TheVariants.{Byte, PortRead, PortWrite, Exit as ExitEvent}
use Rattle.srmt_base.specs.declared.trap.SourceEnd.{SourceEnd}
use Rattle.srmt_base.specs.Objects.{object_part, offset_part}
use Rattle.srmt_base.specs.Memory.{read_of, write_of}
use Rattle.srmt_outside.specs.Count.{next_count}
use Rattle.srmt_outside.specs.Told.{Appends}
use Rattle.mid_code.specs.declared.access.Access.{Access}
use Rattle.mid_code.specs.declared.access.Access.TheVariants.{Loads, Stores, VolatileLoads, VolatileStores, Opens, Closes, Puts, Gets, Exits}
use Rattle.mid_code.specs.Machine.{activations}
use Rattle.mid_code.specs.Fits.{open_count}
use Rattle.mid_code.specs.Meaning.{State, Step, On, Ends, Stuck, after_read, after_write}
use Rattle.frames.specs.declared.running.Running.{Running}

-- a run at some moment
abbrev pub state_of : Running → State
state_of r = record { machine = r.frames.machine; memory = r.memory; input = r.input }

-- a step goes on to a state, or ends the run
abbrev pub LeadsTo : Step → State → List Event → Option SourceEnd → Type 0
LeadsTo step next events None = step ≡ On next events
LeadsTo step next events (Some end) = step ≡ Ends end events

-- a step gives an event
abbrev pub GivesEvent : Step → Type 0
GivesEvent (On next events) = 1 ≤ length events
GivesEvent (Ends end events) = 1 ≤ length events
GivesEvent Stuck = ⊥

-- volatile reads and writes, each with its event
abbrev pub volatile_read : ℕ → ℕ → ℕ → State → Step
volatile_read target pointer line s =
    after_read target line (PortRead (object_part pointer) (offset_part pointer) ∷ []) s (read_of s.memory pointer)

abbrev pub volatile_write : ℕ → ℕ → ℕ → State → Step
volatile_write pointer value line s =
    after_write line (PortWrite (object_part pointer) (offset_part pointer) value ∷ []) s (write_of s.memory pointer value)

-- a step has led to a state, and the outlet has been told its events
abbrev pub Leads : {E : Type 0} → Step → State → Result (Option SourceEnd) E → Option (List Event) → Option (List Event) → Type 0
Leads step next result before after = IfOk result (λ end. (events : List Event) × LeadsTo step next events end × Appends before after events)

-- the events that an access gives, by whether it ends the run
abbrev pub events_of : Access → Option SourceEnd → List Event
events_of (Loads target pointer) end = []
events_of (Stores pointer value) end = []
events_of (VolatileLoads target pointer) None = PortRead (object_part pointer) (offset_part pointer) ∷ []
events_of (VolatileLoads target pointer) (Some end) = []
events_of (VolatileStores pointer value) None = PortWrite (object_part pointer) (offset_part pointer) value ∷ []
events_of (VolatileStores pointer value) (Some end) = []
events_of (Opens target cells) end = []
events_of (Closes number) end = []
events_of (Puts value) end = Byte (value % 256) ∷ []
events_of (Gets target) end = []
events_of (Exits value) end = ExitEvent (value % 256) ∷ []

-- there is room for all objects that may be open
pub record HasRoom (r : Running) : Type 0 where
  pub opened : open_count (activations r.frames.machine) ≤ length r.memory.protected.live + length r.memory.binary.live
  pub protected_few : length r.memory.protected.live ≤ 1048576
  pub binary_few : length r.memory.binary.live ≤ 1048576
  pub room : r.frames.room.objects ≡ 2097152

-- an outlet's count of faults: where a call has failed it is one more, unless it stands at its last value, and else it is
-- as before
abbrev pub Counted : {A E : Type 0} → Result A E → ℕ → ℕ → Type 0
Counted (Ok value) before after = after ≡ before
Counted (Err error) before after = (after ≡ next_count before) × (before ≤ after)
