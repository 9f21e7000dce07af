-- Locations that the evaluator finds, and the events of accesses through volatile lvalues (C11 5.1.2.3p6).
use Rattle.std.specs.Prelude.{ℕ, Bool, true, false, if◌then◌else◌, Option, Some, None}
use Rattle.srmt_base.specs.declared.event.Event.{Event}
use Rattle.srmt_base.specs.declared.event.Event.TheVariants.{PortRead, PortWrite}
use Rattle.srmt_base.specs.Objects.{object_part, offset_part}
use Rattle.mid_code.specs.Fits.{IsValue}
use Rattle.c_types.specs.Types.{Qualified}
use Rattle.source_meaning.specs.Places.{Setting, Location, register, cell_of, row_of}
use Rattle.c_meaning.specs.declared.access.Location.{Location as CodeLocation}
use Rattle.c_meaning.specs.declared.access.Location.TheVariants as location

abbrev pub local_in : Setting → ℕ → Qualified → ℕ → ℕ → Location
local_in s n t line a = if (row_of s n).is_placed then cell_of t line a else register n

abbrev pub event_of_read : Bool → ℕ → Option Event
event_of_read true pointer = Some (PortRead (object_part pointer) (offset_part pointer))
event_of_read false pointer = None

abbrev pub event_of_write : Bool → ℕ → ℕ → Option Event
event_of_write true pointer value = Some (PortWrite (object_part pointer) (offset_part pointer) value)
event_of_write false pointer value = None

-- an address is a number of 44 bits
abbrev pub IsReachable : CodeLocation → Type 0
IsReachable (location.Register number) = Unit {0}
IsReachable (location.Cell is_volatile line pointer) = IsValue pointer
