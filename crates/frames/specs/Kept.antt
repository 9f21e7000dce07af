-- How the live activations of a machine are kept in flat rows.
use Rattle.std.specs.Prelude.{ℕ, ◌+◌, ◌-◌, ◌*◌, ◌^◌, ◌<◌, ◌≤◌, ◌≡◌, List, [], ◌∷◌, ◌++◌, length, map, take, drop, reverse, replicate, All, Option, Some, None}
use Rattle.srmt_base.specs.declared.budgets.Budgets.{Budgets}
use Rattle.mid_code.specs.Fits.{IsValue}
use Rattle.mid_code.specs.Machine.{Opened, Activation, Machine, activations}
use Rattle.frames.specs.declared.frames.Room.{Room}
use Rattle.frames.specs.declared.frames.Line.{Line}
use Rattle.frames.specs.declared.frames.Begun.{Begun}

-- a machine, with the room that it has
pub record Kept : Type 0 where
  pub machine : Machine
  pub room : Room

-- the same with another machine
abbrev pub with_machine : Machine → Kept → Kept
with_machine m k = record k { machine = m }

-- how many more activations the budgets allow
abbrev pub depths : Budgets → ℕ
depths budgets = budgets.protected.depth + budgets.binary.depth

-- an activation of a function with so many registers, as it begins
abbrev pub fresh : ℕ → ℕ → List ℕ → ℕ → Activation
fresh function count values into =
    record { function = function; place = 0; registers = values ++ replicate (count - length values) 0; opened = []; into = into }

-- above all activations there is another one, or the newest is away
abbrev pub pushed : Activation → Machine → Machine
pushed a m = record m { top = a; below = activations m }

abbrev pub popped : Activation → List Activation → Machine → Machine
popped caller rest m = record m { top = caller; below = rest }

-- the newest activation is away, and the one below it is the newest
abbrev pub IsPopped : List Activation → Machine → Machine → Type 0
IsPopped [] m after = ⊥
IsPopped (caller ∷ rest) m after = after ≡ popped caller rest m

-- the number of the newest open object, if one is open
abbrev pub newest_number : List Opened → Option ℕ
newest_number [] = None
newest_number (newest ∷ older) = Some newest.number

-- an activation has a caller, with a register for its result
abbrev pub TakesResult : ℕ → List Activation → Type 0
TakesResult into [] = ⊥
TakesResult into (caller ∷ rest) = into < length caller.registers

-- an object as a row keeps it
abbrev pub opened_of : Begun → Opened
opened_of o = record { place = o.place; number = o.number }

-- the activation of a line: its registers are a part of the row of registers, its open objects a part of the row of
-- open objects, the newest last
abbrev pub activation_in : List ℕ → List Begun → Line → Activation
activation_in registers objects line = record {
  function = line.function;
  place = line.place;
  registers = take line.count (drop line.base registers);
  opened = reverse (map opened_of (take line.held (drop line.floor objects)));
  into = line.into;
}

-- the machine of the rows
abbrev pub machine_in : List ℕ → List Begun → Line → List Line → Budgets → Machine
machine_in registers objects top below budgets = record {
  top = activation_in registers objects top;
  below = map (activation_in registers objects) (reverse below);
  budgets = budgets;
}

-- lines, the newest first: the registers and the open objects of each end where those of the one above it begin
abbrev pub AreStacked : ℕ → ℕ → List Line → Type 0
AreStacked end top [] = (end ≡ 0) × (top ≡ 0)
AreStacked end top (line ∷ lines) =
    (line.base + line.count ≡ end) × (line.floor + line.held ≡ top) × (line.count ≤ 1024) × AreStacked line.base line.floor lines

-- what a machine keeps of its rows: they are laid so, the registers hold values, and there is room for all activations
-- that the budgets allow
pub record AreKept (room : Room) (registers : List ℕ) (objects : List Begun) (top : Line) (below : List Line) (budgets : Budgets)
    (register_room object_room line_room : ℕ) : Type 0 where
  pub laid : AreStacked (length registers) (length objects) (top ∷ reverse below)
  pub small : All IsValue registers
  pub few : length below + 1 + depths budgets ≤ room.activations
  pub bounded : room.activations ≤ 4096
  pub object_bound : room.objects ≤ 2 ^ 22
  pub objects_within : length objects ≤ room.objects
  pub registers_fit : 1024 * room.activations ≤ register_room
  pub objects_fit : room.objects ≤ object_room
  pub lines_fit : room.activations ≤ line_room
