-- A run that stands within its program: what every state of a run of a valid program is like.
use Rattle.std.specs.Prelude.{ℕ, ◌≡◌, ◌+◌, ◌^◌, ◌<◌, ◌≤◌, List, [], ◌∷◌, length, map, Some, All}
use Rattle.srmt_base.specs.declared.budgets.Budgets.{Budgets}
use Rattle.srmt_base.specs.declared.part.Part.{Part}
use Rattle.srmt_base.specs.declared.part.Part.TheVariants.{Protected, Binary}
use Rattle.srmt_base.specs.Budgets.{budget_of}
use Rattle.srmt_base.specs.Objects.{Object, Objects, live_cells}
use Rattle.srmt_base.specs.Memory.{Memory, first_number, last_number}
use Rattle.mid_code.specs.declared.program.MidProgram.{MidProgram}
use Rattle.mid_code.specs.declared.program.MidFunction.{MidFunction}
use Rattle.mid_code.specs.Program.{function_at}
use Rattle.mid_code.specs.Flow.{found_at}
use Rattle.mid_code.specs.Machine.{Activation, Machine, activations, live_of}
use Rattle.mid_code.specs.Meaning.{State}

-- a number of 44 bits, as registers and cells hold them
abbrev pub IsValue : ℕ → Type 0
IsValue v = v < 2 ^ 44

-- the activation has an instruction next, and all registers of its function
pub record IsWithin (program : MidProgram) (a : Activation) : Type 0 where
  pub code : MidFunction
  pub found : function_at program a.function ≡ Some code
  pub place : a.place < length code.code
  pub registers : length a.registers ≡ length code.kinds
  pub each : All IsValue a.registers
  -- its objects are those that are open at its place
  pub opened : found_at code.code a.place ≡ Some (map (λ o. o.place) a.opened)

-- the activations below one: each stands within, and has the register that takes the result of the one above it; the
-- last is that of `main`
abbrev pub AreBelow : MidProgram → Activation → List Activation → Type 0
AreBelow program above [] = above.function ≡ program.main
AreBelow program above (caller ∷ rest) = (above.into < length caller.registers) × IsWithin program caller × AreBelow program caller rest

-- what is left to a part, and its live activations with it, are no more than fitting limits allow
pub record IsLeft (program : MidProgram) (part : Part) (live : List Activation) (budgets : Budgets) : Type 0 where
  pub turns : (budget_of part budgets).turns ≤ 10 ^ 12
  pub depth : live_of program part live + (budget_of part budgets).depth ≤ 1000

-- the same of both parts
pub record AreLeft (program : MidProgram) (live : List Activation) (budgets : Budgets) : Type 0 where
  pub protected : IsLeft program Protected live budgets
  pub binary : IsLeft program Binary live budgets

-- the cells of an object hold values
abbrev pub HoldsValues : Object → Type 0
HoldsValues object = All IsValue object.cells

-- the numbers of objects rise, from a least one to below the next that is given
abbrev pub AreRising : ℕ → List Object → ℕ → Type 0
AreRising least [] fresh = least ≤ fresh
AreRising least (object ∷ objects) fresh = (least ≤ object.number) × AreRising (object.number + 1) objects fresh

-- the numbers of a part are its own, its objects have cells that hold values, and no more cells live than its budget
pub record IsPart (part : Part) (objects : Objects) : Type 0 where
  pub rising : AreRising (first_number part) objects.live objects.fresh
  pub last : objects.fresh ≤ last_number part + 1
  pub cells : All (λ object. 1 ≤ length object.cells) objects.live
  pub values : All HoldsValues objects.live
  pub within : live_cells objects ≤ objects.budget
  pub budget : objects.budget ≤ 1048576

-- the machine stands within its program
pub record IsMachine (program : MidProgram) (m : Machine) : Type 0 where
  pub top : IsWithin program m.top
  pub below : AreBelow program m.top m.below
  pub left : AreLeft program (activations m) m.budgets

pub record IsMemory (memory : Memory) : Type 0 where
  pub protected : IsPart Protected memory.protected
  pub binary : IsPart Binary memory.binary

-- how many objects some activations began and did not end
abbrev pub open_count : List Activation → ℕ
open_count [] = 0
open_count (a ∷ rest) = length a.opened + open_count rest

pub record Fits (program : MidProgram) (s : State) : Type 0 where
  pub machine : IsMachine program s.machine
  pub memory : IsMemory s.memory
  pub input : All (λ byte. byte < 256) s.input
  -- each of them lives
  pub opened : open_count (activations s.machine) ≤ length s.memory.protected.live + length s.memory.binary.live
