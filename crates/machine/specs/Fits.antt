-- A side that stands within its version.
use Rattle.std.specs.Prelude.{ℕ, ◌≡◌, ◌^◌, ◌<◌, ◌≤◌, List, [], Some, length, All, IsTrue}
use Rattle.srmt_base.specs.declared.side.Side.{Side}
use Rattle.mid_code.specs.Classes.{SharedProgram}
use Rattle.mid_code.specs.Versions.{operands_list}
use Rattle.mid_code.specs.declared.program.MidFunction.{MidFunction}
use Rattle.mid_code.specs.declared.version.VersionOp.{VersionOp}
use Rattle.mid_code.specs.declared.version.VersionOp.TheVariants.{Copied, SharedLoad, SharedStore, SharedOpen, SharedClose, Ask, Await, Act, Enter, Callback, Check, CheckZero, CheckStored, Ack, Take, TakeDone, CheckOpen, CheckClose, End}
use Rattle.mid_code.specs.declared.version.VersionLine.{VersionLine}
use Rattle.mid_code.specs.Program.{function_at}
use Rattle.mid_code.specs.Machine.{Does, Goes, Calls, Leaves, Traps, Reaches, Lost}
use Rattle.machine.specs.declared.stepped.Stepped.{Stepped}
use Rattle.machine.specs.declared.stepped.Stepped.TheVariants.{Made, NotYet, MadeLast}
use Rattle.world.specs.World.{WorldState, is_live}
use Rattle.machine.specs.Side.{SideState}
use Rattle.machine.specs.Steps.{side_op}

-- acknowledgements are kept only where an AWAIT waits for more
abbrev pub HeardFits : VersionOp → List ℕ → Type 0
HeardFits (Copied mid) heard = heard ≡ []
HeardFits (SharedLoad site target pointer) heard = heard ≡ []
HeardFits (SharedStore site pointer source) heard = heard ≡ []
HeardFits (SharedOpen site target cells) heard = heard ≡ []
HeardFits (SharedClose site) heard = heard ≡ []
HeardFits (Ask site args) heard = heard ≡ []
HeardFits (Await site args) heard = length heard < length (operands_list args)
HeardFits (Act site request target function args) heard = heard ≡ []
HeardFits (Enter callee ty target place args) heard = heard ≡ []
HeardFits (Callback function) heard = heard ≡ []
HeardFits (Check site source) heard = heard ≡ []
HeardFits (CheckZero site) heard = heard ≡ []
HeardFits (CheckStored site source) heard = heard ≡ []
HeardFits (Ack site args) heard = heard ≡ []
HeardFits (Take site target) heard = heard ≡ []
HeardFits (TakeDone site) heard = heard ≡ []
HeardFits (CheckOpen site target cells) heard = heard ≡ []
HeardFits (CheckClose site) heard = heard ≡ []
HeardFits (End source) heard = heard ≡ []

-- these are registers of the side's function
abbrev pub AreRegisters : SideState → List ℕ → Type 0
AreRegisters s args = All (λ a. a < length s.at.machine.top.registers) args

-- its registers hold numbers of 44 bits
abbrev pub HoldsSmall : SideState → Type 0
HoldsSmall s = All (λ v. v < 2 ^ 44) s.at.machine.top.registers

-- the operands of an exchange can be sent: they are few, and registers that hold numbers of 44 bits
pub record CanSpell (s : SideState) (args : List ℕ) : Type 0 where
  pub few : length args ≤ 17
  pub registers : AreRegisters s args
  pub small : HoldsSmall s

-- what needs the activation and the budget of its part alone: it goes on, or stops the run
abbrev pub IsAlone : Does → Type 0
IsAlone (Goes local) = Unit {0}
IsAlone (Calls function args target) = ⊥
IsAlone (Leaves value) = ⊥
IsAlone (Traps trap line) = Unit {0}
IsAlone (Reaches access line) = ⊥
IsAlone Lost = ⊥

-- no version is so long
abbrev pub IsNear : SideState → Type 0
IsNear s = s.at.machine.top.place < 2 ^ 21

-- it has an instruction next, and all registers of its function
pub record SideFits (side : Side) (program : SharedProgram) (s : SideState) : Type 0 where
  pub function : MidFunction
  pub line : VersionLine
  pub found : function_at program.program s.at.machine.top.function ≡ Some function
  pub at : side_op side program s ≡ Some line
  pub registers : length s.at.machine.top.registers ≡ length function.kinds
  -- a register holds a number of 44 bits
  pub each : All (λ v. v < 2 ^ 44) s.at.machine.top.registers
  pub heard : HeardFits line.op s.heard

-- a side that has not ended fits after a step
abbrev pub FitsAfter : Stepped → Side → SharedProgram → SideState → Type 0
FitsAfter Made side program s = SideFits side program s
FitsAfter NotYet side program s = SideFits side program s
FitsAfter (MadeLast end) side program s = Unit {0}

-- and its world answers on
abbrev pub LivesAfter : Stepped → WorldState → Type 0
LivesAfter Made w = IsTrue (is_live w)
LivesAfter NotYet w = IsTrue (is_live w)
LivesAfter (MadeLast end) w = Unit {0}
