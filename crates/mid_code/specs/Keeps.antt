-- Runs in which an address register takes an address from memory only where an address was put.
use Rattle.std.specs.Prelude.{◌≡◌, ℕ, zero, suc, ◌+◌, ◌==◌, Bool, true, false, not, ◌&&◌, ◌||◌, List, [], ◌∷◌, find, Option, Some, None, Result, Ok, Err, slice_get}
use Rattle.srmt_base.specs.declared.event.Event.{Event}
use Rattle.srmt_base.specs.declared.trap.Trap.{Trap}
use Rattle.srmt_base.specs.declared.limits.Limits.{Limits}
use Rattle.srmt_base.specs.Objects.{object_part}
use Rattle.srmt_base.specs.Memory.{read_of}
use Rattle.mid_code.specs.declared.program.RegisterKind.{RegisterKind}
use Rattle.mid_code.specs.declared.program.RegisterKind.TheVariants.{Number, Address}
use Rattle.mid_code.specs.declared.program.MidFunction.{MidFunction}
use Rattle.mid_code.specs.declared.program.MidLine.{MidLine}
use Rattle.mid_code.specs.declared.program.MidProgram.{MidProgram}
use Rattle.mid_code.specs.declared.mid.Mid.{Mid}
use Rattle.mid_code.specs.declared.mid.Mid.TheVariants.{Const, Move, Arith, Conv, PtrAdd, PtrDiff, PtrCmp, GlobAddr, FunAddr, Load, Store, VLoad, VStore, Open, Close, Jump, JumpZ, JumpN, Turn, Call, CallPtr, Return, Put, Get, Exit}
use Rattle.mid_code.specs.Program.{function_at, line_at}
use Rattle.mid_code.specs.Rules.{is_static}
use Rattle.mid_code.specs.Machine.{Activation, register}
use Rattle.mid_code.specs.Start.{started_machine}
use Rattle.mid_code.specs.Bounds.{left_to_go}
use Rattle.mid_code.specs.Meaning.{State, Running, if_on, step, exec, started}

-- a write through a pointer, and the kind of the register that was written
pub record Write : Type 0 where
  pub pointer : ℕ
  pub kind : RegisterKind

-- what an instruction does with a cell
pub data CellUse : Type 0 where
  -- a register takes the value to which another points
  ReadsCell : (target : ℕ) (pointer : ℕ) → CellUse
  -- the cell to which a register points takes the value of another
  WritesCell : (pointer : ℕ) (source : ℕ) → CellUse
  NoCell : CellUse

abbrev pub cell_use : Mid → CellUse
cell_use (Const target value) = NoCell
cell_use (Move target source) = NoCell
cell_use (Arith op ty target left right) = NoCell
cell_use (Conv from to target source) = NoCell
cell_use (PtrAdd target pointer index ty negated scale) = NoCell
cell_use (PtrDiff target left right scale) = NoCell
cell_use (PtrCmp op target left right) = NoCell
cell_use (GlobAddr target object) = NoCell
cell_use (FunAddr target function) = NoCell
cell_use (Load target pointer) = ReadsCell target pointer
cell_use (Store pointer source) = WritesCell pointer source
cell_use (VLoad target pointer) = ReadsCell target pointer
cell_use (VStore pointer source) = WritesCell pointer source
cell_use (Open target cells) = NoCell
cell_use (Close place) = NoCell
cell_use (Jump place) = NoCell
cell_use (JumpZ source place) = NoCell
cell_use (JumpN source place) = NoCell
cell_use Turn = NoCell
cell_use (Call target function args) = NoCell
cell_use (CallPtr target callee ty args) = NoCell
cell_use (Return source) = NoCell
cell_use (Put source) = NoCell
cell_use (Get target) = NoCell
cell_use (Exit source) = NoCell

abbrev pub cell_use_at : Option MidLine → CellUse
cell_use_at None = NoCell
cell_use_at (Some l) = cell_use l.mid

-- the next instruction's
abbrev pub next_cell_use : MidProgram → State → CellUse
next_cell_use program s = cell_use_at (line_at program s.machine.top.function s.machine.top.place)

-- the kind of a register of an activation, where its function has it
abbrev pub kind_in : Option MidFunction → ℕ → Option RegisterKind
kind_in None r = None
kind_in (Some code) r = slice_get code.kinds r

abbrev pub kind_of : MidProgram → Activation → ℕ → Option RegisterKind
kind_of program a r = kind_in (function_at program a.function) r

abbrev pub is_address : RegisterKind → Bool
is_address Number = false
is_address Address = true

abbrev pub holds_address : Option RegisterKind → Bool
holds_address None = false
holds_address (Some kind) = is_address kind

-- the writes with one more, the last first
abbrev pub with_write : ℕ → Option RegisterKind → List Write → List Write
with_write pointer None writes = writes
with_write pointer (Some kind) writes = record { pointer = pointer; kind = kind } ∷ writes

-- the writes after an instruction of an activation
abbrev pub writes_by : MidProgram → Activation → CellUse → List Write → List Write
writes_by program a (ReadsCell target pointer) writes = writes
writes_by program a (WritesCell pointer source) writes = with_write (register a pointer) (kind_of program a source) writes
writes_by program a NoCell writes = writes

abbrev pub writes_after : MidProgram → List Write → State → List Write
writes_after program writes s = writes_by program s.machine.top (next_cell_use program s) writes

-- a value in a cell is an address by how the cell came to hold it: by the last write there, or from the start
abbrev pub came_as_address : MidProgram → Option Write → ℕ → Bool
came_as_address program (Some write) value = is_address write.kind
came_as_address program None value = is_static program (object_part value)

-- what an address register may take from a cell: the null pointer, or an address
abbrev pub is_kept : MidProgram → List Write → ℕ → Result ℕ Trap → Bool
is_kept program writes pointer (Ok value) = value == 0 || came_as_address program (find (λ write. write.pointer == pointer) writes) value
is_kept program writes pointer (Err trap) = true

-- whether an instruction that reads memory into an address register takes such a value
abbrev pub keeps_by : MidProgram → List Write → State → CellUse → Bool
keeps_by program writes s (ReadsCell target pointer) =
    not (holds_address (kind_of program s.machine.top target))
    || is_kept program writes (register s.machine.top pointer) (read_of s.memory (register s.machine.top pointer))
keeps_by program writes s (WritesCell pointer source) = true
keeps_by program writes s NoCell = true

-- whether the next instruction does, after these writes
abbrev pub keeps_next : MidProgram → List Write → State → Bool
keeps_next program writes s = keeps_by program writes s (next_cell_use program s)

-- whether the next so many do
abbrev pub keeps_for : MidProgram → ℕ → List Write → State → Bool
keeps_for program zero writes s = true
keeps_for program (suc more) writes s =
    keeps_next program writes s && if_on (step program s) true (keeps_for program more (writes_after program writes s))

-- whether a run keeps addresses: that of a valid program has no more steps than these
abbrev pub keeps_addresses : MidProgram → List ℕ → Limits → Bool
keeps_addresses program input limits = keeps_for program (left_to_go program (started_machine program limits) + 1) [] (started program input limits)

-- the writes of the next so many instructions, before those that came earlier
abbrev pub writes_in : MidProgram → ℕ → List Write → State → List Write
writes_in program zero writes s = writes
writes_in program (suc more) writes s = if_on (step program s) writes (writes_in program more (writes_after program writes s))

-- at every moment of the run the next instruction does
abbrev pub KeepsAddresses : MidProgram → List ℕ → Limits → Type 0
KeepsAddresses program input limits =
    (steps : ℕ) (s : State) (events : List Event) → exec program steps (started program input limits) ≡ Running s events →
    keeps_next program (writes_in program steps [] (started program input limits)) s ≡ true
