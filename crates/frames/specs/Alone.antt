-- What an activation does by its registers, its place and the turns of its part alone, and by reads and writes of cells.
use Rattle.std.specs.Prelude.{ℕ, ◌≡◌, ◌+◌, ◌<◌, ◌≤◌, ◌⊎◌, Bool, true, false, List, [], Option, Some, None, Result, Ok, Err, IsTrue, slice_index, slice_set}
use Rattle.srmt_base.specs.declared.trap.Trap.{Trap}
use Rattle.srmt_base.specs.Types.{IsPromoted}
use Rattle.srmt_base.specs.Arith.{is_comparison}
use Rattle.srmt_base.specs.Memory.{Memory, read_of, write_of}
use Rattle.mid_code.specs.declared.program.MidProgram.{MidProgram}
use Rattle.mid_code.specs.declared.mid.Mid.{Mid}
use Rattle.mid_code.specs.declared.mid.Mid.TheVariants.{Const, Move, Arith, Conv, PtrAdd, PtrDiff, PtrCmp, GlobAddr, FunAddr, Load, Store, VLoad, VStore, Open, Close, Jump, JumpZ, JumpN, Turn, Call, CallPtr, Return, Put, Get, Exit}
use Rattle.mid_code.specs.Fits.{IsValue, IsWithin}
use Rattle.mid_code.specs.Machine.{Opened, Local, Goes, local_of, with_local, act}
use Rattle.mid_code.specs.Meaning.{State, Comes}
use Rattle.frames.specs.declared.alone.Stand.{Stand}

-- an activation with these registers and at this place, with as many turns left
abbrev pub local_at : Local → List ℕ → Stand → Local
local_at l registers stand =
    record { at = record l.at { place = stand.place; registers = registers }; budget = record l.budget { turns = stand.turns } }

-- the same as the newest activation of a run, with this memory
abbrev pub state_at : MidProgram → State → List ℕ → Memory → Stand → State
state_at program s registers memory stand =
    record s { machine = with_local program (local_at (local_of program s.machine) registers stand) s.machine; memory = memory }

-- the one comes to the other, with no event, in any run whose newest activation is one of this function
abbrev pub ComesAlone : MidProgram → ℕ → List ℕ → Memory → Stand → List ℕ → Memory → Stand → Type 0
ComesAlone program number before memory from after left to =
    (s : State) → s.machine.top.function ≡ number → Comes program (state_at program s before memory from) [] (state_at program s after left to)

-- an instruction goes on from the one to the other, whatever else its activation has
abbrev pub GoesBy : Mid → List ℕ → Stand → List ℕ → Stand → Type 0
GoesBy mid before from after to =
    (program : MidProgram) (line : ℕ) (l : Local) → act program mid line (local_at l before from) ≡ Goes (local_at l after to)

-- an instruction needs more, or stops the run
abbrev pub IsHeld : Mid → List ℕ → Stand → Type 0
IsHeld mid before from = (program : MidProgram) (line : ℕ) (l next : Local) → act program mid line (local_at l before from) ≡ Goes next → ⊥

-- what an instruction did: it has gone on, or it is held and nothing has changed
abbrev pub HasStepped : Mid → List ℕ → Stand → List ℕ → Option Stand → Type 0
HasStepped mid before from after (Some to) = GoesBy mid before from after to
HasStepped mid before from after None = (after ≡ before) × IsHeld mid before from

-- an instruction has read a cell into its target register
pub record HasRead (mid : Mid) (before : List ℕ) (memory : Memory) (from : Stand) (after : List ℕ) (to : Stand) : Type 0 where
  pub target : ℕ
  pub pointer : ℕ
  pub value : ℕ
  pub is : mid ≡ Load target pointer
  pub reads : read_of memory (slice_index before pointer) ≡ Ok value
  pub small : IsValue value
  pub registers : after ≡ slice_set before target value
  pub passes : to ≡ record from { place = from.place + 1 }

-- an instruction has written a register to a cell
pub record HasWritten (mid : Mid) (before : List ℕ) (memory : Memory) (from : Stand) (left : Memory) (to : Stand) : Type 0 where
  pub pointer : ℕ
  pub source : ℕ
  pub is : mid ≡ Store pointer source
  pub writes : write_of memory (slice_index before pointer) (slice_index before source) ≡ Ok left
  pub passes : to ≡ record from { place = from.place + 1 }

-- how an instruction has gone on, with the registers and the memory that it has left: by itself, by a read or by a write
abbrev pub Passes : Mid → List ℕ → Memory → Stand → List ℕ → Memory → Stand → Type 0
Passes mid before memory from after left to =
    (GoesBy mid before from after to × (left ≡ memory))
    ⊎ ((HasRead mid before memory from after to × (left ≡ memory)) ⊎ (HasWritten mid before memory from left to × (after ≡ before)))

-- what an instruction did: it has gone on, or nothing has changed
abbrev pub HasPassed : Mid → List ℕ → Memory → Stand → List ℕ → Memory → Option Stand → Type 0
HasPassed mid before memory from after left (Some to) = Passes mid before memory from after left to
HasPassed mid before memory from after left None = (after ≡ before) × (left ≡ memory)

-- the registers that an instruction of these reads and writes are there
abbrev pub Names : Mid → ℕ → Type 0
Names (Const target value) count = target < count
Names (Move target source) count = (target < count) × (source < count)
Names (Arith op ty target left right) count = (target < count) × (left < count) × (right < count) × IsPromoted ty
Names (Conv from to target source) count = (target < count) × (source < count)
Names (PtrAdd target pointer index ty negated scale) count = (target < count) × (pointer < count) × (index < count)
Names (PtrDiff target left right scale) count = (target < count) × (left < count) × (right < count) × (1 ≤ scale)
Names (PtrCmp op target left right) count = (target < count) × (left < count) × (right < count) × IsTrue (is_comparison op)
Names (GlobAddr target object) count = target < count
Names (FunAddr target function) count = target < count
Names (Load target pointer) count = (target < count) × (pointer < count)
Names (Store pointer source) count = (pointer < count) × (source < count)
Names (VLoad target pointer) count = Unit {0}
Names (VStore pointer source) count = Unit {0}
Names (Open target cells) count = Unit {0}
Names (Close place) count = Unit {0}
Names (Jump place) count = Unit {0}
Names (JumpZ source place) count = source < count
Names (JumpN source place) count = source < count
Names Turn count = Unit {0}
Names (Call target function args) count = Unit {0}
Names (CallPtr target callee ty args) count = Unit {0}
Names (Return source) count = Unit {0}
Names (Put source) count = Unit {0}
Names (Get target) count = Unit {0}
Names (Exit source) count = Unit {0}

-- an activation of a function stands within the program at a place with these registers
abbrev pub IsWithinCode : MidProgram → ℕ → ℕ → List ℕ → Type 0
IsWithinCode program function place registers =
    (opened : List Opened) × IsWithin program (record { function = function; place = place; registers = registers; opened = opened; into = 0 })

-- a result goes into the target register, or it is a trap and nothing changes
abbrev pub IsSetIf : ℕ → Result ℕ Trap → List ℕ → Stand → List ℕ → Option Stand → Type 0
IsSetIf target (Ok value) before from after to = (after ≡ slice_set before target value) × (to ≡ Some (record from { place = from.place + 1 }))
IsSetIf target (Err trap) before from after to = (after ≡ before) × (to ≡ None)

-- a write was made, and its instruction is passed, or it is a trap and nothing changes
abbrev pub IsWrittenIf : Result Memory Trap → Memory → Stand → Memory → Option Stand → Type 0
IsWrittenIf written memory from left (Some to) = (written ≡ Ok left) × (to ≡ record from { place = from.place + 1 })
IsWrittenIf written memory from left None = left ≡ memory

-- a jump is taken or not
abbrev pub jumped : Bool → ℕ → Stand → Stand
jumped true place stand = record stand { place = place }
jumped false place stand = record stand { place = stand.place + 1 }
