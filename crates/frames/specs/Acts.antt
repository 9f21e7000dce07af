-- What an instruction needs of the activation that performs it, and what performing it comes to.
use Rattle.std.specs.Prelude.{◌≡◌, ℕ, ◌+◌, ◌^◌, ◌<◌, ◌≤◌, List, [], ◌∷◌, length, Some, Result, Ok, Err, All, true, IsTrue}
use Rattle.srmt_base.specs.declared.trap.Trap.{Trap}
use Rattle.srmt_base.specs.Types.{IsPromoted}
use Rattle.srmt_base.specs.Arith.{is_comparison}
use Rattle.srmt_base.specs.Objects.{pointer_to}
use Rattle.mid_code.specs.declared.program.MidProgram.{MidProgram}
use Rattle.mid_code.specs.declared.program.MidFunction.{MidFunction}
use Rattle.mid_code.specs.declared.program.MidLine.{MidLine}
use Rattle.mid_code.specs.declared.mid.Mid.{Mid}
use Rattle.mid_code.specs.declared.mid.Mid.TheVariants.{Const, Move, Arith, Conv, PtrAdd, PtrDiff, PtrCmp, GlobAddr, FunAddr, Load, Store, VLoad, VStore, Open, Close, Jump, JumpZ, JumpN, Turn, Call, CallPtr, Return, Put, Get, Exit}
use Rattle.mid_code.specs.declared.access.Access.{Access}
use Rattle.mid_code.specs.declared.access.Access.TheVariants.{Loads, Stores, VolatileLoads, VolatileStores, Opens, Closes, Puts, Gets, Exits}
use Rattle.mid_code.specs.Registers.{registers_list}
use Rattle.mid_code.specs.Program.{function_at}
use Rattle.mid_code.specs.Fits.{IsValue}
use Rattle.mid_code.specs.declared.registers.Registers.{Registers}
use Rattle.mid_code.specs.Machine.{Opened, Activation, Local, Machine, Does, Goes, Calls, Leaves, Traps, Reaches, Entry}
use Rattle.mid_code.specs.Machine.{register, arguments, is_callee, calls_value, goes, local_of, with_local, act, activations, waiting, enter}
use Rattle.frames.specs.Kept.{Kept, with_machine}
use Rattle.frames.specs.declared.act.Did.{Did}
use Rattle.frames.specs.declared.act.Did.TheVariants.{Went, Called, Left, Trapped, Wants}

-- an activation has a register
abbrev pub IsThere : Activation → ℕ → Type 0
IsThere a r = r < length a.registers

-- a function is there, with registers for so many arguments
pub record CanEnter (program : MidProgram) (number count : ℕ) : Type 0 where
  pub code : MidFunction
  pub found : function_at program number ≡ Some code
  pub few : length code.kinds ≤ 1024
  pub room : count ≤ length code.kinds

-- the newest open object was begun at a place
abbrev pub IsNewest : ℕ → List Opened → Type 0
IsNewest place [] = ⊥
IsNewest place (newest ∷ older) = newest.place ≡ place

-- what an instruction names is there, one case for each
abbrev pub CanAct : MidProgram → Mid → Activation → Type 0
CanAct program (Const target value) a = IsThere a target × IsValue value
CanAct program (Move target source) a = IsThere a target × IsThere a source
CanAct program (Arith op ty target left right) a = IsThere a target × IsThere a left × IsThere a right × IsPromoted ty
CanAct program (Conv from to target source) a = IsThere a target × IsThere a source
CanAct program (PtrAdd target pointer index ty negated scale) a = IsThere a target × IsThere a pointer × IsThere a index
CanAct program (PtrDiff target left right scale) a = IsThere a target × IsThere a left × IsThere a right × (1 ≤ scale)
CanAct program (PtrCmp op target left right) a = IsThere a target × IsThere a left × IsThere a right × IsTrue (is_comparison op)
CanAct program (GlobAddr target object) a = IsThere a target × IsValue (pointer_to object 0)
CanAct program (FunAddr target function) a = IsThere a target
CanAct program (Load target pointer) a = IsThere a target × IsThere a pointer
CanAct program (Store pointer source) a = IsThere a pointer × IsThere a source
CanAct program (VLoad target pointer) a = IsThere a target × IsThere a pointer
CanAct program (VStore pointer source) a = IsThere a pointer × IsThere a source
CanAct program (Open target cells) a = IsThere a target × (1 ≤ cells)
CanAct program (Close place) a = IsNewest place a.opened
CanAct program (Jump place) a = Unit {0}
CanAct program (JumpZ source place) a = IsThere a source
CanAct program (JumpN source place) a = IsThere a source
CanAct program Turn a = Unit {0}
CanAct program (Call target function args) a =
    IsThere a target × All (IsThere a) (registers_list args) × CanEnter program function (length (registers_list args))
CanAct program (CallPtr target callee ty args) a =
    IsThere a target × IsThere a callee × All (IsThere a) (registers_list args)
    × (is_callee program ty (register a callee) ≡ true → CanEnter program (register a callee) (length (registers_list args)))
CanAct program (Return source) a = IsThere a source
CanAct program (Put source) a = IsThere a source
CanAct program (Get target) a = IsThere a target
CanAct program (Exit source) a = IsThere a source

-- an activation can perform an instruction
pub record IsReady (program : MidProgram) (a : Activation) (mid : Mid) : Type 0 where
  pub place : a.place + 1 < 2 ^ 32
  pub few : length program.functions < 65536
  pub can : CanAct program mid a

-- what a call needs to be entered
pub record CanCall (program : MidProgram) (a : Activation) (function : ℕ) (args : List ℕ) (target : ℕ) : Type 0 where
  pub enters : CanEnter program function (length args)
  pub there : All (IsThere a) args
  pub takes : IsThere a target

-- what memory or the outside need to do what an instruction wants of them
abbrev pub CanReach : Access → Activation → Type 0
CanReach (Loads target pointer) a = IsThere a target
CanReach (Stores pointer value) a = IsValue value
CanReach (VolatileLoads target pointer) a = IsThere a target × IsValue pointer
CanReach (VolatileStores pointer value) a = IsValue pointer × IsValue value
CanReach (Opens target cells) a = IsThere a target × (1 ≤ cells)
CanReach (Closes number) a = 1 ≤ length a.opened
CanReach (Puts value) a = Unit {0}
CanReach (Gets target) a = IsThere a target
CanReach (Exits value) a = Unit {0}

-- what a call of a value comes to: the function of this number is called, or a trap stops the run
abbrev pub IsCallOf : MidProgram → ℕ → ℕ → Result ℕ Trap → Type 0
IsCallOf program ty value (Ok number) =
    (number ≡ value) × (is_callee program ty value ≡ true)
    × ((args : List ℕ) (target line : ℕ) → calls_value program ty value args target line ≡ Calls number args target)
IsCallOf program ty value (Err trap) =
    (args : List ℕ) (target line : ℕ) → calls_value program ty value args target line ≡ Traps trap line

-- the activation goes on, by itself
pub record HasGone (program : MidProgram) (does : Does) (before after : Kept) : Type 0 where
  pub local : Local
  pub goes : does ≡ Goes local
  pub stands : after ≡ with_machine (with_local program local before.machine) before

-- what an instruction does to the newest activation
abbrev pub performed : MidProgram → MidLine → Kept → Does
performed program line k = act program line.mid line.line (local_of program k.machine)

-- a function is called with registers as its arguments, or entered above all activations
abbrev pub called : MidProgram → ℕ → Registers → ℕ → Machine → Entry
called program function args into m = enter program function (arguments m.top args) into (waiting m) m.budgets

abbrev pub entered_above : MidProgram → ℕ → List ℕ → ℕ → Machine → Entry
entered_above program function args into m = enter program function args into (activations m) m.budgets

-- what the code says that an instruction did is what it does, and the machine is as it leaves it; where the instruction
-- needs more than its activation, nothing has changed
abbrev pub HasDone : MidProgram → Does → ℕ → Kept → Kept → Did → Type 0
HasDone program does line before after Went = HasGone program does before after
HasDone program does line before after (Called function args target) =
    (does ≡ Calls function (arguments before.machine.top args) target) × (after ≡ before)
    × CanCall program before.machine.top function (registers_list args) target
HasDone program does line before after (Left value) = (does ≡ Leaves value) × (after ≡ before) × IsValue value
HasDone program does line before after (Trapped trap at) = (does ≡ Traps trap at) × (after ≡ before)
HasDone program does line before after (Wants access) =
    (does ≡ Reaches access line) × (after ≡ before) × CanReach access before.machine.top

-- an activation has gone on to another, by itself
abbrev pub GoesTo : Kept → Activation → Kept → Did → Type 0
GoesTo before a after did =
    (program : MidProgram) (line : ℕ) → HasDone program (goes (local_of program before.machine) a) line before after did
