-- The register machine: what its next instruction does, and how a function is entered and left.
--
-- An instruction needs one activation and what is left to its part. Calls and returns are left to whoever runs the
-- machine, and so are memory and the outside.
use Rattle.std.specs.Prelude.{ℕ, ◌+◌, ◌==◌, nat_le, Bool, true, false, not, ◌&&◌, if◌then◌else◌, List, [], ◌∷◌, ◌++◌, length, map, drop, replicate, ◌-◌, Option, Some, None, Result, Ok, Err, slice_index, slice_set}
use Rattle.srmt_base.specs.declared.budgets.Budget.{Budget}
use Rattle.srmt_base.specs.declared.budgets.Budgets.{Budgets}
use Rattle.srmt_base.specs.declared.part.Part.{Part}
use Rattle.srmt_base.specs.declared.part.Part.TheVariants.{Protected, Binary}
use Rattle.srmt_base.specs.declared.trap.Trap.{Trap}
use Rattle.srmt_base.specs.declared.trap.Trap.TheVariants.{NullPointer, NotAFunction}
use Rattle.srmt_base.specs.Arith.{arith_of}
use Rattle.srmt_base.specs.Convert.{convert_of}
use Rattle.srmt_base.specs.Pointer.{pointer_sum_of, pointer_difference_of, pointer_comparison_of}
use Rattle.srmt_base.specs.Objects.{pointer_to}
use Rattle.srmt_base.specs.Memory.{part_if}
use Rattle.srmt_base.specs.Budgets.{budget_of, with_budget, after_turn, enter_of, leave_of}
use Rattle.mid_code.specs.declared.program.MidProgram.{MidProgram}
use Rattle.mid_code.specs.declared.program.MidFunction.{MidFunction}
use Rattle.mid_code.specs.declared.program.MidLine.{MidLine}
use Rattle.mid_code.specs.declared.registers.Registers.{Registers}
use Rattle.mid_code.specs.declared.mid.Mid.{Mid}
use Rattle.mid_code.specs.declared.mid.Mid.TheVariants.{Const, Move, Arith, Conv, PtrAdd, PtrDiff, PtrCmp, GlobAddr, FunAddr, Load, Store, VLoad, VStore, Open, Close, Jump, JumpZ, JumpN, Turn, Call, CallPtr, Return, Put, Get, Exit}
use Rattle.mid_code.specs.declared.access.Access.{Access}
use Rattle.mid_code.specs.declared.access.Access.TheVariants.{Loads, Stores, VolatileLoads, VolatileStores, Opens, Closes, Puts, Gets, Exits}
use Rattle.mid_code.specs.Registers.{registers_list}
use Rattle.mid_code.specs.Program.{function_at, line_at}

-- an object that an activation began: the place of the instruction that began it, and its number
pub record Opened : Type 0 where
  pub place : ℕ
  pub number : ℕ

-- a function that was entered and not yet left
pub record Activation : Type 0 where
  pub function : ℕ
  -- the place of its next instruction; where it has called another, that is the one behind the call
  pub place : ℕ
  pub registers : List ℕ
  -- the objects that it began and has not ended, the newest first
  pub opened : List Opened
  -- the register of its caller that takes its result
  pub into : ℕ

-- an activation, and what is left to its part
pub record Local : Type 0 where
  pub at : Activation
  pub budget : Budget

-- the live activations, the newest on top, and what is left to both parts
pub record Machine : Type 0 where
  pub top : Activation
  pub below : List Activation
  pub budgets : Budgets

-- what the next instruction of an activation does
pub data Does : Type 0 where
  -- it needs the activation and its part's budget alone, and goes on with these
  Goes : (local : Local) → Does
  -- it calls a function, whose result the target register takes
  Calls : (function : ℕ) (args : List ℕ) (target : ℕ) → Does
  -- it leaves its function with this value
  Leaves : (value : ℕ) → Does
  -- it stops the run, at this line
  Traps : (trap : Trap) (line : ℕ) → Does
  -- it reaches memory or the outside, which say how the run goes on; a trap there is at this line
  Reaches : (access : Access) (line : ℕ) → Does
  -- there is no instruction, or it has no meaning here
  Lost : Does

-- what a register of an activation holds, and what several hold
abbrev pub register : Activation → ℕ → ℕ
register a r = slice_index a.registers r

abbrev pub arguments : Activation → Registers → List ℕ
arguments a args = map (register a) (registers_list args)

-- an activation that goes on at a place
abbrev pub moved_to : ℕ → Activation → Activation
moved_to place a = record a { place = place }

-- that has passed its instruction
abbrev pub passed : Activation → Activation
passed a = moved_to (a.place + 1) a

-- the same, with a value in the target register
abbrev pub given : ℕ → ℕ → Activation → Activation
given target value a = record a { place = a.place + 1; registers = slice_set a.registers target value }

-- the same, where the value is the address of a new object of this number
abbrev pub given_object : ℕ → ℕ → Activation → Activation
given_object target number a =
    record a {
      place = a.place + 1;
      registers = slice_set a.registers target (pointer_to number 0);
      opened = record { place = a.place; number = number } ∷ a.opened;
    }

-- that has passed its instruction, and whose newest object has ended
abbrev pub passed_close : Activation → Activation
passed_close a = record a { place = a.place + 1; opened = drop 1 a.opened }

-- a caller goes on where it stands, with a result in a register
abbrev pub resumed : ℕ → ℕ → Activation → Activation
resumed target value a = record a { registers = slice_set a.registers target value }

-- a jump is taken or not
abbrev pub moved_if : Bool → ℕ → Activation → Activation
moved_if true place a = moved_to place a
moved_if false place a = passed a

-- the activation changes, and the budget stays
abbrev pub goes : Local → Activation → Does
goes l a = Goes (record l { at = a })

-- a result goes into the target register, and a trap stops the run: it writes no register
abbrev pub gives : ℕ → ℕ → Local → Result ℕ Trap → Does
gives target line l (Ok value) = goes l (given target value l.at)
gives target line l (Err trap) = Traps trap line

-- a turn is counted, unless none is left
abbrev pub counts : ℕ → Local → Result Budget Trap → Does
counts line l (Ok budget) = Goes (record { at = passed l.at; budget = budget })
counts line l (Err trap) = Traps trap line

-- whether a function has a type
abbrev pub is_of_type : ℕ → Option MidFunction → Bool
is_of_type ty None = false
is_of_type ty (Some code) = code.ty == ty

-- whether a value is the number of a function of a type that is not `main`
abbrev pub is_callee : MidProgram → ℕ → ℕ → Bool
is_callee program ty value = is_of_type ty (function_at program value) && not (value == program.main)

-- a call of a value (C11 6.5.2.2p9)
abbrev pub calls_value : MidProgram → ℕ → ℕ → List ℕ → ℕ → ℕ → Does
calls_value program ty value args target line =
    if value == 0 then Traps NullPointer line else if is_callee program ty value then Calls value args target else Traps NotAFunction line

-- the newest object of the activation is to end; it must be the one that was begun at the place
abbrev pub closes : ℕ → ℕ → List Opened → Does
closes place line [] = Lost
closes place line (newest ∷ older) = if newest.place == place then Reaches (Closes newest.number) line else Lost

-- what an instruction does, one case for each
abbrev pub act : MidProgram → Mid → ℕ → Local → Does
act program (Const target value) line l = goes l (given target value l.at)
act program (Move target source) line l = goes l (given target (register l.at source) l.at)
act program (Arith op ty target left right) line l = gives target line l (arith_of op ty (register l.at left) (register l.at right))
act program (Conv from to target source) line l = goes l (given target (convert_of from to (register l.at source)) l.at)
act program (PtrAdd target pointer index ty negated scale) line l =
    gives target line l (pointer_sum_of (register l.at pointer) ty (register l.at index) negated scale)
act program (PtrDiff target left right scale) line l = gives target line l (pointer_difference_of (register l.at left) (register l.at right) scale)
act program (PtrCmp op target left right) line l = gives target line l (pointer_comparison_of op (register l.at left) (register l.at right))
act program (GlobAddr target object) line l = goes l (given target (pointer_to object 0) l.at)
act program (FunAddr target function) line l = goes l (given target function l.at)
act program (Load target pointer) line l = Reaches (Loads target (register l.at pointer)) line
act program (Store pointer source) line l = Reaches (Stores (register l.at pointer) (register l.at source)) line
act program (VLoad target pointer) line l = Reaches (VolatileLoads target (register l.at pointer)) line
act program (VStore pointer source) line l = Reaches (VolatileStores (register l.at pointer) (register l.at source)) line
act program (Open target cells) line l = Reaches (Opens target cells) line
act program (Close place) line l = closes place line l.at.opened
act program (Jump place) line l = goes l (moved_to place l.at)
act program (JumpZ source place) line l = goes l (moved_if (register l.at source == 0) place l.at)
act program (JumpN source place) line l = goes l (moved_if (not (register l.at source == 0)) place l.at)
act program Turn line l = counts line l (after_turn l.budget)
-- calls of functions (C11 6.5.2.2), and returns (C11 6.8.6.4)
act program (Call target function args) line l = Calls function (arguments l.at args) target
act program (CallPtr target callee ty args) line l = calls_value program ty (register l.at callee) (arguments l.at args) target line
act program (Return source) line l = Leaves (register l.at source)
act program (Put source) line l = Reaches (Puts (register l.at source)) line
act program (Get target) line l = Reaches (Gets target) line
act program (Exit source) line l = Reaches (Exits (register l.at source)) line

abbrev pub act_at : MidProgram → Option MidLine → Local → Does
act_at program None l = Lost
act_at program (Some line) l = act program line.mid line.line l

-- what an activation does next
unfoldable pub does : MidProgram → Local → Does
does program l = act_at program (line_at program l.at.function l.at.place) l

-- the part of a function: those of the main file come first
abbrev pub part_of_function : MidProgram → ℕ → Part
part_of_function program function = part_if (nat_le function program.main_functions)

-- the activation that runs, with what is left to its part, and the machine after it has gone on
abbrev pub local_of : MidProgram → Machine → Local
local_of program m = record { at = m.top; budget = budget_of (part_of_function program m.top.function) m.budgets }

abbrev pub with_local : MidProgram → Local → Machine → Machine
with_local program l m = record m { top = l.at; budgets = with_budget (part_of_function program m.top.function) l.budget m.budgets }

-- the activation that runs changes alone
abbrev pub with_top : Activation → Machine → Machine
with_top a m = record m { top = a }

-- a function begins at its first instruction, with its arguments in its first registers and 0 in the others
abbrev pub activation_of : ℕ → MidFunction → List ℕ → ℕ → Activation
activation_of function code args into =
    record { function = function; place = 0; registers = args ++ replicate (length code.kinds - length args) 0; opened = []; into = into }

-- what the entry of a function comes to
pub data Entry : Type 0 where
  -- it runs, above its callers
  Entered : (machine : Machine) → Entry
  -- its part has no live activation or no turn left, which is told at the line of its name
  Refused : (trap : Trap) (line : ℕ) → Entry
  -- there is no such function
  NoFunction : Entry

abbrev pub entry_by : ℕ → Activation → List Activation → Result Budgets Trap → Entry
entry_by line a callers (Ok budgets) = Entered (record { top = a; below = callers; budgets = budgets })
entry_by line a callers (Err trap) = Refused trap line

abbrev pub entry_in : MidProgram → ℕ → Option MidFunction → List ℕ → ℕ → List Activation → Budgets → Entry
entry_in program function None args into callers budgets = NoFunction
entry_in program function (Some code) args into callers budgets =
    entry_by code.line (activation_of function code args into) callers (enter_of (part_of_function program function) budgets)

-- a function is entered, whoever runs the machine: above these callers, the first of which takes its result into a register
abbrev pub enter : MidProgram → ℕ → List ℕ → ℕ → List Activation → Budgets → Entry
enter program function args into callers budgets = entry_in program function (function_at program function) args into callers budgets

-- the callers of what the running activation calls. It has passed its call
abbrev pub waiting : Machine → List Activation
waiting m = passed m.top ∷ m.below

-- a function is left: its caller takes the result, and its activation no longer counts. The last one has no caller
abbrev pub returned_to : List Activation → Part → ℕ → Machine → Option Machine
returned_to [] part value m = None
returned_to (caller ∷ rest) part value m =
    Some (record { top = resumed m.top.into value caller; below = rest; budgets = leave_of part m.budgets })

abbrev pub returned : MidProgram → ℕ → Machine → Option Machine
returned program value m = returned_to m.below (part_of_function program m.top.function) value m

-- all live activations, the newest first, and how many of them are of a part
abbrev pub activations : Machine → List Activation
activations m = m.top ∷ m.below

abbrev pub one_if : Part → Part → ℕ
one_if Protected Protected = 1
one_if Binary Binary = 1
one_if Protected Binary = 0
one_if Binary Protected = 0

abbrev pub live_of : MidProgram → Part → List Activation → ℕ
live_of program part [] = 0
live_of program part (a ∷ rest) = one_if part (part_of_function program a.function) + live_of program part rest
