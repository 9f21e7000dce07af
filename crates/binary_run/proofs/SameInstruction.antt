-- What an instruction does hangs neither on the register for the result of its function, nor on the callers, nor on what is left to the other part.
use Rattle.std.proofs.Common.{◌≡◌, ℕ, List, [], ◌∷◌, Option, Some, None, Result, Ok, Err, Bool, true, false, refl}
use Rattle.std.specs.Prelude.{not, ◌==◌, if◌then◌else◌}
use Rattle.srmt_base.specs.declared.budgets.Budget.{Budget}
use Rattle.srmt_base.specs.declared.event.Event.{Event}
use Rattle.srmt_base.specs.declared.trap.Trap.{Trap}
use Rattle.srmt_base.specs.declared.trap.Trap.TheVariants.{NullPointer, NotAFunction}
use Rattle.srmt_base.specs.Arith.{arith_of}
use Rattle.srmt_base.specs.Pointer.{pointer_sum_of, pointer_difference_of, pointer_comparison_of}
use Rattle.srmt_base.specs.Budgets.{after_turn}
use Rattle.srmt_base.specs.Memory.{Memory, read_of, write_of, begin_of, next_number}
use Rattle.mid_code.specs.declared.program.MidLine.{MidLine}
use Rattle.mid_code.specs.declared.program.MidProgram.{MidProgram}
use Rattle.mid_code.specs.declared.mid.Mid.{Mid}
use Rattle.mid_code.specs.declared.mid.Mid.TheVariants.{Const, Move, Arith, Conv, PtrAdd, PtrDiff, PtrCmp, GlobAddr, FunAddr, Load, Store, VLoad, VStore, Open, Close, Jump, JumpZ, JumpN, Turn, Call, CallPtr, Return, Put, Get, Exit}
use Rattle.mid_code.specs.declared.access.Access.{Access}
use Rattle.mid_code.specs.declared.access.Access.TheVariants.{Loads, Stores, VolatileLoads, VolatileStores, Opens, Closes, Puts, Gets, Exits}
use Rattle.mid_code.specs.Program.{line_at}
use Rattle.mid_code.specs.Machine.{Opened, Activation, Local, Machine, Does, Goes, Calls, Leaves, Traps, Reaches, Lost, register, arguments, goes, gives, moved_if, counts, is_callee, calls_value, closes, act, act_at, does}
use Rattle.mid_code.specs.Meaning.{State, Step, On, Ends, Stuck, after_read, after_write, after_begin, own_part, reach}

-- an activation whose result goes elsewhere
abbrev pub into_other : ℕ → Activation → Activation
into_other t a = record a { into = t }

abbrev pub local_other : ℕ → Local → Local
local_other t l = record l { at = into_other t l.at }

abbrev pub does_other : ℕ → Does → Does
does_other t (Goes next) = Goes (local_other t next)
does_other t (Calls function args target) = Calls function args target
does_other t (Leaves value) = Leaves value
does_other t (Traps trap line) = Traps trap line
does_other t (Reaches access line) = Reaches access line
does_other t Lost = Lost

-- an activation that goes on stays in its function
abbrev pub StaysIn : Local → Does → Type 0
StaysIn l (Goes next) = (l.at.function ≡ next.at.function) × (l.at.into ≡ next.at.into)
StaysIn l (Calls function args target) = Unit {0}
StaysIn l (Leaves value) = Unit {0}
StaysIn l (Traps trap line) = Unit {0}
StaysIn l (Reaches access line) = Unit {0}
StaysIn l Lost = Unit {0}

module _ (program : MidProgram) (t : ℕ) (l : Local) where
  abbrev other : Local
  other = local_other t l

  abbrev IsSame : Does → Does → Type 0
  IsSame d e = (e ≡ does_other t d) × StaysIn l d

  if_same : (b : Bool) (d e d2 e2 : Does) → IsSame d d2 → IsSame e e2 → IsSame (if b then d else e) (if b then d2 else e2)
  if_same true d e d2 e2 taken not_taken = taken
  if_same false d e d2 e2 taken not_taken = not_taken

  gives_same : (target line : ℕ) (r : Result ℕ Trap) → IsSame (gives target line l r) (gives target line other r)
  gives_same target line (Ok value) = (refl, (refl, refl))
  gives_same target line (Err trap) = (refl, tt)

  moved_same : (b : Bool) (place : ℕ) → IsSame (goes l (moved_if b place l.at)) (goes other (moved_if b place other.at))
  moved_same true place = (refl, (refl, refl))
  moved_same false place = (refl, (refl, refl))

  counts_same : (line : ℕ) (r : Result Budget Trap) → IsSame (counts line l r) (counts line other r)
  counts_same line (Ok budget) = (refl, (refl, refl))
  counts_same line (Err trap) = (refl, tt)

  closes_same : (place line : ℕ) (opened : List Opened) → IsSame (closes place line opened) (closes place line opened)
  closes_same place line [] = (refl, tt)
  closes_same place line (newest ∷ older) = if_same (newest.place == place) _ _ _ _ (refl, tt) (refl, tt)

  calls_same : (ty value : ℕ) (args : List ℕ) (target line : ℕ) → IsSame (calls_value program ty value args target line) (calls_value program ty value args target line)
  calls_same ty value args target line =
      if_same (value == 0) (Traps NullPointer line) (if is_callee program ty value then Calls value args target else Traps NotAFunction line) _ _ (refl, tt)
      (if_same (is_callee program ty value) (Calls value args target) (Traps NotAFunction line) _ _ (refl, tt) (refl, tt))

  -- one case for each instruction
  act_same : (mid : Mid) (line : ℕ) → IsSame (act program mid line l) (act program mid line other)
  act_same (Const target value) line = (refl, (refl, refl))
  act_same (Move target source) line = (refl, (refl, refl))
  act_same (Arith op ty target left right) line = gives_same target line (arith_of op ty (register l.at left) (register l.at right))
  act_same (Conv from to target source) line = (refl, (refl, refl))
  act_same (PtrAdd target pointer index ty negated scale) line =
      gives_same target line (pointer_sum_of (register l.at pointer) ty (register l.at index) negated scale)
  act_same (PtrDiff target left right scale) line = gives_same target line (pointer_difference_of (register l.at left) (register l.at right) scale)
  act_same (PtrCmp op target left right) line = gives_same target line (pointer_comparison_of op (register l.at left) (register l.at right))
  act_same (GlobAddr target object) line = (refl, (refl, refl))
  act_same (FunAddr target function) line = (refl, (refl, refl))
  act_same (Load target pointer) line = (refl, tt)
  act_same (Store pointer source) line = (refl, tt)
  act_same (VLoad target pointer) line = (refl, tt)
  act_same (VStore pointer source) line = (refl, tt)
  act_same (Open target cells) line = (refl, tt)
  act_same (Close place) line = closes_same place line l.at.opened
  act_same (Jump place) line = (refl, (refl, refl))
  act_same (JumpZ source place) line = moved_same (register l.at source == 0) place
  act_same (JumpN source place) line = moved_same (not (register l.at source == 0)) place
  act_same Turn line = counts_same line (after_turn l.budget)
  act_same (Call target function args) line = (refl, tt)
  act_same (CallPtr target callee ty args) line = calls_same ty (register l.at callee) (arguments l.at args) target line
  act_same (Return source) line = (refl, tt)
  act_same (Put source) line = (refl, tt)
  act_same (Get target) line = (refl, tt)
  act_same (Exit source) line = (refl, tt)

  at_same : (o : Option MidLine) → IsSame (act_at program o l) (act_at program o other)
  at_same None = (refl, tt)
  at_same (Some line) = act_same line.mid line.line

  pub does_same : IsSame (does program l) (does program other)
  unfolding does
  does_same = at_same (line_at program l.at.function l.at.place)

-- the same state with other callers, and another budget of the main file's functions
abbrev pub machine_other : ℕ → List Activation → Budget → Machine → Machine
machine_other t below protected m =
    record { top = into_other t m.top; below = below; budgets = record { protected = protected; binary = m.budgets.binary } }

abbrev pub state_other : ℕ → List Activation → Budget → State → State
state_other t below protected s = record s { machine = machine_other t below protected s.machine }

abbrev pub step_other : ℕ → List Activation → Budget → Step → Step
step_other t below protected (On s events) = On (state_other t below protected s) events
step_other t below protected (Ends end events) = Ends end events
step_other t below protected Stuck = Stuck

-- the activation that runs changes alone
pub record ChangesTop (before after : Machine) : Type 0 where
  pub function : before.top.function ≡ after.top.function
  pub into : before.top.into ≡ after.top.into
  pub below : before.below ≡ after.below
  pub protected : before.budgets.protected ≡ after.budgets.protected

abbrev pub Changes : Machine → Step → Type 0
Changes m (On s events) = ChangesTop m s.machine
Changes m (Ends end events) = Unit {0}
Changes m Stuck = Unit {0}

module _ (program : MidProgram) (t : ℕ) (below : List Activation) (protected : Budget) (s : State) where
  abbrev apart : State
  apart = state_other t below protected s

  abbrev AreSame : Step → Step → Type 0
  AreSame step step2 = (step2 ≡ step_other t below protected step) × Changes s.machine step

  read_same : (target line : ℕ) (events : List Event) (r : Result ℕ Trap) → AreSame (after_read target line events s r) (after_read target line events apart r)
  read_same target line events (Ok value) = (refl, record { function = refl; into = refl; below = refl; protected = refl })
  read_same target line events (Err trap) = (refl, tt)

  write_same : (line : ℕ) (events : List Event) (r : Result Memory Trap) → AreSame (after_write line events s r) (after_write line events apart r)
  write_same line events (Ok memory) = (refl, record { function = refl; into = refl; below = refl; protected = refl })
  write_same line events (Err trap) = (refl, tt)

  begin_same : (target line number : ℕ) (r : Result Memory Trap) → AreSame (after_begin target line number s r) (after_begin target line number apart r)
  begin_same target line number (Ok memory) = (refl, record { function = refl; into = refl; below = refl; protected = refl })
  begin_same target line number (Err trap) = (refl, tt)

  -- one case for each access
  pub reach_same : (access : Access) (line : ℕ) → AreSame (reach program access line s) (reach program access line apart)
  reach_same (Loads target pointer) line = read_same target line [] (read_of s.memory pointer)
  reach_same (Stores pointer value) line = write_same line [] (write_of s.memory pointer value)
  reach_same (VolatileLoads target pointer) line = read_same target line _ (read_of s.memory pointer)
  reach_same (VolatileStores pointer value) line = write_same line _ (write_of s.memory pointer value)
  reach_same (Opens target cells) line = begin_same target line (next_number (own_part program s) s.memory) (begin_of (own_part program s) s.memory cells)
  reach_same (Closes number) line = (refl, record { function = refl; into = refl; below = refl; protected = refl })
  reach_same (Puts value) line = (refl, record { function = refl; into = refl; below = refl; protected = refl })
  reach_same (Gets target) line = (refl, record { function = refl; into = refl; below = refl; protected = refl })
  reach_same (Exits value) line = (refl, tt)
