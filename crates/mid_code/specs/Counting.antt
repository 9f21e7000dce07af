-- What each instruction counts against the budgets of turns and of live activations, as far as a run has come.
use Rattle.std.specs.Prelude.{◌≡◌, ℕ, zero, suc, ◌+◌, ◌<◌, ◌≤◌, ◌↔◌, ◌⊎◌, if◌then◌else◌, [], Option, Some, None}
use Rattle.srmt_base.specs.declared.limits.Limits.{Limits}
use Rattle.srmt_base.specs.declared.trap.SourceEnd.TheVariants.{Trap as TrapEnd}
use Rattle.srmt_base.specs.declared.trap.Trap.TheVariants.{Turns, Depth, Store}
use Rattle.srmt_base.specs.Objects.{live_cells}
use Rattle.srmt_base.specs.declared.part.Part.{Part}
use Rattle.srmt_base.specs.declared.part.Part.TheVariants.{Protected}
use Rattle.srmt_base.specs.Memory.{last_number, next_number, objects_of}
use Rattle.mid_code.specs.declared.program.MidFunction.{MidFunction}
use Rattle.mid_code.specs.declared.program.MidLine.{MidLine}
use Rattle.mid_code.specs.declared.program.MidProgram.{MidProgram}
use Rattle.mid_code.specs.declared.mid.Mid.{Mid}
use Rattle.mid_code.specs.declared.mid.Mid.TheVariants.{Const, Move, Arith, Conv, PtrAdd, PtrDiff, PtrCmp, GlobAddr, FunAddr, Load, Store, VLoad, VStore, Open, Close, Jump, JumpZ, JumpN, Turn, Call, CallPtr, Return, Put, Get, Exit}
use Rattle.mid_code.specs.Program.{function_at, line_at}
use Rattle.mid_code.specs.Machine.{Activation, Machine, register, activations, one_if, live_of, part_of_function, is_callee}
use Rattle.mid_code.specs.Meaning.{State, Ends, if_on, own_part, step}

pub data Counting : Type 0 where
  Uncounted : Counting
  -- a turn of a part
  OneTurn : (part : Part) (line : ℕ) → Counting
  -- a live activation of a part, and a turn of it; the line is that of the function's name
  OneActivation : (part : Part) (line : ℕ) → Counting

-- the function that is entered, if it is there
abbrev pub entry_of : MidProgram → ℕ → Option MidFunction → Counting
entry_of program number None = Uncounted
entry_of program number (Some code) = OneActivation (part_of_function program number) code.line

abbrev pub counting_of : MidProgram → Mid → ℕ → Activation → Counting
counting_of program (Const target value) line a = Uncounted
counting_of program (Move target source) line a = Uncounted
counting_of program (Arith op ty target left right) line a = Uncounted
counting_of program (Conv from to target source) line a = Uncounted
counting_of program (PtrAdd target pointer index ty negated scale) line a = Uncounted
counting_of program (PtrDiff target left right scale) line a = Uncounted
counting_of program (PtrCmp op target left right) line a = Uncounted
counting_of program (GlobAddr target object) line a = Uncounted
counting_of program (FunAddr target function) line a = Uncounted
counting_of program (Load target pointer) line a = Uncounted
counting_of program (Store pointer source) line a = Uncounted
counting_of program (VLoad target pointer) line a = Uncounted
counting_of program (VStore pointer source) line a = Uncounted
counting_of program (Open target cells) line a = Uncounted
counting_of program (Close place) line a = Uncounted
counting_of program (Jump place) line a = Uncounted
counting_of program (JumpZ source place) line a = Uncounted
counting_of program (JumpN source place) line a = Uncounted
counting_of program Turn line a = OneTurn (part_of_function program a.function) line
counting_of program (Call target function args) line a = entry_of program function (function_at program function)
counting_of program (CallPtr target callee ty args) line a =
    if is_callee program ty (register a callee) then entry_of program (register a callee) (function_at program (register a callee)) else Uncounted
counting_of program (Return source) line a = Uncounted
counting_of program (Put source) line a = Uncounted
counting_of program (Get target) line a = Uncounted
counting_of program (Exit source) line a = Uncounted

abbrev pub counting_at : MidProgram → Option MidLine → Activation → Counting
counting_at program None a = Uncounted
counting_at program (Some l) a = counting_of program l.mid l.line a

-- what the next instruction counts
abbrev pub next_counting : MidProgram → Machine → Counting
next_counting program m = counting_at program (line_at program m.top.function m.top.place) m.top

-- how many turns of a part that is
abbrev pub turns_of : Part → Counting → ℕ
turns_of part Uncounted = 0
turns_of part (OneTurn own line) = one_if part own
turns_of part (OneActivation own line) = one_if part own

-- how many turns of a part so many steps count
abbrev pub turns_in : MidProgram → Part → ℕ → State → ℕ
turns_in program part zero s = 0
turns_in program part (suc more) s = turns_of part (next_counting program s.machine) + if_on (step program s) 0 (turns_in program part more)

-- and with the turn of `main`
abbrev pub turns_so_far : MidProgram → Part → ℕ → State → ℕ
turns_so_far program part steps s = one_if part Protected + turns_in program part steps s

-- a budget trap comes exactly where one more unit would pass the limit: a turn or a live activation, of which the
-- activation is tested first, or the cells of an object, or its number
pub record CountsExactly (program : MidProgram) (limits : Limits) (turns : Part → ℕ) (s : State) : Type 0 where
  pub turns_within : (part : Part) → turns part ≤ limits.turns
  pub depth_within : (part : Part) → live_of program part (activations s.machine) ≤ limits.depth
  pub depth_trap : (line : ℕ) → (step program s ≡ Ends (TrapEnd Depth line) []) ↔
      ((part : Part) × (next_counting program s.machine ≡ OneActivation part line) × (live_of program part (activations s.machine) ≡ limits.depth))
  pub turns_trap : (line : ℕ) → (step program s ≡ Ends (TrapEnd Turns line) []) ↔
      ((part : Part) × (turns part ≡ limits.turns)
      × ((next_counting program s.machine ≡ OneTurn part line)
      ⊎ ((next_counting program s.machine ≡ OneActivation part line) × (live_of program part (activations s.machine) < limits.depth))))
  pub store_trap : (line : ℕ) → (step program s ≡ Ends (TrapEnd Store line) []) ↔
      ((target cells : ℕ) × (line_at program s.machine.top.function s.machine.top.place ≡ Some (record { line = line; mid = Open target cells }))
      × ((last_number (own_part program s) < next_number (own_part program s) s.memory)
      ⊎ (limits.cells < live_cells (objects_of (own_part program s) s.memory) + cells)))
