-- How a run begins: its memory, its budgets and its first activation.
use Rattle.std.specs.Prelude.{◌^◌, ◌≤◌, [], Option, Some, None}
use Rattle.srmt_base.specs.declared.limits.Limits.{Limits}
use Rattle.srmt_base.specs.declared.part.Part.TheVariants.{Protected, Binary}
use Rattle.srmt_base.specs.Budgets.{full_budget, spent}
use Rattle.srmt_base.specs.Memory.{Memory}
use Rattle.srmt_base.specs.Statics.{static_cells, started_objects}
use Rattle.mid_code.specs.declared.program.MidProgram.{MidProgram}
use Rattle.mid_code.specs.declared.program.MidFunction.{MidFunction}
use Rattle.mid_code.specs.Program.{function_at}
use Rattle.mid_code.specs.Machine.{Activation, Machine, activation_of}

-- the limits that a run of a program can have
pub record FitLimits (program : MidProgram) (limits : Limits) : Type 0 where
  pub some_turns : 1 ≤ limits.turns
  pub turns : limits.turns ≤ 10 ^ 12
  pub some_depth : 1 ≤ limits.depth
  pub depth : limits.depth ≤ 1000
  pub cells : limits.cells ≤ 1048576
  -- the objects that live from the start have room
  pub main_cells : static_cells program.main_statics ≤ limits.cells
  pub binary_cells : static_cells program.binary_statics ≤ limits.cells

abbrev pub started_memory : MidProgram → Limits → Memory
started_memory program limits =
    record {
      protected = started_objects Protected program.main_statics limits.cells;
      binary = started_objects Binary program.binary_statics limits.cells;
    }

-- `main` as it begins; it has no parameter, and its result goes nowhere
abbrev pub main_activation : MidProgram → Option MidFunction → Activation
main_activation program None = record { function = program.main; place = 0; registers = []; opened = []; into = 0 }
main_activation program (Some code) = activation_of program.main code [] 0

-- the machine at the start: `main` was entered, for which fitting limits have a turn and an activation
abbrev pub started_machine : MidProgram → Limits → Machine
started_machine program limits =
    record {
      top = main_activation program (function_at program program.main);
      below = [];
      budgets = record { protected = spent (full_budget limits); binary = full_budget limits };
    }
