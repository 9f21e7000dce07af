-- Where a run of the protected functions stands, alike for the ideal run and for each of the two threads.
use Rattle.std.specs.Prelude.{◌+◌, List, [], length}
use Rattle.srmt_base.specs.declared.limits.Limits.{Limits}
use Rattle.srmt_base.specs.declared.part.Part.TheVariants.{Protected}
use Rattle.srmt_base.specs.Objects.{Object}
use Rattle.srmt_base.specs.Memory.{Count, first_number}
use Rattle.srmt_base.specs.Statics.{static_cells}
use Rattle.mid_code.specs.declared.program.MidProgram.{MidProgram}
use Rattle.mid_code.specs.Machine.{Activation, Machine, passed, with_top}
use Rattle.mid_code.specs.Start.{started_machine}

-- what a run keeps of objects for itself
pub record Own : Type 0 where
  -- what the beginnings of private and of shared objects are counted against
  pub count : Count
  -- the private objects that live, in order of beginning
  pub live : List Object

pub record Standing : Type 0 where
  pub machine : Machine
  pub own : Own

-- objects of static storage duration are shared, and count from the start
abbrev pub started_own : MidProgram → Limits → Own
started_own program limits = record {
  count = record {
    fresh = first_number Protected + length program.main_statics;
    cells = static_cells program.main_statics;
    budget = limits.cells;
  };
  live = [];
}

-- `main` is entered, with all registers 0
abbrev pub started_standing : MidProgram → Limits → Standing
started_standing program limits = record { machine = started_machine program limits; own = started_own program limits }

-- the newest activation changes alone
abbrev pub standing_at : Activation → Standing → Standing
standing_at a at = record at { machine = with_top a at.machine }

-- it has passed its instruction
abbrev pub passed_on : Standing → Standing
passed_on at = standing_at (passed at.machine.top) at
