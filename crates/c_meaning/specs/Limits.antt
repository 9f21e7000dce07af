-- The limits that a run of a program can have.
use Rattle.std.specs.Prelude.{◌^◌, ◌≤◌}
use Rattle.srmt_base.specs.declared.limits.Limits.{Limits}
use Rattle.srmt_base.specs.declared.part.Part.TheVariants.{Protected, Binary}
use Rattle.srmt_base.specs.Statics.{static_cells}
use Rattle.c_typed.specs.Statements.{Program}
use Rattle.source_meaning.specs.Start.{objects_at_start}

pub record FitLimits (program : Program) (limits : Limits) : Type 0 where
  pub turns : limits.turns ≤ 10 ^ 12
  pub depth : limits.depth ≤ 1000
  pub cells : limits.cells ≤ 1048576
  -- the objects that live from the start have room
  pub main_cells : static_cells (objects_at_start program Protected) ≤ limits.cells
  pub binary_cells : static_cells (objects_at_start program Binary) ≤ limits.cells
