-- A run at its start.
use Rattle.std.specs.Prelude.{◌≡◌, ℕ, List, []}
use Rattle.srmt_base.specs.declared.limits.Limits.{Limits}
use Rattle.c_typed.specs.declared.program.TypedProgram.{TypedProgram}
use Rattle.c_typed.specs.StatementViews.{program_view}
use Rattle.source_meaning.specs.Start.{started}
use Rattle.c_meaning.specs.declared.run.Run.{Run}
use Rattle.c_meaning.specs.Stack.{pending}
use Rattle.c_meaning.specs.Runs.{world_of}

pub record IsStarted (p : TypedProgram) (input : List ℕ) (limits : Limits) (run : Run) : Type 0 where
  pub world : world_of run.world [] ≡ started (program_view p) input limits
  pub tasks : pending run.tasks ≡ []
  pub values : run.values ≡ []
