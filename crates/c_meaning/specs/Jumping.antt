-- Jumps that leave pending work (C11 6.8.6).
use Rattle.std.specs.Prelude.{◌≡◌, ℕ, ◌<◌, List, ◌∷◌}
use Rattle.srmt_base.specs.declared.event.Event.{Event}
use Rattle.mid_code.specs.Fits.{IsValue}
use Rattle.c_typed.specs.StatementViews.{program_view}
use Rattle.source_meaning.specs.Statements.{Completion, normal}
use Rattle.c_meaning.specs.declared.jumps.Jump.{Jump}
use Rattle.c_meaning.specs.declared.jumps.Jump.TheVariants as jump
use Rattle.c_meaning.specs.declared.jumps.Met.{Met}
use Rattle.c_meaning.specs.declared.jumps.Met.TheVariants as met
use Rattle.c_meaning.specs.declared.run.Run.{Run}
use Rattle.c_meaning.specs.declared.setting.At.{At}
use Rattle.c_meaning.specs.Pending.{Task, goes}
use Rattle.c_meaning.specs.Stack.{pending}
use Rattle.c_meaning.specs.TaskViews.{current_view, tasks_view}
use Rattle.c_meaning.specs.Runs.{types_of, world_of, going, turns_of, IsSound, work_with, work_left}

-- what is returned is a value
abbrev pub IsSmall : Jump → Type 0
IsSmall jump.Continue = Unit {0}
IsSmall jump.Break = Unit {0}
IsSmall (jump.Return v) = IsValue v

-- how work is left behind a task: as before it, or at its end
abbrev pub left_behind : Met → Completion → Completion
left_behind met.Passes j = j
left_behind met.Stops j = normal

-- a task is reached by a jump, and is no longer pending
pub record Meets (at : At) (j : Completion) (old : Run) (t : Task) (new : Run) (m : Met) : Type 0 where
  pub rest : (bound : ℕ) (es : List Event) →
      goes (program_view at.program.now) bound (t ∷ tasks_view (types_of at.program.now) (pending old.tasks))
      (current_view (types_of at.program.now) old.current)
      old.values j (world_of old.world es)
      ≡ going at.program.now bound new new.values (left_behind m j) (world_of new.world es)
  pub sound : IsSound at.program.now new
  pub turns : turns_of new.world.budgets ≡ turns_of old.world.budgets
  pub less : work_left at.program.now new < work_with at.program.now t old
  -- where the jump goes on, the function still runs
  pub here : m ≡ met.Passes → new.current ≡ old.current
