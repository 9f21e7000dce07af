-- What a task asks of a run, and what doing it comes to.
use Rattle.std.specs.Prelude.{◌≡◌, ℕ, suc, ◌+◌, ◌-◌, ◌^◌, ◌<◌, ◌∷◌}
use Rattle.srmt_base.specs.declared.budgets.Budgets.{Budgets}
use Rattle.c_typed.specs.StatementViews.{program_view}
use Rattle.c_typed.specs.Statements.{LocalItem}
use Rattle.c_typed.specs.Typed.{Place}
use Rattle.source_meaning.specs.Places.{fetch}
use Rattle.source_meaning.specs.Sound.{CanRun}
use Rattle.source_meaning.specs.Statements.{normal}
use Rattle.source_meaning.specs.World.{Doing, ◌>>=◌}
use Rattle.c_meaning.specs.declared.run.Did.{Did}
use Rattle.c_meaning.specs.declared.run.Run.{Run}
use Rattle.c_meaning.specs.declared.setting.At.{At}
use Rattle.c_meaning.specs.declared.task.StmtWork.{StmtWork}
use Rattle.c_meaning.specs.declared.task.StmtWork.TheVariants as stmt_work
use Rattle.c_meaning.specs.Pending.{Task, located}
use Rattle.c_meaning.specs.Plans.{initial_stack}
use Rattle.c_meaning.specs.Sound.{TaskCanRun, leaves_of}
use Rattle.c_meaning.specs.Stack.{pending}
use Rattle.c_meaning.specs.TaskViews.{tasks_view}
use Rattle.c_meaning.specs.Runs.{types_of, setting_of, going, going_with, Steps, IsSound, Falls, work_with, turns_of, depths_of}

-- the task was taken from those of the run, whose program can run
pub record CanTake (at : At) (run : Run) (t : Task) : Type 0 where
  pub program : CanRun (program_view at.program.now)
  pub task : TaskCanRun t
  pub sound : IsSound at.program.now run
  pub here : at.current ≡ run.current
  pub depths : depths_of run.world.budgets + leaves_of (t ∷ tasks_view (types_of at.program.now) (pending run.tasks)) < 2 ^ 32 - 1

-- the task is done, and what is left can run and weighs less, or the run has ended
pub record Takes (at : At) (old : Run) (t : Task) (new : Run) (d : Did) : Type 0 where
  pub steps : Steps at.program.now (λ bound. going_with at.program.now bound t old) old new d
  pub sound : IsSound at.program.now new
  pub falls : Falls at.program.now (work_with at.program.now t old) old new d

-- all but the pending work is as it was
pub record IsAsBefore (old new : Run) : Type 0 where
  pub current : new.current ≡ old.current
  pub world : new.world ≡ old.world
  pub values : new.values ≡ old.values

-- all but what is stored is as it was
pub record IsRunning (old new : Run) : Type 0 where
  pub tasks : new.tasks ≡ old.tasks
  pub current : new.current ≡ old.current
  pub values : new.values ≡ old.values

-- a turn is taken, and no activation
pub record TakesTurn (old new : Budgets) : Type 0 where
  pub turns : suc (turns_of new) ≡ turns_of old
  pub depths : depths_of new ≡ depths_of old

-- what a place at an address holds goes onto the stack
abbrev pub held : At → Place → (address : ℕ) → Run → ℕ → Doing ⊥
held at p address run bound =
    fetch (located (setting_of bound at) p address) >>= (λ v. going at.program.now bound run (v ∷ run.values) normal)

-- the address of a local stands on the stack where it takes one value first, and all else is as it was
abbrev pub IsAddressed : At → LocalItem → Run → Run → Type 0
IsAddressed at l old new = (bound : ℕ) → new ≡ record old { values = initial_stack (setting_of bound at) l old.world.locals old.values }

-- a statement has begun
abbrev pub IsInside : StmtWork → Type 0
IsInside stmt_work.Execute = ⊥
IsInside stmt_work.Choose = Unit {0}
IsInside stmt_work.Top = ⊥
IsInside stmt_work.Tested = Unit {0}
IsInside stmt_work.AfterBody = Unit {0}
IsInside stmt_work.Again = Unit {0}
