-- What the steps owe that change the world before they put tasks: a statement that begins, and a loop at its top.
use Rattle.std.proofs.Common.{◌≡◌, ℕ, List, ◌++◌, sym, ap, ◌∙◌, subst}
use Rattle.srmt_base.specs.declared.event.Event.{Event}
use Rattle.srmt_base.specs.declared.trap.SourceEnd.TheVariants.{Trap as TrapEnd}
use Rattle.srmt_base.specs.Budgets.{turn_of}
use Rattle.c_typed.specs.declared.program.TypedProgram.{TypedProgram}
use Rattle.c_typed.specs.Statements.{Stmt}
use Rattle.source_meaning.specs.Places.{all_begin}
use Rattle.source_meaning.specs.Statements.{normal}
use Rattle.source_meaning.specs.World.{Gives, Ends, spends}
use Rattle.c_meaning.specs.declared.run.Did.TheVariants as did
use Rattle.c_meaning.specs.declared.run.Run.{Run}
use Rattle.c_meaning.specs.declared.setting.At.{At}
use Rattle.c_meaning.specs.declared.stack.Tasks.{Tasks}
use Rattle.c_meaning.specs.declared.store.Trapped.{Trapped}
use Rattle.c_meaning.specs.Owes.{CanTake, Takes, IsRunning, TakesTurn}
use Rattle.c_meaning.specs.Pending.{Task, execute, at_top}
use Rattle.c_meaning.specs.Plans.{begun_first, jump_of, statement_plan, top_plan}
use Rattle.c_meaning.specs.Runs.{types_of, setting_of, world_of, depths_of}
use Rattle.c_meaning.specs.Stack.{pending}
use Rattle.c_meaning.specs.TaskViews.{tasks_view}
use Rattle.c_meaning.proofs.StatementPlans.{first_turn}
use Rattle.c_meaning.proofs.Taking.{work}
use Rattle.c_meaning.proofs.TakingSteps.{IsPut, begun_taken, begun_trapped, turned_taken, turn_trapped}

module _ (at : At) (old mid : Run) (running : IsRunning old mid) where
  abbrev p : TypedProgram
  p = at.program.now

  with_tasks : (tasks : Tasks) → record old { tasks = tasks; world = mid.world } ≡ record mid { tasks = tasks }
  with_tasks tasks = λ i. record { current = sym running.current i; world = mid.world; tasks = tasks; values = sym running.values i }

  as_it_runs : record old { world = mid.world } ≡ mid
  as_it_runs = λ i. record { current = sym running.current i; world = mid.world; tasks = sym running.tasks i; values = sym running.values i }

  before : (tasks : Tasks) (plan : List Task) → tasks_view (types_of p) (pending tasks) ≡ plan ++ work p mid → IsPut at old tasks plan
  before tasks plan puts = puts ∙ ap (λ ts. plan ++ tasks_view (types_of p) (pending ts)) running.tasks

  pub begun : (a : Stmt) (tasks : Tasks) → CanTake at old (execute a) → jump_of a ≡ normal
      → ((bound : ℕ) (es : List Event) → all_begin (setting_of bound at) (begun_first a) (world_of old.world es) ≡ Gives tt (world_of mid.world es))
      → mid.world.budgets ≡ old.world.budgets → tasks_view (types_of p) (pending tasks) ≡ statement_plan a ++ work p mid
      → Takes at old (execute a) (record mid { tasks = tasks }) did.Went
  begun a tasks can goes_on changes budgets puts =
      subst (λ new. Takes at old (execute a) new did.Went) (with_tasks tasks)
      (begun_taken at old a mid.world can goes_on tasks changes budgets (before tasks (statement_plan a) puts))

  pub begin_ended : (a : Stmt) (end : Trapped) → CanTake at old (execute a) → jump_of a ≡ normal
      → ((bound : ℕ) (es : List Event) → all_begin (setting_of bound at) (begun_first a) (world_of old.world es) ≡ Ends (TrapEnd end.trap end.line) es)
      → mid.world.budgets ≡ old.world.budgets → Takes at old (execute a) mid (did.Trapped end)
  begin_ended a end can goes_on changes budgets =
      subst (λ new. Takes at old (execute a) new (did.Trapped end)) as_it_runs (begun_trapped at old a mid.world can goes_on end changes budgets)

  pub turned : (a : Stmt) (line : ℕ) (tasks : Tasks) → CanTake at old (at_top a)
      → first_turn at.current.part a ≡ spends line (turn_of at.current.part)
      → ((es : List Event) → spends line (turn_of at.current.part) (world_of old.world es) ≡ Gives tt (world_of mid.world es))
      → TakesTurn old.world.budgets mid.world.budgets → tasks_view (types_of p) (pending tasks) ≡ top_plan a ++ work p mid
      → Takes at old (at_top a) (record mid { tasks = tasks }) did.Turned
  turned a line tasks can is_turn changes turn puts =
      subst (λ new. Takes at old (at_top a) new did.Turned) (with_tasks tasks)
      (turned_taken at old a mid.world line can is_turn tasks changes turn (before tasks (top_plan a) puts))

  pub turn_ended : (a : Stmt) (line : ℕ) (end : Trapped) → CanTake at old (at_top a)
      → first_turn at.current.part a ≡ spends line (turn_of at.current.part)
      → ((es : List Event) → spends line (turn_of at.current.part) (world_of old.world es) ≡ Ends (TrapEnd end.trap end.line) es)
      → depths_of mid.world.budgets ≡ depths_of old.world.budgets → Takes at old (at_top a) mid (did.Trapped end)
  turn_ended a line end can is_turn changes deep =
      subst (λ new. Takes at old (at_top a) new (did.Trapped end)) as_it_runs (turn_trapped at old a mid.world line can is_turn end changes deep)
