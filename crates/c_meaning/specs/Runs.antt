-- What the evaluator's state stands for, and what its steps owe.
use Rattle.std.specs.Prelude.{◌≡◌, ℕ, suc, ◌+◌, ◌-◌, ◌%◌, ◌^◌, ◌<◌, ◌≤◌, ⊤, List, [], ◌∷◌, ◌++◌, Option, Some, None, Result, Ok, Err}
use Rattle.srmt_base.specs.declared.event.Event.{Event}
use Rattle.srmt_base.specs.declared.event.Event.TheVariants.{Exit as ExitEvent}
use Rattle.srmt_base.specs.declared.budgets.Budgets.{Budgets}
use Rattle.srmt_base.specs.declared.trap.SourceEnd.TheVariants.{Exit as ExitEnd, Trap as TrapEnd}
use Rattle.c_types.specs.declared.type_ref.TypeRef.{TypeRef}
use Rattle.c_types.specs.Types.{CType}
use Rattle.c_types.specs.Table.{type_at}
use Rattle.c_typed.specs.declared.program.TypedProgram.{TypedProgram}
use Rattle.c_typed.specs.StatementViews.{program_view}
use Rattle.source_meaning.specs.World.{World, Outcome, Gives, Ends, Doing, ◌>>=◌}
use Rattle.source_meaning.specs.Places.{Setting, Location, register, cell}
use Rattle.source_meaning.specs.Statements.{Completion, normal, continues, breaks, returns}
use Rattle.c_meaning.specs.declared.access.Location.{Location as CodeLocation}
use Rattle.c_meaning.specs.declared.access.Location.TheVariants as location
use Rattle.c_meaning.specs.declared.jumps.Jump.{Jump}
use Rattle.c_meaning.specs.declared.jumps.Jump.TheVariants as jump
use Rattle.c_meaning.specs.declared.run.Did.{Did}
use Rattle.c_meaning.specs.declared.run.Did.TheVariants as did
use Rattle.c_meaning.specs.declared.run.Run.{Run}
use Rattle.c_meaning.specs.declared.setting.At.{At}
use Rattle.c_meaning.specs.declared.store.Stored.{Stored}
use Rattle.c_meaning.specs.declared.store.Trapped.{Trapped}
use Rattle.c_meaning.specs.Pending.{Task, setting_at, goes, top_of, below}
use Rattle.c_meaning.specs.Stack.{pending}
use Rattle.c_meaning.specs.TaskViews.{current_view, tasks_view}
use Rattle.c_meaning.specs.Sound.{AllCanRun, IsReady, leaves_of}
use Rattle.c_meaning.specs.Work.{work_of}

-- ---- what is fixed

abbrev pub types_of : TypedProgram → TypeRef → CType
types_of p = type_at p.types

abbrev pub setting_of : ℕ → At → Setting
setting_of bound at = setting_at (program_view at.program.now) bound (current_view (types_of at.program.now) at.current)

-- ---- what changes

-- the world, with the events so far
abbrev pub world_of : Stored → List Event → World
world_of w es = record { memory = w.memory; budgets = w.budgets; input = w.input; events = es; locals = w.locals }

abbrev pub with_event : List Event → Option Event → List Event
with_event es None = es
with_event es (Some event) = es ++ event ∷ []

abbrev pub location_view : CodeLocation → Location
location_view (location.Register number) = register number
location_view (location.Cell is_volatile line pointer) = cell is_volatile line pointer

-- ---- what is done to the world

-- a result is given, with an event or without one, or the run ends by a trap
abbrev pub CameTo : {A : Type 0} → Outcome A → Stored → List Event → Option Event → Result A Trapped → Type 0
CameTo o new es event (Ok a) = o ≡ Gives a (world_of new (with_event es event))
CameTo o new es event (Err t) = o ≡ Ends (TrapEnd t.trap t.line) es

-- without an event
abbrev pub Does : {A : Type 0} → Doing A → Stored → Stored → Result A Trapped → Type 0
Does m old new r = (es : List Event) → CameTo (m (world_of old es)) new es None r

-- a value, with the event of a volatile access
abbrev pub Fetches : Doing ℕ → Stored → Result (ℕ × Option Event) Trapped → Type 0
Fetches m w (Ok found) = (es : List Event) → m (world_of w es) ≡ Gives found.0 (world_of w (with_event es found.1))
Fetches m w (Err t) = (es : List Event) → m (world_of w es) ≡ Ends (TrapEnd t.trap t.line) es

-- nothing is given; an event, or none
abbrev pub Makes : Doing (Unit {0}) → Stored → Stored → Result (Option Event) Trapped → Type 0
Makes m old new (Ok event) = (es : List Event) → m (world_of old es) ≡ Gives tt (world_of new (with_event es event))
Makes m old new (Err t) = (es : List Event) → m (world_of old es) ≡ Ends (TrapEnd t.trap t.line) es

-- nothing is given, and there is no event
abbrev pub Changes : Doing (Unit {0}) → Stored → Stored → Result ⊤ Trapped → Type 0
Changes m old new (Ok done) = (es : List Event) → m (world_of old es) ≡ Gives tt (world_of new es)
Changes m old new (Err t) = (es : List Event) → m (world_of old es) ≡ Ends (TrapEnd t.trap t.line) es

-- nothing is given, and it never ends the run
abbrev pub Leaves : Doing (Unit {0}) → Stored → Stored → Type 0
Leaves m old new = (es : List Event) → m (world_of old es) ≡ Gives tt (world_of new es)

-- what is left of turns and activations
abbrev pub turns_of : Budgets → ℕ
turns_of b = b.protected.turns + b.binary.turns

abbrev pub depths_of : Budgets → ℕ
depths_of b = b.protected.depth + b.binary.depth

-- ---- what is done to a run

module _ (p : TypedProgram) (bound : ℕ) where
  -- the pending work with other values on the stack, and how the work before it was left
  abbrev pub going : Run → List ℕ → Completion → Doing ⊥
  going run vs j = goes (program_view p) bound (tasks_view (types_of p) (pending run.tasks)) (current_view (types_of p) run.current) vs j

  -- the same with a task before it
  abbrev pub going_with : Task → Run → Doing ⊥
  going_with t run =
      goes (program_view p) bound (t ∷ tasks_view (types_of p) (pending run.tasks)) (current_view (types_of p) run.current) run.values normal

  -- the rest of a run, with the events so far
  abbrev pub rest_of : Run → List Event → Outcome ⊥
  rest_of run es = going run run.values normal (world_of run.world es)

  -- what was still to be done is what is still to be done now, or the run has ended
  abbrev pub LeavesRest : (List Event → Outcome ⊥) → Run → Did → Type 0
  LeavesRest before run did.Went = (es : List Event) → before es ≡ rest_of run es
  LeavesRest before run did.Turned = (es : List Event) → before es ≡ rest_of run es
  LeavesRest before run (did.Told event) = (es : List Event) → before es ≡ rest_of run (es ++ event ∷ [])
  LeavesRest before run (did.Trapped t) = (es : List Event) → before es ≡ Ends (TrapEnd t.trap t.line) es
  LeavesRest before run (did.Exited v) = (es : List Event) → before es ≡ Ends (ExitEnd (v % 256)) (es ++ ExitEvent (v % 256) ∷ [])

-- a step from work m to a run, whatever the bound, as long as it is at least the turns left
abbrev pub Steps : TypedProgram → (ℕ → Doing ⊥) → Run → Run → Did → Type 0
Steps p m old new d = (bound : ℕ) → turns_of old.world.budgets ≤ bound → LeavesRest p bound (λ es. m bound (world_of old.world es)) new d

-- the pending work, the function that runs and what is left of the budgets are as they were
pub record Frames (old new : Run) : Type 0 where
  pub tasks : new.tasks ≡ old.tasks
  pub current : new.current ≡ old.current
  pub budgets : new.world.budgets ≡ old.world.budgets

-- what is made of the value on the stack, or of the two last values, takes their place
abbrev pub of_one : TypedProgram → Run → (ℕ → Doing ℕ) → ℕ → Doing ⊥
of_one p run f bound = f (top_of run.values) >>= (λ v. going p bound run (v ∷ below run.values) normal)

abbrev pub of_two : TypedProgram → Run → (ℕ → ℕ → Doing ℕ) → ℕ → Doing ⊥
of_two p run f bound =
    f (top_of (below run.values)) (top_of run.values) >>= (λ v. going p bound run (v ∷ below (below run.values)) normal)

-- a result goes onto the stack
abbrev pub with_result : TypedProgram → Run → Doing ℕ → ℕ → Doing ⊥
with_result p run m bound = m >>= (λ v. going p bound run (v ∷ run.values) normal)

-- all pending work can run, the function that runs too, and activations that are left fit a number of 32 bits
pub record IsSound (p : TypedProgram) (run : Run) : Type 0 where
  pub tasks : AllCanRun (tasks_view (types_of p) (pending run.tasks))
  pub current : IsReady (current_view (types_of p) run.current)
  pub depths : depths_of run.world.budgets + leaves_of (tasks_view (types_of p) (pending run.tasks)) < 2 ^ 32 - 1

-- the work of weight n has become less, or a turn was taken, or the run has ended
abbrev pub Falls : TypedProgram → ℕ → Run → Run → Did → Type 0
Falls p n old new did.Went = (turns_of new.world.budgets ≡ turns_of old.world.budgets) × (work_of (tasks_view (types_of p) (pending new.tasks)) < n)
Falls p n old new (did.Told event) = (turns_of new.world.budgets ≡ turns_of old.world.budgets) × (work_of (tasks_view (types_of p) (pending new.tasks)) < n)
Falls p n old new did.Turned = suc (turns_of new.world.budgets) ≡ turns_of old.world.budgets
Falls p n old new (did.Trapped t) = ⊤
Falls p n old new (did.Exited v) = ⊤

-- the weight of the pending work, with a task before it
abbrev pub work_with : TypedProgram → Task → Run → ℕ
work_with p t run = work_of (t ∷ tasks_view (types_of p) (pending run.tasks))

abbrev pub work_left : TypedProgram → Run → ℕ
work_left p run = work_of (tasks_view (types_of p) (pending run.tasks))

abbrev pub completion_of : Jump → Completion
completion_of jump.Continue = continues
completion_of jump.Break = breaks
completion_of (jump.Return v) = returns v
