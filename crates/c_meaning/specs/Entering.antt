-- Functions that are entered and left.
use Rattle.std.specs.Prelude.{◌≡◌, ℕ, suc, ⊤, List, ◌∷◌, length, replicate, Option, Some, None}
use Rattle.srmt_base.specs.declared.budgets.Budgets.{Budgets}
use Rattle.srmt_base.specs.declared.event.Event.{Event}
use Rattle.srmt_base.specs.Budgets.{leave_of}
use Rattle.c_typed.specs.declared.program.TypedProgram.{TypedProgram}
use Rattle.c_typed.specs.StatementViews.{program_view, function_view}
use Rattle.source_meaning.specs.World.{Doing, Gives, ◌>>=◌, ◌>>◌, becomes, either, set_local}
use Rattle.source_meaning.specs.Places.{Setting, row_of, function_at, part_of_function, all_begin, all_end}
use Rattle.source_meaning.specs.Statements.{normal, locals_of}
use Rattle.source_meaning.specs.Calls.{object_takes, parameters_begin, numbers_below, calls}
use Rattle.c_meaning.specs.declared.run.Did.{Did}
use Rattle.c_meaning.specs.declared.run.Did.TheVariants as did
use Rattle.c_meaning.specs.declared.run.Run.{Run}
use Rattle.c_meaning.specs.declared.setting.At.{At}
use Rattle.c_meaning.specs.declared.task.Current.{Current as CodeCurrent}
use Rattle.c_meaning.specs.Pending.{Task, execute_items, end_block, leave, goes}
use Rattle.c_meaning.specs.Stack.{pending}
use Rattle.c_meaning.specs.TaskViews.{current_view, tasks_view}
use Rattle.c_meaning.specs.Runs.{types_of, setting_of, world_of, going, turns_of, depths_of}

-- the function of a number, with its part, or none
abbrev pub IsFunctionAt : TypedProgram → ℕ → Option CodeCurrent → Type 0
IsFunctionAt p number None = function_at (program_view p) number ≡ None
IsFunctionAt p number (Some c) =
    (function_at (program_view p) number ≡ Some (function_view (types_of p) c.function.now)) × (c.part ≡ part_of_function (program_view p) number)

-- a turn and an activation are taken
pub record TakesOne (old new : Budgets) : Type 0 where
  pub turns : suc (turns_of new) ≡ turns_of old
  pub depths : suc (depths_of new) ≡ depths_of old

-- a parameter takes an argument
abbrev pub takes : Setting → ℕ → ℕ → Doing (Unit {0})
takes s n v = either (row_of s n).is_placed (object_takes s n v) (set_local n v)

-- a call of a function by its number
abbrev pub called : TypedProgram → (line number : ℕ) → List ℕ → Run → ℕ → Doing ⊥
called p line number arguments run bound =
    calls (program_view p) bound line number arguments >>= (λ v. going p bound run (v ∷ run.values) normal)

-- the tasks of a body, before those that are pending
abbrev pub body_tasks : At → Run → List Task
body_tasks at run =
    let types = types_of at.program.now in
    let items = (function_view types at.current.function.now).body in
    execute_items items ∷ end_block items ∷ leave (current_view types run.current) run.world.locals ∷ tasks_view types (pending run.tasks)

-- the body of a function begins
abbrev pub bodied : At → List ℕ → Run → ℕ → Doing ⊥
bodied at arguments run bound =
    let f = function_view (types_of at.program.now) at.current.function.now in
    becomes (λ w. record w { locals = replicate (length f.locals) 0 })
    >> (parameters_begin (setting_of bound at) 0 arguments
    >> (all_begin (setting_of bound at) (locals_of f.body)
    >> goes (program_view at.program.now) bound (body_tasks at run) (current_view (types_of at.program.now) at.current) run.values normal))

-- the tasks of a body stand before those that were pending
pub record HasBody (at : At) (old new : Run) : Type 0 where
  pub tasks : tasks_view (types_of at.program.now) (pending new.tasks) ≡ body_tasks at old
  pub current : new.current ≡ at.current
  pub values : new.values ≡ old.values

-- another function runs, with locals of its own
pub record Exchanged (at : At) (old new : Run) : Type 0 where
  pub body : HasBody at old new
  pub world : new.world ≡ record (old.world) { locals = replicate (length at.current.function.now.locals) 0 }

-- a function was entered, or the run has ended
abbrev pub IsEntered : Did → Type 0
IsEntered did.Went = ⊥
IsEntered did.Turned = ⊤
IsEntered (did.Told event) = ⊥
IsEntered (did.Trapped t) = ⊤
IsEntered (did.Exited v) = ⊥

-- a function has been left for its caller
abbrev pub Left : At → CodeCurrent → List ℕ → ℕ → Run → Run → Type 0
Left at caller locals value old new =
    (bound : ℕ) (es : List Event) →
    (all_end (setting_of bound at) (numbers_below at.current.function.now.parameters)
    >> (becomes (λ w. record w { locals = locals }) >> becomes (λ w. record w { budgets = leave_of at.current.part w.budgets }))) (world_of old.world es)
    ≡ Gives tt (world_of new.world es)
