-- A task is taken from the pending work, and a jump leaves pending work.
use Rattle.std.proofs.Common.{◌≡◌, ℕ, suc, ◌+◌, ◌<◌, ◌≤◌, List, [], ◌∷◌, map, Result, Ok, Err, refl, sym, ap, ◌∙◌, subst, arith}
use Rattle.std.specs.Prelude.{IfOk, OnOk}
use Rattle.srmt_base.specs.declared.event.Event.{Event}
use Rattle.c_typed.specs.declared.program.TypedProgram.{TypedProgram}
use Rattle.c_typed.specs.StatementViews.{program_view}
use Rattle.source_meaning.specs.Sound.{CanRun}
use Rattle.source_meaning.specs.Statements.{Completion, normal}
use Rattle.source_meaning.specs.World.{exits}
use Rattle.c_meaning.specs.declared.jumps.Met.{Met}
use Rattle.c_meaning.specs.declared.jumps.Met.TheVariants as met
use Rattle.c_meaning.specs.declared.run.Did.{Did}
use Rattle.c_meaning.specs.declared.run.Did.TheVariants as did
use Rattle.c_meaning.specs.declared.run.Run.{Run}
use Rattle.c_meaning.specs.declared.setting.At.{At}
use Rattle.c_meaning.specs.declared.stack.Tasks.{Tasks}
use Rattle.c_meaning.specs.declared.task.Task.{Task as CodeTask}
use Rattle.c_meaning.specs.Jumping.{Meets}
use Rattle.c_meaning.specs.Owes.{CanTake, Takes}
use Rattle.c_meaning.specs.Pending.{Task, goes, top_of}
use Rattle.c_meaning.specs.Runs.{types_of, world_of, going, going_with, turns_of, depths_of, Steps, IsSound, Falls, work_left, work_with}
use Rattle.c_meaning.specs.Sound.{AllCanRun, leaves_of}
use Rattle.c_meaning.specs.Stack.{pending}
use Rattle.c_meaning.specs.TaskViews.{current_view, task_view, tasks_view}
use Rattle.c_meaning.specs.Work.{work_of}
use Rattle.c_meaning.proofs.Taking.{work, steps_same}

module _ (at : At) (old : Run) (sound : IsSound at.program.now old) where
  abbrev p : TypedProgram
  p = at.program.now

  abbrev rest : Tasks → Run
  rest tasks = record old { tasks = tasks }

  -- the first task is taken
  module _ (task : CodeTask) (tasks : Tasks) (popped : pending old.tasks ≡ task ∷ pending tasks) where
    abbrev t : Task
    t = task_view (types_of p) task

    pub taken_is : work p old ≡ t ∷ work p (rest tasks)
    taken_is = ap (map (task_view (types_of p))) popped

    pub can_take : CanRun (program_view p) → at.current ≡ old.current → CanTake at (rest tasks) t
    can_take program here =
        let all = subst AllCanRun taken_is sound.tasks in
        let deep : depths_of old.world.budgets + leaves_of (t ∷ work p (rest tasks)) < 4294967295 =
        subst (λ ts. depths_of old.world.budgets + leaves_of ts < 4294967295) taken_is sound.depths in
        record {
          program = program;
          task = all.0;
          sound = record { tasks = all.1; current = sound.current; depths = omega (arith, deep) };
          here = here;
          depths = deep;
        }

    pub going_is : (bound : ℕ) (j : Completion) (es : List Event)
        → going p bound old old.values j (world_of old.world es)
        ≡ goes (program_view p) bound (t ∷ work p (rest tasks)) (current_view (types_of p) old.current) old.values j (world_of old.world es)
    going_is bound j es = ap (λ ts. goes (program_view p) bound ts (current_view (types_of p) old.current) old.values j (world_of old.world es)) taken_is

    pub weighs_the_same : work_left p old ≡ work_with p t (rest tasks)
    weighs_the_same = ap work_of taken_is

    -- what a step owes, where its task was done
    pub step_taken : (new : Run) (d : Did) → Takes at (rest tasks) t new d
        → Steps p (λ bound. going p bound old old.values normal) old new d × IsSound p new × Falls p (work_left p old) old new d
    step_taken new d done = (
      steps_same p (λ bound. going p bound old old.values normal) (λ bound. going_with p bound t (rest tasks)) old new d (λ bound es. going_is bound normal es) done.steps,
      done.sound,
      subst (λ n. Falls p n old new d) (sym weighs_the_same) done.falls,
    )

-- the same where the program is known by another name
module _ (at : At) (p : TypedProgram) (old : Run) (is : at.program.now ≡ p) (sound : IsSound p old) (task : CodeTask) (tasks : Tasks)
    (popped : pending old.tasks ≡ task ∷ pending tasks) where
  sound_here : IsSound at.program.now old
  sound_here = subst (λ q. IsSound q old) (sym is) sound

  pub may_take : CanRun (program_view p) → at.current ≡ old.current → CanTake at (record old { tasks = tasks }) (task_view (types_of at.program.now) task)
  may_take program here = can_take at old sound_here task tasks popped (subst (λ q. CanRun (program_view q)) (sym is) program) here

  abbrev Done : Run → Did → Type 0
  Done new d = Takes at (record old { tasks = tasks }) (task_view (types_of at.program.now) task) new d

  step_owed : (new : Run) (d : Did) → Done new d
      → Steps p (λ bound. going p bound old old.values normal) old new d × IsSound p new × Falls p (work_left p old) old new d
  step_owed new d done =
      subst (λ q. Steps q (λ bound. going q bound old old.values normal) old new d × IsSound q new × Falls q (work_left q old) old new d) is
      (step_taken at old sound_here task tasks popped new d done)

  pub step_steps : {E : Type 0} (r : Result Did E) (new : Run) → IfOk r (Done new) → IfOk r (Steps p (λ bound. going p bound old old.values normal) old new)
  step_steps (Ok d) new done = (step_owed new d done).0
  step_steps (Err e) new done = done

  pub step_sound : {E : Type 0} (r : Result Did E) (new : Run) → IfOk r (Done new) → OnOk r (IsSound p new)
  step_sound (Ok d) new done = (step_owed new d done).1
  step_sound (Err e) new done = done

  pub step_falls : {E : Type 0} (r : Result Did E) (new : Run) → IfOk r (Done new) → IfOk r (Falls p (work_left p old) old new)
  step_falls (Ok d) new done = (step_owed new d done).2
  step_falls (Err e) new done = done

-- no task is pending: the value on the stack is the status
pub nothing_left : (p : TypedProgram) (old : Run) (tasks : Tasks) (us : List ℕ) (v : ℕ) (j : Completion) → pending old.tasks ≡ [] → v ≡ top_of old.values
    → Steps p (λ bound. going p bound old old.values j) old (record old { tasks = tasks; values = us }) (did.Exited v)
nothing_left p old tasks us v j none top bound low es =
    ap (λ ts. goes (program_view p) bound (map (task_view (types_of p)) ts) (current_view (types_of p) old.current) old.values j (world_of old.world es)) none
    ∙ ap (λ x. exits {A = ⊥} x (world_of old.world es)) (sym top)

pub empty_sound : (p : TypedProgram) (old : Run) (tasks : Tasks) (us : List ℕ) → IsSound p old → pending old.tasks ≡ [] → pending tasks ≡ []
    → IsSound p (record old { tasks = tasks; values = us })
empty_sound p old tasks us sound none empty =
    let same : tasks_view (types_of p) (pending tasks) ≡ work p old = ap (map (task_view (types_of p))) (empty ∙ sym none) in
    record {
      tasks = subst AllCanRun (sym same) sound.tasks;
      current = sound.current;
      depths = subst (λ ts. depths_of old.world.budgets + leaves_of ts < 4294967295) (sym same) sound.depths;
    }

-- a jump that leaves pending work is on its way
pub record IsOnItsWay (at : At) (j : Completion) (first now : Run) : Type 0 where
  pub rest : (bound : ℕ) (es : List Event)
      → going at.program.now bound first first.values j (world_of first.world es) ≡ going at.program.now bound now now.values j (world_of now.world es)
  pub sound : IsSound at.program.now now
  pub here : at.current ≡ now.current
  pub turns : turns_of now.world.budgets ≡ turns_of first.world.budgets
  pub less : work_left at.program.now now ≤ work_left at.program.now first

pub sets_out : (at : At) (j : Completion) (first : Run) → IsSound at.program.now first → at.current ≡ first.current → IsOnItsWay at j first first
sets_out at j first sound here = record { rest = λ bound es. refl; sound = sound; here = here; turns = refl; less = omega arith }

module _ (at : At) (j : Completion) (first old : Run) (way : IsOnItsWay at j first old) (task : CodeTask) (tasks : Tasks)
    (popped : pending old.tasks ≡ task ∷ pending tasks) where
  abbrev q : TypedProgram
  q = at.program.now

  pub weighs_less : (new : Run) (m : Met) → Meets at j (record old { tasks = tasks }) (task_view (types_of q) task) new m → work_left q new < work_left q old
  weighs_less new m done = subst (λ n. work_left q new < n) (sym (weighs_the_same at old way.sound task tasks popped)) done.less

  pub goes_by : (new : Run) → Meets at j (record old { tasks = tasks }) (task_view (types_of q) task) new met.Passes → IsOnItsWay at j first new
  goes_by new done =
      let less : work_left q new < work_left q old = weighs_less new met.Passes done in
      record {
        rest = λ bound es. way.rest bound es ∙ going_is at old way.sound task tasks popped bound j es ∙ done.rest bound es;
        sound = done.sound;
        here = way.here ∙ sym (done.here refl);
        turns = done.turns ∙ way.turns;
        less = omega (arith, less, way.less);
      }

  pub arrives : (new : Run) → Meets at j (record old { tasks = tasks }) (task_view (types_of q) task) new met.Stops
      → Steps q (λ bound. going q bound first first.values j) first new did.Went × IsSound q new × Falls q (suc (work_left q first)) first new did.Went
  arrives new done =
      let less : work_left q new < work_left q old = weighs_less new met.Stops done in
      let weighs : work_left q new < suc (work_left q first) = omega (arith, less, way.less) in (
        λ bound low es. way.rest bound es ∙ going_is at old way.sound task tasks popped bound j es ∙ done.rest bound es,
        done.sound,
        (done.turns ∙ way.turns, weighs),
      )

pub comes_to_the_end : (at : At) (j : Completion) (first old : Run) (way : IsOnItsWay at j first old) (tasks : Tasks) (v : ℕ)
    → pending old.tasks ≡ [] → v ≡ top_of old.values
    → Steps at.program.now (λ bound. going at.program.now bound first first.values j) first (record old { tasks = tasks }) (did.Exited v)
comes_to_the_end at j first old way tasks v none top bound low es =
    way.rest bound es ∙ nothing_left at.program.now old tasks old.values v j none top bound (subst (λ n. n ≤ bound) (sym way.turns) low) es
