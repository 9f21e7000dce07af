-- What doing a task owes follows from what it did to the tasks, to the stack of values and to the world.
use Rattle.std.proofs.Common.{◌≡◌, ℕ, suc, ◌+◌, ◌<◌, ◌≤◌, List, [], ◌++◌, refl, sym, ap, ◌∙◌, subst, arith}
use Rattle.srmt_base.specs.declared.event.Event.{Event}
use Rattle.c_typed.specs.declared.program.TypedProgram.{TypedProgram}
use Rattle.c_typed.specs.StatementViews.{program_view}
use Rattle.srmt_base.specs.declared.trap.SourceEnd.TheVariants.{Trap as TrapEnd}
use Rattle.source_meaning.specs.World.{Outcome, Ends, Doing}
use Rattle.source_meaning.specs.Statements.{normal}
use Rattle.c_meaning.specs.declared.run.Did.{Did}
use Rattle.c_meaning.specs.declared.run.Did.TheVariants as did
use Rattle.c_meaning.specs.declared.run.Run.{Run}
use Rattle.c_meaning.specs.declared.setting.At.{At}
use Rattle.c_meaning.specs.declared.store.Stored.{Stored}
use Rattle.c_meaning.specs.declared.store.Trapped.{Trapped}
use Rattle.c_meaning.specs.Owes.{CanTake, Takes}
use Rattle.c_meaning.specs.Pending.{Task, goes}
use Rattle.c_meaning.specs.Runs.{types_of, world_of, turns_of, depths_of, going_with, rest_of, LeavesRest, Steps, IsSound, Falls, work_with, work_left}
use Rattle.c_meaning.specs.Sound.{AllCanRun, IsReady, leaves_of}
use Rattle.c_meaning.specs.Stack.{pending}
use Rattle.c_meaning.specs.TaskViews.{current_view, tasks_view}
use Rattle.c_meaning.specs.Told.{IsFraming}
use Rattle.c_meaning.specs.Work.{work_of, task_work}
use Rattle.c_meaning.proofs.PlansRun.{all_can_run}
use Rattle.c_meaning.proofs.PlansWeigh.{work_of_both, task_weighs}

module _ (p : TypedProgram) where
  -- the pending work of a run
  abbrev pub work : Run → List Task
  work run = tasks_view (types_of p) (pending run.tasks)

  -- what is still to be done, with these tasks and values, in the function of a run
  abbrev pub onward : Run → List Task → List ℕ → ℕ → Doing ⊥
  onward run ts us bound = goes (program_view p) bound ts (current_view (types_of p) run.current) us normal

  pub planned_sound : (old new : Run) (plan : List Task) → IsSound p old → work new ≡ plan ++ work old → new.current ≡ old.current
      → depths_of new.world.budgets ≡ depths_of old.world.budgets → AllCanRun plan → leaves_of (plan ++ work old) ≡ leaves_of (work old)
      → IsSound p new
  planned_sound old new plan sound puts here deep can none = record {
    tasks = subst AllCanRun (sym puts) (all_can_run plan (work old) can sound.tasks);
    current = subst (λ c. IsReady (current_view (types_of p) c)) (sym here) sound.current;
    depths = let leaves : leaves_of (work new) ≡ leaves_of (work old) = ap leaves_of puts ∙ none in omega (arith, leaves, deep, sound.depths);
  }

  pub framed_sound : (old new : Run) → IsSound p old → new.tasks ≡ old.tasks → new.current ≡ old.current
      → depths_of new.world.budgets ≡ depths_of old.world.budgets → IsSound p new
  framed_sound old new sound same here deep =
      planned_sound old new [] sound (ap (λ ts. tasks_view (types_of p) (pending ts)) same) here deep tt refl

  pub planned_less : (old new : Run) (t : Task) (plan : List Task) → work new ≡ plan ++ work old → work_of plan < task_work t
      → work_left p new < work_with p t old
  planned_less old new t plan puts less =
      let weight : work_of (work new) ≡ work_of plan + work_of (work old) = ap work_of puts ∙ work_of_both plan (work old) in omega (arith, weight, less)

  pub rest_is : (old new : Run) (ts : List Task) (us : List ℕ) (w : Stored) (bound : ℕ) (es : List Event) → work new ≡ ts
      → new.current ≡ old.current → new.values ≡ us → new.world ≡ w
      → onward old ts us bound (world_of w es) ≡ rest_of p bound new es
  rest_is old new ts us w bound es puts here values world =
      sym (λ i. goes (program_view p) bound (puts i) (current_view (types_of p) (here i)) (values i) normal (world_of (world i) es))

  -- another way to say what is still to be done
  pub rest_same : (bound : ℕ) (before after : List Event → Outcome ⊥) (new : Run) (d : Did) → ((es : List Event) → before es ≡ after es)
      → LeavesRest p bound after new d → LeavesRest p bound before new d
  rest_same bound before after new did.Went same h = λ es. same es ∙ h es
  rest_same bound before after new did.Turned same h = λ es. same es ∙ h es
  rest_same bound before after new (did.Told event) same h = λ es. same es ∙ h es
  rest_same bound before after new (did.Trapped t) same h = λ es. same es ∙ h es
  rest_same bound before after new (did.Exited v) same h = λ es. same es ∙ h es

  pub steps_same : (m n : ℕ → Doing ⊥) (old new : Run) (d : Did)
      → ((bound : ℕ) (es : List Event) → m bound (world_of old.world es) ≡ n bound (world_of old.world es))
      → Steps p n old new d → Steps p m old new d
  steps_same m n old new d same h bound low =
      rest_same bound (λ es. m bound (world_of old.world es)) (λ es. n bound (world_of old.world es)) new d (same bound) (h bound low)

  -- the pending work weighs less than a number, and so less than any that is as great
  pub falls_more : (n m : ℕ) (old new : Run) (d : Did) → n ≤ m → Falls p n old new d → Falls p m old new d
  falls_more n m old new did.Went more h = (h.0, omega (arith, more, h.1))
  falls_more n m old new did.Turned more h = h
  falls_more n m old new (did.Told event) more h = (h.0, omega (arith, more, h.1))
  falls_more n m old new (did.Trapped t) more h = h
  falls_more n m old new (did.Exited v) more h = h

  -- no turn was taken, and less is pending
  pub falls_framed : (n : ℕ) (old new : Run) (d : Did) → IsFraming d → turns_of new.world.budgets ≡ turns_of old.world.budgets
      → work_left p new < n → Falls p n old new d
  falls_framed n old new did.Went framing turns less = (turns, less)
  falls_framed n old new did.Turned framing turns less = absurd framing
  falls_framed n old new (did.Told event) framing turns less = (turns, less)
  falls_framed n old new (did.Trapped t) framing turns less = framing
  falls_framed n old new (did.Exited v) framing turns less = framing

module _ (at : At) (old new : Run) (t : Task) (can : CanTake at old t) where
  abbrev p : TypedProgram
  p = at.program.now

  -- tasks of less weight stand in its place
  pub plan_taken : (plan : List Task) → work p new ≡ plan ++ work p old → new.current ≡ old.current
      → turns_of new.world.budgets ≡ turns_of old.world.budgets → depths_of new.world.budgets ≡ depths_of old.world.budgets
      → AllCanRun plan → leaves_of (plan ++ work p old) ≡ leaves_of (work p old) → work_of plan < task_work t
      → ((bound : ℕ) (es : List Event) → going_with p bound t old (world_of old.world es) ≡ onward p old (plan ++ work p old) new.values bound (world_of new.world es))
      → Takes at old t new did.Went
  plan_taken plan puts here turns deep runs none less same = record {
    steps = λ bound low es. same bound es ∙ rest_is p old new (plan ++ work p old) new.values new.world bound es puts here refl refl;
    sound = planned_sound p old new plan can.sound puts here deep runs none;
    falls = (turns, planned_less p old new t plan puts less);
  }

  -- nothing but the pending work is another
  pub only_plan_taken : (plan : List Task) (us : List ℕ) → work p new ≡ plan ++ work p old → new.current ≡ old.current
      → new.world ≡ old.world → new.values ≡ us
      → AllCanRun plan → leaves_of (plan ++ work p old) ≡ leaves_of (work p old) → work_of plan < task_work t
      → ((bound : ℕ) (es : List Event) → going_with p bound t old (world_of old.world es) ≡ onward p old (plan ++ work p old) us bound (world_of old.world es))
      → Takes at old t new did.Went
  only_plan_taken plan us puts here world values runs none less same =
      plan_taken plan puts here (ap (λ w. turns_of w.budgets) world) (ap (λ w. depths_of w.budgets) world) runs none less
      (λ bound es. same bound es ∙ sym (λ i. onward p old (plan ++ work p old) (values i) bound (world_of (world i) es)))

  -- the pending work is the same, and the stack and the world may be others
  pub frame_taken : (m : ℕ → Doing ⊥) (d : Did) → Steps p m old new d
      → ((bound : ℕ) (es : List Event) → going_with p bound t old (world_of old.world es) ≡ m bound (world_of old.world es))
      → new.tasks ≡ old.tasks → new.current ≡ old.current → new.world.budgets ≡ old.world.budgets → IsFraming d
      → Takes at old t new d
  frame_taken m d steps same tasks here budgets framing = record {
    steps = steps_same p (λ bound. going_with p bound t old) m old new d same steps;
    sound = framed_sound p old new can.sound tasks here (ap depths_of budgets);
    falls = let less : work_left p new < work_with p t old = planned_less p old new t [] (ap (λ ts. tasks_view (types_of p) (pending ts)) tasks) (task_weighs t) in
        falls_framed p (work_with p t old) old new d framing (ap turns_of budgets) less;
  }

  -- nothing was to be done but this to the stack and the world
  pub went_taken : new.tasks ≡ old.tasks → new.current ≡ old.current
      → turns_of new.world.budgets ≡ turns_of old.world.budgets → depths_of new.world.budgets ≡ depths_of old.world.budgets
      → ((bound : ℕ) (es : List Event) → going_with p bound t old (world_of old.world es) ≡ onward p old (work p old) new.values bound (world_of new.world es))
      → Takes at old t new did.Went
  went_taken tasks here turns deep same =
      plan_taken [] (ap (λ ts. tasks_view (types_of p) (pending ts)) tasks) here turns deep tt refl (task_weighs t) same

  -- a turn was taken, and tasks stand in its place
  pub turn_taken : (plan : List Task) → work p new ≡ plan ++ work p old → new.current ≡ old.current
      → suc (turns_of new.world.budgets) ≡ turns_of old.world.budgets → depths_of new.world.budgets ≡ depths_of old.world.budgets
      → AllCanRun plan → leaves_of (plan ++ work p old) ≡ leaves_of (work p old)
      → ((bound : ℕ) (es : List Event) → turns_of old.world.budgets ≤ bound
      → going_with p bound t old (world_of old.world es) ≡ onward p old (plan ++ work p old) new.values bound (world_of new.world es))
      → Takes at old t new did.Turned
  turn_taken plan puts here turns deep runs none same = record {
    steps = λ bound low es. same bound es low ∙ rest_is p old new (plan ++ work p old) new.values new.world bound es puts here refl refl;
    sound = planned_sound p old new plan can.sound puts here deep runs none;
    falls = turns;
  }

  -- the run ends by a trap
  pub trap_taken : (end : Trapped) → new.tasks ≡ old.tasks → new.current ≡ old.current → depths_of new.world.budgets ≡ depths_of old.world.budgets
      → ((bound : ℕ) (es : List Event) → turns_of old.world.budgets ≤ bound → going_with p bound t old (world_of old.world es) ≡ Ends (TrapEnd end.trap end.line) es)
      → Takes at old t new (did.Trapped end)
  trap_taken end tasks here deep same = record {
    steps = λ bound low es. same bound es low;
    sound = framed_sound p old new can.sound tasks here deep;
    falls = tt;
  }
