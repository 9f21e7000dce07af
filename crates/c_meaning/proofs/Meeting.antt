-- What a jump does to a task that it reaches, and how a function is left for its caller.
use Rattle.std.proofs.Common.{◌≡◌, ℕ, ◌+◌, List, [], ◌∷◌, ◌++◌, refl, sym, ap, ◌∙◌, subst, arith}
use Rattle.srmt_base.specs.declared.event.Event.{Event}
use Rattle.srmt_base.specs.Budgets.{leave_of}
use Rattle.c_types.specs.declared.type_ref.TypeRef.{TypeRef}
use Rattle.c_types.specs.Types.{CType}
use Rattle.c_typed.specs.declared.program.TypedProgram.{TypedProgram}
use Rattle.c_typed.specs.declared.program.Function.{Function as CodeFunction}
use Rattle.c_typed.specs.StatementViews.{program_view, function_view}
use Rattle.c_typed.specs.Statements.{Stmt, LocalItem, Items}
use Rattle.source_meaning.specs.Calls.{value_returned, numbers_below}
use Rattle.source_meaning.specs.Places.{all_end}
use Rattle.source_meaning.specs.Statements.{Completion, normal, continues, breaks, returns, locals_of, numbers_of}
use Rattle.source_meaning.specs.World.{World, Gives, Doing, and_then, ◌>>◌, becomes}
use Rattle.source_meaning.proofs.Associates.{then_then}
use Rattle.c_meaning.specs.declared.jumps.Jump.{Jump}
use Rattle.c_meaning.specs.declared.jumps.Jump.TheVariants as jump
use Rattle.c_meaning.specs.declared.jumps.Met.TheVariants as met
use Rattle.c_meaning.specs.declared.run.Did.TheVariants as did
use Rattle.c_meaning.specs.declared.run.Run.{Run}
use Rattle.c_meaning.specs.declared.setting.At.{At}
use Rattle.c_meaning.specs.declared.stack.Tasks.{Tasks}
use Rattle.c_meaning.specs.declared.store.Stored.{Stored}
use Rattle.c_meaning.specs.declared.task.Current.{Current as CodeCurrent}
use Rattle.c_meaning.specs.Entering.{Left}
use Rattle.c_meaning.specs.Jumping.{Meets}
use Rattle.c_meaning.specs.Owes.{CanTake, Takes}
use Rattle.c_meaning.specs.Pending.{Current, Task, after_body, end_block, end_locals, leave, setting_at, goes}
use Rattle.c_meaning.specs.Plans.{round_plan}
use Rattle.c_meaning.specs.Runs.{types_of, setting_of, world_of, turns_of, depths_of, rest_of, completion_of, IsSound}
use Rattle.c_meaning.specs.Sound.{AllCanRun, IsReady, leaves_of}
use Rattle.c_meaning.specs.Stack.{pending}
use Rattle.c_meaning.specs.TaskViews.{current_view, tasks_view}
use Rattle.c_meaning.proofs.PlansRun.{round_can_run, round_leaves}
use Rattle.c_meaning.proofs.PlansWeigh.{round_weighs, task_weighs}
use Rattle.c_meaning.proofs.StatementPlans.{IsJump, IsSkipped, skips, round_continues}
use Rattle.c_meaning.proofs.Taking.{work, rest_is, planned_sound, framed_sound, planned_less}
use Rattle.c_meaning.proofs.TakingSteps.{IsPut}

pub jumps : (j : Jump) → IsJump (completion_of j)
jumps jump.Continue = tt
jumps jump.Break = tt
jumps (jump.Return v) = tt

parameters_are : (types : TypeRef → CType) (f : CodeFunction) → (function_view types f).parameters ≡ f.parameters
unfolding function_view
parameters_are types f = refl

module _ (at : At) (old : Run) where
  abbrev p : TypedProgram
  p = at.program.now

  abbrev c : Current
  c = current_view (types_of p) old.current

  -- a task is left behind a jump, and only the world is another
  pub goes_on : (t : Task) (j : Completion) (w : Stored) → CanTake at old t → w.budgets ≡ old.world.budgets
      → ((bound : ℕ) (es : List Event) → goes (program_view p) bound (t ∷ work p old) c old.values j (world_of old.world es)
      ≡ goes (program_view p) bound (work p old) c old.values j (world_of w es))
      → Meets at j old t (record old { world = w }) met.Passes
  goes_on t j w can budgets same = record {
    rest = same;
    sound = framed_sound p old (record old { world = w }) can.sound refl refl (ap depths_of budgets);
    turns = ap turns_of budgets;
    less = planned_less p old (record old { world = w }) t [] refl (task_weighs t);
    here = λ passes. refl;
  }

  pub skipped : (t : Task) (j : Jump) → CanTake at old t → IsSkipped t → Meets at (completion_of j) old t old met.Passes
  skipped t j can over =
      goes_on t (completion_of j) old.world can refl
      (λ bound es. skips (program_view p) bound (work p old) c old.values t (completion_of j) (world_of old.world es) over (jumps j))

  pub block_left : (items : Items) (j : Completion) (w : Stored) → CanTake at old (end_block items)
      → ((bound : ℕ) (es : List Event) → all_end (setting_of bound at) (locals_of items) (world_of old.world es) ≡ Gives tt (world_of w es))
      → w.budgets ≡ old.world.budgets → Meets at j old (end_block items) (record old { world = w }) met.Passes
  block_left items j w can ends budgets =
      goes_on (end_block items) j w can budgets
      (λ bound es.
      (λ i. and_then (all_end (setting_at (program_view p) bound (current_view (types_of p) (sym can.here i))) (locals_of items) (world_of old.world es))
      (λ done. goes (program_view p) bound (work p old) c old.values j))
      ∙ ap (λ o. and_then o (λ done. goes (program_view p) bound (work p old) c old.values j)) (ends bound es))

  pub locals_left : (locals : List LocalItem) (j : Completion) (w : Stored) → CanTake at old (end_locals locals)
      → ((bound : ℕ) (es : List Event) → all_end (setting_of bound at) (numbers_of locals) (world_of old.world es) ≡ Gives tt (world_of w es))
      → w.budgets ≡ old.world.budgets → Meets at j old (end_locals locals) (record old { world = w }) met.Passes
  locals_left locals j w can ends budgets =
      goes_on (end_locals locals) j w can budgets
      (λ bound es.
      (λ i. and_then (all_end (setting_at (program_view p) bound (current_view (types_of p) (sym can.here i))) (numbers_of locals) (world_of old.world es))
      (λ done. goes (program_view p) bound (work p old) c old.values j))
      ∙ ap (λ o. and_then o (λ done. goes (program_view p) bound (work p old) c old.values j)) (ends bound es))

  -- a body is left

  pub body_continues : (a : Stmt) (tasks : Tasks) → CanTake at old (after_body a) → IsPut at old tasks (round_plan a)
      → Meets at continues old (after_body a) (record old { tasks = tasks }) met.Stops
  body_continues a tasks can puts =
      let new = record old { tasks = tasks } in
      record {
        rest = λ bound es.
            round_continues (program_view p) bound (work p old) c old.values a (world_of old.world es)
            ∙ rest_is p old new (round_plan a ++ work p old) old.values old.world bound es puts refl refl refl;
        sound = planned_sound p old new (round_plan a) can.sound puts refl refl (round_can_run a can.task) (round_leaves a (work p old));
        turns = refl;
        less = planned_less p old new (after_body a) (round_plan a) puts (round_weighs a);
        here = λ passes. refl;
      }

  pub body_breaks : (a : Stmt) → CanTake at old (after_body a) → Meets at breaks old (after_body a) old met.Stops
  body_breaks a can = record {
    rest = λ bound es. refl;
    sound = can.sound;
    turns = refl;
    less = planned_less p old old (after_body a) [] refl (task_weighs (after_body a));
    here = λ passes. refl;
  }

  pub body_returns : (a : Stmt) (v : ℕ) → CanTake at old (after_body a) → Meets at (returns v) old (after_body a) old met.Passes
  body_returns a v can = goes_on (after_body a) (returns v) old.world can refl (λ bound es. refl)

  -- a function is left for its caller
  module _ (caller : CodeCurrent) (locals : List ℕ) (value : ℕ) (new : Run) (j : Completion)
      (can : CanTake at old (leave (current_view (types_of p) caller) locals)) (left : Left at caller locals value old new)
      (returned : value ≡ value_returned j) (values : new.values ≡ value ∷ old.values) (tasks : new.tasks ≡ old.tasks) (current : new.current ≡ caller)
      (turns : turns_of new.world.budgets ≡ turns_of old.world.budgets) (depths : depths_of new.world.budgets ≡ depths_of old.world.budgets + 1) where
    abbrev t : Task
    t = leave (current_view (types_of p) caller) locals

    abbrev back : World → World
    back u = record u { locals = locals }

    same_work : work p new ≡ work p old
    same_work = ap (λ ts. tasks_view (types_of p) (pending ts)) tasks

    pub caller_goes : (bound : ℕ) (es : List Event)
        → goes (program_view p) bound (t ∷ work p old) c old.values j (world_of old.world es) ≡ rest_of p bound new es
    caller_goes bound es =
        let k : Doing ⊥ = goes (program_view p) bound (work p old) (current_view (types_of p) caller) (value_returned j ∷ old.values) normal in
        (λ i.
        let at_i = sym can.here i in
        (all_end (setting_at (program_view p) bound (current_view (types_of p) at_i)) (numbers_below (parameters_are (types_of p) at_i.function.now i))
        >> (becomes back >> (becomes (λ u. record u { budgets = leave_of at_i.part u.budgets }) >> k))) (world_of old.world es))
        ∙ sym (then_then (all_end (setting_of bound at) (numbers_below at.current.function.now.parameters))
        (λ ended. becomes back >> becomes (λ u. record u { budgets = leave_of at.current.part u.budgets })) (λ done. k) (world_of old.world es))
        ∙ ap (λ o. and_then o (λ done. k)) (left bound es)
        ∙ (λ i. goes (program_view p) bound (sym same_work i) (current_view (types_of p) (sym current i))
        (((ap (λ v. v ∷ old.values) (sym returned)) ∙ sym values) i) normal (world_of new.world es))

    pub caller_sound : IsSound p new
    caller_sound =
        let leaves : leaves_of (work p new) ≡ leaves_of (work p old) = ap leaves_of same_work in
        record {
          tasks = subst AllCanRun (sym same_work) can.sound.tasks;
          current = subst (λ k. IsReady (current_view (types_of p) k)) (sym current) can.task;
          depths = omega (arith, can.depths, leaves, depths);
        }

    pub caller_meets : Meets at j old t new met.Stops
    caller_meets = record {
      rest = caller_goes;
      sound = caller_sound;
      turns = turns;
      less = planned_less p old new t [] same_work (task_weighs t);
      here = λ passes. cc;
    }

  pub left_taken : (t : Task) (new : Run) → Meets at normal old t new met.Stops → Takes at old t new did.Went
  left_taken t new done = record {
    steps = λ bound low es. done.rest bound es;
    sound = done.sound;
    falls = (done.turns, done.less);
  }
