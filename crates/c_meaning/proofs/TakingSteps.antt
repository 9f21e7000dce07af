-- What the steps of the evaluator owe, by the kinds of their tasks.
use Rattle.std.proofs.Common.{◌≡◌, ℕ, ◌≤◌, List, [], ◌∷◌, ◌++◌, Some, Result, Ok, Err, refl, sym, ap, ◌∙◌, subst}
use Rattle.std.specs.Prelude.{IfOk, OnOk}
use Rattle.srmt_base.specs.declared.event.Event.{Event}
use Rattle.srmt_base.specs.declared.trap.SourceEnd.TheVariants.{Trap as TrapEnd}
use Rattle.srmt_base.specs.Budgets.{turn_of}
use Rattle.c_typed.specs.declared.program.TypedProgram.{TypedProgram}
use Rattle.c_typed.specs.StatementViews.{program_view}
use Rattle.c_typed.specs.Statements.{Stmt, while, do_while, for, Items}
use Rattle.c_typed.specs.Typed.{Place, Value, ValueNode, conjunction, disjunction, choice, Values}
use Rattle.source_meaning.specs.Places.{all_begin, address_in}
use Rattle.source_meaning.specs.Expressions.{location_of, value_of}
use Rattle.source_meaning.specs.Statements.{normal}
use Rattle.source_meaning.specs.World.{Gives, Ends, Doing, and_then, spends}
use Rattle.c_meaning.specs.declared.run.Did.{Did}
use Rattle.c_meaning.specs.declared.run.Did.TheVariants as did
use Rattle.c_meaning.specs.declared.run.Run.{Run}
use Rattle.c_meaning.specs.declared.setting.At.{At}
use Rattle.c_meaning.specs.declared.stack.Tasks.{Tasks}
use Rattle.c_meaning.specs.declared.store.Stored.{Stored}
use Rattle.c_meaning.specs.declared.store.Trapped.{Trapped}
use Rattle.c_meaning.specs.Leaves.{IsLeaf, IsAddress, HasParts, HasPlan}
use Rattle.c_meaning.specs.Owes.{CanTake, Takes, TakesTurn}
use Rattle.c_meaning.specs.Pending.{Current, Task, does, evaluate, evaluate_all, evaluate_dropped, locate, execute, execute_items, choose, at_top, tested, after_body, again, top_of, below, located, setting_at, goes}
use Rattle.c_meaning.specs.Plans.{value_plan, all_plan, dropped_plan, place_plan, begun_first, jump_of, statement_plan, items_plan, choice_plan, top_plan, tested_plan, round_plan, again_plan}
use Rattle.c_meaning.specs.Runs.{types_of, setting_of, world_of, turns_of, depths_of, going_with}
use Rattle.c_meaning.specs.Stack.{pending}
use Rattle.c_meaning.specs.TaskViews.{current_view, tasks_view}
use Rattle.c_meaning.proofs.ExpressionPlans.{value_plan_keeps, place_plan_keeps, all_plan_keeps, dropped_plan_keeps}
use Rattle.c_meaning.proofs.PlansRun.{value_can_run, place_can_run, values_can_run, dropped_can_run, statement_can_run, items_can_run, choice_can_run, top_can_run, tested_can_run, round_can_run, again_can_run, value_leaves, place_leaves, values_leaves, dropped_leaves, statement_leaves, items_leaves, choice_leaves, top_leaves, tested_leaves, round_leaves, again_leaves}
use Rattle.c_meaning.proofs.PlansWeigh.{value_weighs, place_weighs, values_weighs, dropped_weighs, statement_weighs, items_weighs, choice_weighs, tested_weighs, round_weighs, again_weighs, task_weighs}
use Rattle.c_meaning.proofs.StatementPlans.{first_turn, execute_keeps, items_keep, choice_keeps, top_keeps, again_keeps, tested_keeps, round_keeps}
use Rattle.c_meaning.proofs.Taking.{work, onward, plan_taken, only_plan_taken, turn_taken, trap_taken}

-- a value that is no `&&`, `||` or `?:`
abbrev pub IsUndecided : ValueNode → Type 0
IsUndecided (conjunction a b) = ⊥
IsUndecided (disjunction a b) = ⊥
IsUndecided (choice e a b) = ⊥
IsUndecided other = Unit {0}

-- a statement that is no loop
abbrev pub IsNoLoop : Stmt → Type 0
IsNoLoop (while line e a) = ⊥
IsNoLoop (do_while line a e) = ⊥
IsNoLoop (for line first e step a) = ⊥
IsNoLoop other = Unit {0}

module _ (at : At) (old : Run) where
  abbrev p : TypedProgram
  p = at.program.now

  abbrev c : Current
  c = current_view (types_of p) old.current

  abbrev pub after : Tasks → List ℕ → Run
  after tasks values = record old { tasks = tasks; values = values }

  -- the tasks of a plan stand before those that were pending
  abbrev pub IsPut : Tasks → List Task → Type 0
  IsPut tasks plan = tasks_view (types_of p) (pending tasks) ≡ plan ++ work p old

  -- ---- tasks that others take the place of

  pub value_planned : (e : Value) (tasks : Tasks) → CanTake at old (does (evaluate e)) → HasPlan e → IsPut tasks (value_plan e)
      → Takes at old (does (evaluate e)) (after tasks old.values) did.Went
  value_planned e tasks can h puts =
      only_plan_taken at old (after tasks old.values) (does (evaluate e)) can (value_plan e) old.values puts refl refl refl
      (value_can_run e can.task) (value_leaves e (work p old)) (value_weighs e)
      (λ bound es. value_plan_keeps (program_view p) bound e h (work p old) c old.values (world_of old.world es))

  pub place_planned : (l : Place) (tasks : Tasks) → CanTake at old (does (locate l)) → HasParts l → IsPut tasks (place_plan l)
      → Takes at old (does (locate l)) (after tasks old.values) did.Went
  place_planned l tasks can h puts =
      only_plan_taken at old (after tasks old.values) (does (locate l)) can (place_plan l) old.values puts refl refl refl
      (place_can_run l can.task) (place_leaves l (work p old)) (place_weighs l)
      (λ bound es. place_plan_keeps (program_view p) bound l h (work p old) c old.values (world_of old.world es))

  pub values_planned : (vs : Values) (tasks : Tasks) → CanTake at old (does (evaluate_all vs)) → IsPut tasks (all_plan vs)
      → Takes at old (does (evaluate_all vs)) (after tasks old.values) did.Went
  values_planned vs tasks can puts =
      only_plan_taken at old (after tasks old.values) (does (evaluate_all vs)) can (all_plan vs) old.values puts refl refl refl
      (values_can_run vs can.task) (values_leaves vs (work p old)) (values_weighs vs)
      (λ bound es. all_plan_keeps (program_view p) bound vs (work p old) c old.values (world_of old.world es))

  pub dropped_planned : (vs : Values) (tasks : Tasks) → CanTake at old (does (evaluate_dropped vs)) → IsPut tasks (dropped_plan vs)
      → Takes at old (does (evaluate_dropped vs)) (after tasks old.values) did.Went
  dropped_planned vs tasks can puts =
      only_plan_taken at old (after tasks old.values) (does (evaluate_dropped vs)) can (dropped_plan vs) old.values puts refl refl refl
      (dropped_can_run vs can.task) (dropped_leaves vs (work p old)) (dropped_weighs vs)
      (λ bound es. dropped_plan_keeps (program_view p) bound vs (work p old) c old.values (world_of old.world es))

  pub items_planned : (items : Items) (tasks : Tasks) → CanTake at old (execute_items items) → IsPut tasks (items_plan items)
      → Takes at old (execute_items items) (after tasks old.values) did.Went
  items_planned items tasks can puts =
      only_plan_taken at old (after tasks old.values) (execute_items items) can (items_plan items) old.values puts refl refl refl
      (items_can_run items can.task) (items_leaves items (work p old)) (items_weighs items)
      (λ bound es. items_keep (program_view p) bound (work p old) c old.values items (world_of old.world es))

  pub round_planned : (a : Stmt) (tasks : Tasks) → CanTake at old (after_body a) → IsPut tasks (round_plan a)
      → Takes at old (after_body a) (after tasks old.values) did.Went
  round_planned a tasks can puts =
      only_plan_taken at old (after tasks old.values) (after_body a) can (round_plan a) old.values puts refl refl refl
      (round_can_run a can.task) (round_leaves a (work p old)) (round_weighs a)
      (λ bound es. round_keeps (program_view p) bound (work p old) c old.values a (world_of old.world es))

  -- the value on the stack is taken
  module _ (a : Stmt) (tasks : Tasks) (x : ℕ) (us : List ℕ) (top : x ≡ top_of old.values) (under : us ≡ below old.values) where
    pub choice_planned : CanTake at old (choose a) → IsPut tasks (choice_plan a x) → Takes at old (choose a) (after tasks us) did.Went
    choice_planned can puts =
        only_plan_taken at old (after tasks us) (choose a) can (choice_plan a x) us puts refl refl refl
        (choice_can_run a x can.task) (choice_leaves a x (work p old)) (choice_weighs a x)
        (λ bound es. choice_keeps (program_view p) bound (work p old) c old.values a (world_of old.world es)
        ∙ sym (λ i. onward p old (choice_plan a (top i) ++ work p old) (under i) bound (world_of old.world es)))

    pub tested_planned : CanTake at old (tested a) → IsPut tasks (tested_plan a x) → Takes at old (tested a) (after tasks us) did.Went
    tested_planned can puts =
        only_plan_taken at old (after tasks us) (tested a) can (tested_plan a x) us puts refl refl refl
        (tested_can_run a x can.task) (tested_leaves a x (work p old)) (tested_weighs a x)
        (λ bound es. tested_keeps (program_view p) bound (work p old) c old.values a (world_of old.world es)
        ∙ sym (λ i. onward p old (tested_plan a (top i) ++ work p old) (under i) bound (world_of old.world es)))

    pub again_planned : CanTake at old (again a) → IsPut tasks (again_plan a x) → Takes at old (again a) (after tasks us) did.Went
    again_planned can puts =
        only_plan_taken at old (after tasks us) (again a) can (again_plan a x) us puts refl refl refl
        (again_can_run a x can.task) (again_leaves a x (work p old)) (again_weighs a x)
        (λ bound es. again_keeps (program_view p) bound (work p old) c old.values a (world_of old.world es)
        ∙ sym (λ i. onward p old (again_plan a (top i) ++ work p old) (under i) bound (world_of old.world es)))

  -- ---- values that go onto the stack

  pub value_given : {E : Type 0} (t : Task) (r : Result Did E) (new : Run) (x : ℕ) (us : List ℕ) → CanTake at old t
      → OnOk r (new ≡ record old { values = x ∷ us }) → IfOk r (λ d. d ≡ did.Went)
      → ((bound : ℕ) (es : List Event) → going_with p bound t old (world_of old.world es) ≡ onward p old (work p old) (x ∷ us) bound (world_of old.world es))
      → IfOk r (Takes at old t new)
  value_given t (Ok d) new x us can is went same =
      subst (Takes at old t new) (sym went)
      (only_plan_taken at old new t can [] (x ∷ us) (ap (work p) is) (ap (λ (r : Run). r.current) is) (ap (λ (r : Run). r.world) is)
      (ap (λ (r : Run). r.values) is) tt refl (task_weighs t) same)
  value_given t (Err e) new x us can is went same = is

  pub leaf_given : {E : Type 0} (e : Value) (r : Result Did E) (new : Run) (x : ℕ) → CanTake at old (does (evaluate e))
      → IsLeaf at old.world e (Some x) → OnOk r (new ≡ record old { values = x ∷ old.values }) → IfOk r (λ d. d ≡ did.Went)
      → IfOk r (Takes at old (does (evaluate e)) new)
  leaf_given e r new x can leaf is went =
      value_given (does (evaluate e)) r new x old.values can is went
      (λ bound es. ap (λ o. and_then o (λ v. onward p old (work p old) (v ∷ old.values) bound))
      (subst (λ k. value_of (setting_at (program_view p) bound (current_view (types_of p) k)) e (world_of old.world es) ≡ Gives x (world_of old.world es)) can.here (leaf bound es)))

  pub address_given : {E : Type 0} (l : Place) (r : Result Did E) (new : Run) (x : ℕ) → CanTake at old (does (locate l))
      → IsAddress at old.world l (Some x) → OnOk r (new ≡ record old { values = x ∷ old.values }) → IfOk r (λ d. d ≡ did.Went)
      → IfOk r (Takes at old (does (locate l)) new)
  address_given l r new x can found is went =
      value_given (does (locate l)) r new x old.values can is went
      (λ bound es.
      let s = setting_at (program_view p) bound c in
      let here : (location_of s l (world_of old.world es) ≡ Gives (located s l x) (world_of old.world es)) × (address_in (located s l x) ≡ x) =
      subst (λ k.
      let d = setting_at (program_view p) bound (current_view (types_of p) k) in
      (location_of d l (world_of old.world es) ≡ Gives (located d l x) (world_of old.world es)) × (address_in (located d l x) ≡ x)) can.here (found bound es) in
      ap (λ o. and_then o (λ v. onward p old (work p old) (address_in v ∷ old.values) bound)) here.0
      ∙ ap (λ v. onward p old (work p old) (v ∷ old.values) bound (world_of old.world es)) here.1)

  -- ---- statements

  module _ (a : Stmt) (w : Stored) (can : CanTake at old (execute a)) (goes_on : jump_of a ≡ normal) where
    abbrev begins : ℕ → Doing (Unit {0})
    begins bound = all_begin (setting_of bound at) (begun_first a)

    execute_is : (bound : ℕ) (es : List Event)
        → going_with p bound (execute a) old (world_of old.world es)
        ≡ and_then (begins bound (world_of old.world es)) (λ done. onward p old (statement_plan a ++ work p old) old.values bound)
    execute_is bound es =
        execute_keeps (program_view p) bound (work p old) c old.values a (world_of old.world es)
        ∙ (λ i. and_then (all_begin (setting_at (program_view p) bound (current_view (types_of p) (sym can.here i))) (begun_first a) (world_of old.world es))
        (λ done. goes (program_view p) bound (statement_plan a ++ work p old) c old.values (goes_on i)))

    pub begun_taken : (tasks : Tasks)
        → ((bound : ℕ) (es : List Event) → begins bound (world_of old.world es) ≡ Gives tt (world_of w es))
        → w.budgets ≡ old.world.budgets → IsPut tasks (statement_plan a)
        → Takes at old (execute a) (record old { tasks = tasks; world = w }) did.Went
    begun_taken tasks begun budgets puts =
        plan_taken at old (record old { tasks = tasks; world = w }) (execute a) can (statement_plan a) puts refl (ap turns_of budgets) (ap depths_of budgets)
        (statement_can_run a can.task) (statement_leaves a (work p old)) (statement_weighs a)
        (λ bound es. execute_is bound es ∙ ap (λ o. and_then o (λ done. onward p old (statement_plan a ++ work p old) old.values bound)) (begun bound es))

    pub begun_trapped : (end : Trapped)
        → ((bound : ℕ) (es : List Event) → begins bound (world_of old.world es) ≡ Ends (TrapEnd end.trap end.line) es)
        → w.budgets ≡ old.world.budgets → Takes at old (execute a) (record old { world = w }) (did.Trapped end)
    begun_trapped end ends budgets =
        trap_taken at old (record old { world = w }) (execute a) can end refl refl (ap depths_of budgets)
        (λ bound es low. execute_is bound es ∙ ap (λ o. and_then o (λ done. onward p old (statement_plan a ++ work p old) old.values bound)) (ends bound es))

  module _ (a : Stmt) (w : Stored) (line : ℕ) (can : CanTake at old (at_top a)) (is_turn : first_turn at.current.part a ≡ spends line (turn_of at.current.part)) where
    top_is : (bound : ℕ) (es : List Event) → turns_of old.world.budgets ≤ bound
        → going_with p bound (at_top a) old (world_of old.world es)
        ≡ and_then (spends line (turn_of at.current.part) (world_of old.world es)) (λ done. onward p old (top_plan a ++ work p old) old.values bound)
    top_is bound es low =
        top_keeps (program_view p) bound (work p old) c old.values a (world_of old.world es) low
        ∙ (λ i. and_then (first_turn (sym can.here i).part a (world_of old.world es)) (λ done. onward p old (top_plan a ++ work p old) old.values bound))
        ∙ ap (λ m. and_then (m (world_of old.world es)) (λ done. onward p old (top_plan a ++ work p old) old.values bound)) is_turn

    pub turned_taken : (tasks : Tasks)
        → ((es : List Event) → spends line (turn_of at.current.part) (world_of old.world es) ≡ Gives tt (world_of w es))
        → TakesTurn old.world.budgets w.budgets → IsPut tasks (top_plan a)
        → Takes at old (at_top a) (record old { tasks = tasks; world = w }) did.Turned
    turned_taken tasks spent turn puts =
        turn_taken at old (record old { tasks = tasks; world = w }) (at_top a) can (top_plan a) puts refl turn.turns turn.depths
        (top_can_run a can.task) (top_leaves a (work p old))
        (λ bound es low. top_is bound es low ∙ ap (λ o. and_then o (λ done. onward p old (top_plan a ++ work p old) old.values bound)) (spent es))

    pub turn_trapped : (end : Trapped)
        → ((es : List Event) → spends line (turn_of at.current.part) (world_of old.world es) ≡ Ends (TrapEnd end.trap end.line) es)
        → depths_of w.budgets ≡ depths_of old.world.budgets → Takes at old (at_top a) (record old { world = w }) (did.Trapped end)
    turn_trapped end ends deep =
        trap_taken at old (record old { world = w }) (at_top a) can end refl refl deep
        (λ bound es low. top_is bound es low ∙ ap (λ o. and_then o (λ done. onward p old (top_plan a ++ work p old) old.values bound)) (ends es))
