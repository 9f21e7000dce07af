-- What the steps owe that decide on an operand, find or read a place, or give a local its first value.
use Rattle.std.proofs.Common.{◌≡◌, ℕ, ◌<◌, ◌==◌, true, false, List, [], ◌∷◌, ◌++◌, Result, Ok, Err, refl, sym, ap, ◌∙◌, subst, arith}
use Rattle.std.specs.Prelude.{IfOk, OnOk, slice_index}
use Rattle.std.proofs.lemmas.List.{append_assoc}
use Rattle.srmt_base.specs.declared.event.Event.{Event}
use Rattle.c_types.specs.Types.{CType}
use Rattle.c_typed.specs.declared.program.TypedProgram.{TypedProgram}
use Rattle.c_typed.specs.StatementViews.{program_view}
use Rattle.c_typed.specs.Statements.{Cell, LocalItem, Stmt, while, do_while, for}
use Rattle.c_typed.specs.Typed.{Place, Value, value, ValueNode, conjunction, disjunction, choice}
use Rattle.source_meaning.specs.Places.{fetch}
use Rattle.source_meaning.specs.Sound.{HasOperands}
use Rattle.source_meaning.specs.Statements.{normal}
use Rattle.source_meaning.specs.World.{World, ◌>>=◌}
use Rattle.c_meaning.specs.declared.run.Did.{Did}
use Rattle.c_meaning.specs.declared.run.Did.TheVariants as did
use Rattle.c_meaning.specs.declared.run.Run.{Run}
use Rattle.c_meaning.specs.declared.setting.At.{At}
use Rattle.c_meaning.specs.declared.stack.Tasks.{Tasks}
use Rattle.c_meaning.specs.Owes.{CanTake, Takes, IsAsBefore, held}
use Rattle.c_meaning.specs.Pending.{Current, Task, does, evaluate, hold, hold_above, decide, finish, initialize_all, give_cells, at_top, top_of, below, located, setting_at, goes}
use Rattle.c_meaning.specs.Plans.{initial_plan, initial_stack, cell_plan}
use Rattle.c_meaning.specs.Sound.{AllCanRun, leaves_of}
use Rattle.c_meaning.specs.Work.{decide_work, task_work, work_of}
use Rattle.c_meaning.specs.Runs.{types_of, setting_of, world_of, going_with, Frames, Steps}
use Rattle.c_meaning.specs.Stack.{pending}
use Rattle.c_meaning.specs.TaskViews.{current_view, tasks_view}
use Rattle.c_meaning.specs.Told.{IsFraming}
use Rattle.c_meaning.proofs.ExpressionPlans.{conjunction_stops, conjunction_goes_on, disjunction_stops, disjunction_goes_on, choice_takes_first, choice_takes_second}
use Rattle.c_meaning.proofs.PlansRun.{all_can_run, first_local_can_run, cell_can_run, initial_leaves, leave_of_others}
use Rattle.c_meaning.proofs.PlansWeigh.{work_of_both, initial_weighs, cell_weighs, conjunction_weighs, disjunction_weighs, first_choice_weighs, second_choice_weighs}
use Rattle.c_meaning.proofs.StatementPlans.{none_initial, initial_keeps, no_cells, cells_keep}
use Rattle.c_meaning.proofs.Taking.{work, onward, only_plan_taken, frame_taken, went_taken}
use Rattle.c_meaning.proofs.TakingSteps.{IsUndecided, IsNoLoop, IsPut, after, value_given}

module _ (at : At) (old : Run) where
  abbrev p : TypedProgram
  p = at.program.now

  abbrev c : Current
  c = current_view (types_of p) old.current

  -- the value of a decided operand has been taken from the stack
  module _ (line : ℕ) (t : CType) (us : List ℕ) (under : us ≡ below old.values) (e : Value) (new : Run) where
    pub conjunction_stopped : {E : Type 0} (a b : Value) (r : Result Did E) → e ≡ value line t (conjunction a b) → CanTake at old (does (decide e))
        → (top_of old.values == 0) ≡ true → OnOk r (new ≡ record old { values = 0 ∷ us }) → IfOk r (λ d. d ≡ did.Went)
        → IfOk r (Takes at old (does (decide e)) new)
    conjunction_stopped a b r is can zero given went =
        subst (λ k. CanTake at old (does (decide k)) → IfOk r (Takes at old (does (decide k)) new)) (sym is)
        (λ can2. value_given at old (does (decide (value line t (conjunction a b)))) r new 0 us can2 given went
        (λ bound es. conjunction_stops (program_view p) bound line t a b (work p old) c old.values (world_of old.world es) zero
        ∙ sym (λ i. onward p old (work p old) (0 ∷ under i) bound (world_of old.world es)))) can

    pub disjunction_stopped : {E : Type 0} (a b : Value) (r : Result Did E) → e ≡ value line t (disjunction a b) → CanTake at old (does (decide e))
        → (top_of old.values == 0) ≡ false → OnOk r (new ≡ record old { values = 1 ∷ us }) → IfOk r (λ d. d ≡ did.Went)
        → IfOk r (Takes at old (does (decide e)) new)
    disjunction_stopped a b r is can zero given went =
        subst (λ k. CanTake at old (does (decide k)) → IfOk r (Takes at old (does (decide k)) new)) (sym is)
        (λ can2. value_given at old (does (decide (value line t (disjunction a b)))) r new 1 us can2 given went
        (λ bound es. disjunction_stops (program_view p) bound line t a b (work p old) c old.values (world_of old.world es) zero
        ∙ sym (λ i. onward p old (work p old) (1 ∷ under i) bound (world_of old.world es)))) can

    -- tasks take the place of the decision
    plan_goes_on : {E : Type 0} (k : Value) (plan : List Task) (r : Result Did E) → CanTake at old (does (decide k))
        → OnOk r (IsPut at old new.tasks plan) → OnOk r (IsAsBefore (record old { values = us }) new) → IfOk r (λ d. d ≡ did.Went)
        → AllCanRun plan → leaves_of plan ≡ 0 → work_of plan < decide_work k
        → ((bound : ℕ) (w : World) → goes (program_view p) bound (does (decide k) ∷ work p old) c old.values normal w
        ≡ goes (program_view p) bound (plan ++ work p old) c (below old.values) normal w)
        → IfOk r (Takes at old (does (decide k)) new)
    plan_goes_on k plan (Ok d) can puts before went runs none less same =
        subst (Takes at old (does (decide k)) new) (sym went)
        (only_plan_taken at old new (does (decide k)) can plan us puts before.current before.world before.values runs
        (leave_of_others plan (work p old) none) less
        (λ bound es. same bound (world_of old.world es) ∙ sym (λ i. onward p old (plan ++ work p old) (under i) bound (world_of old.world es))))
    plan_goes_on k plan (Err x) can puts before went runs none less same = puts

    pub conjunction_goes : {E : Type 0} (a b : Value) (r : Result Did E) → e ≡ value line t (conjunction a b) → CanTake at old (does (decide e))
        → (top_of old.values == 0) ≡ false → OnOk r (IsPut at old new.tasks (does (evaluate b) ∷ does (finish e) ∷ []))
        → OnOk r (IsAsBefore (record old { values = us }) new) → IfOk r (λ d. d ≡ did.Went) → IfOk r (Takes at old (does (decide e)) new)
    unfolding HasOperands
    conjunction_goes a b r is can other puts before went =
        subst (λ k. CanTake at old (does (decide k)) → OnOk r (IsPut at old new.tasks (does (evaluate b) ∷ does (finish k) ∷ []))
        → IfOk r (Takes at old (does (decide k)) new)) (sym is)
        (λ can2 puts2.
        let k = value line t (conjunction a b) in
        plan_goes_on k (does (evaluate b) ∷ does (finish k) ∷ []) r can2 puts2 before went (can2.task.1, (can2.task, tt)) refl
        (conjunction_weighs line t a b)
        (λ bound w. conjunction_goes_on (program_view p) bound line t a b (work p old) c old.values w other)) can puts

    pub disjunction_goes : {E : Type 0} (a b : Value) (r : Result Did E) → e ≡ value line t (disjunction a b) → CanTake at old (does (decide e))
        → (top_of old.values == 0) ≡ true → OnOk r (IsPut at old new.tasks (does (evaluate b) ∷ does (finish e) ∷ []))
        → OnOk r (IsAsBefore (record old { values = us }) new) → IfOk r (λ d. d ≡ did.Went) → IfOk r (Takes at old (does (decide e)) new)
    unfolding HasOperands
    disjunction_goes a b r is can other puts before went =
        subst (λ k. CanTake at old (does (decide k)) → OnOk r (IsPut at old new.tasks (does (evaluate b) ∷ does (finish k) ∷ []))
        → IfOk r (Takes at old (does (decide k)) new)) (sym is)
        (λ can2 puts2.
        let k = value line t (disjunction a b) in
        plan_goes_on k (does (evaluate b) ∷ does (finish k) ∷ []) r can2 puts2 before went (can2.task.1, (can2.task, tt)) refl
        (disjunction_weighs line t a b)
        (λ bound w. disjunction_goes_on (program_view p) bound line t a b (work p old) c old.values w other)) can puts

    pub first_goes : {E : Type 0} (d a b : Value) (r : Result Did E) → e ≡ value line t (choice d a b) → CanTake at old (does (decide e))
        → (top_of old.values == 0) ≡ false → OnOk r (IsPut at old new.tasks (does (evaluate a) ∷ []))
        → OnOk r (IsAsBefore (record old { values = us }) new) → IfOk r (λ d. d ≡ did.Went) → IfOk r (Takes at old (does (decide e)) new)
    unfolding HasOperands
    first_goes d a b r is can other puts before went =
        subst (λ k. CanTake at old (does (decide k)) → IfOk r (Takes at old (does (decide k)) new)) (sym is)
        (λ can2.
        let less : work_of (does (evaluate a) ∷ []) < decide_work (value line t (choice d a b)) = omega (arith, first_choice_weighs line t d a b) in
        plan_goes_on (value line t (choice d a b)) (does (evaluate a) ∷ []) r can2 puts before went (can2.task.1, tt) refl less
        (λ bound w. choice_takes_first (program_view p) bound line t d a b (work p old) c old.values w other)) can

    pub second_goes : {E : Type 0} (d a b : Value) (r : Result Did E) → e ≡ value line t (choice d a b) → CanTake at old (does (decide e))
        → (top_of old.values == 0) ≡ true → OnOk r (IsPut at old new.tasks (does (evaluate b) ∷ []))
        → OnOk r (IsAsBefore (record old { values = us }) new) → IfOk r (λ d. d ≡ did.Went) → IfOk r (Takes at old (does (decide e)) new)
    unfolding HasOperands
    second_goes d a b r is can other puts before went =
        subst (λ k. CanTake at old (does (decide k)) → IfOk r (Takes at old (does (decide k)) new)) (sym is)
        (λ can2.
        let less : work_of (does (evaluate b) ∷ []) < decide_work (value line t (choice d a b)) = omega (arith, second_choice_weighs line t d a b) in
        plan_goes_on (value line t (choice d a b)) (does (evaluate b) ∷ []) r can2 puts before went (can2.task.2, tt) refl less
        (λ bound w. choice_takes_second (program_view p) bound line t d a b (work p old) c old.values w other)) can

  -- nothing is decided of any other value
  pub undecided : (e : Value) (line : ℕ) (t : CType) (n : ValueNode) → e ≡ value line t n → IsUndecided n → CanTake at old (does (decide e))
      → Takes at old (does (decide e)) old did.Went
  undecided e line t n is other can =
      subst (λ k. CanTake at old (does (decide k)) → Takes at old (does (decide k)) old did.Went) (sym is)
      (λ can2. went_taken at old old (does (decide (value line t n))) can2 refl refl refl refl (λ bound es. by_node bound es n other)) can
    where
      by_node : (bound : ℕ) (es : List Event) (m : ValueNode) → IsUndecided m
          → going_with p bound (does (decide (value line t m))) old (world_of old.world es) ≡ onward p old (work p old) old.values bound (world_of old.world es)
      by_node bound es (conjunction a b) h = absurd h
      by_node bound es (disjunction a b) h = absurd h
      by_node bound es (choice d a b) h = absurd h
      by_node bound es m h = refl

  -- a statement that is no loop does nothing at a top
  pub not_at_top : (a b : Stmt) → a ≡ b → IsNoLoop b → CanTake at old (at_top a) → Takes at old (at_top a) old did.Went
  not_at_top a b is other can =
      subst (λ k. CanTake at old (at_top k) → Takes at old (at_top k) old did.Went) (sym is)
      (λ can2. went_taken at old old (at_top b) can2 refl refl refl refl (λ bound es. by_stmt bound es b other)) can
    where
      by_stmt : (bound : ℕ) (es : List Event) (m : Stmt) → IsNoLoop m
          → going_with p bound (at_top m) old (world_of old.world es) ≡ onward p old (work p old) old.values bound (world_of old.world es)
      by_stmt bound es (while line e d) h = absurd h
      by_stmt bound es (do_while line d e) h = absurd h
      by_stmt bound es (for line first e step d) h = absurd h
      by_stmt bound es m h = refl

  -- ---- places

  pub held_taken : {E : Type 0} (l : Place) (r : Result Did E) (new : Run) (a : ℕ) (us : List ℕ) → CanTake at old (does (hold l))
      → a ≡ top_of old.values → us ≡ below old.values
      → IfOk r (Steps p (held at l a (record old { values = us })) (record old { values = us }) new)
      → OnOk r (Frames (record old { values = us }) new) → IfOk r IsFraming → IfOk r (Takes at old (does (hold l)) new)
  held_taken l (Ok d) new a us can top under steps frame framing =
      frame_taken at old new (does (hold l)) can (held at l a (record old { values = us })) d steps
      (λ bound es. λ i. (fetch (located (setting_at (program_view p) bound (current_view (types_of p) (sym can.here i))) l (sym top i))
      >>= (λ v. onward p old (work p old) (v ∷ sym under i) bound)) (world_of old.world es))
      frame.tasks frame.current frame.budgets framing
  held_taken l (Err x) new a us can top under steps frame framing = framing

  pub held_above_taken : {E : Type 0} (l : Place) (r : Result Did E) (new : Run) (a : ℕ) → CanTake at old (does (hold_above l))
      → a ≡ top_of old.values → IfOk r (Steps p (held at l a old) old new)
      → OnOk r (Frames old new) → IfOk r IsFraming → IfOk r (Takes at old (does (hold_above l)) new)
  held_above_taken l (Ok d) new a can top steps frame framing =
      frame_taken at old new (does (hold_above l)) can (held at l a old) d steps
      (λ bound es. λ i. (fetch (located (setting_at (program_view p) bound (current_view (types_of p) (sym can.here i))) l (sym top i))
      >>= (λ v. onward p old (work p old) (v ∷ old.values) bound)) (world_of old.world es))
      frame.tasks frame.current frame.budgets framing
  held_above_taken l (Err x) new a can top steps frame framing = framing

  -- ---- initializers

  pub none_initialized : CanTake at old (does (initialize_all [])) → Takes at old (does (initialize_all [])) old did.Went
  none_initialized can =
      went_taken at old old (does (initialize_all [])) can refl refl refl refl
      (λ bound es. none_initial (program_view p) bound (work p old) c old.values (world_of old.world es))

  pub initialized : (l : LocalItem) (rest : List LocalItem) (tasks : Tasks) (us : List ℕ) → CanTake at old (does (initialize_all (l ∷ rest)))
      → ((bound : ℕ) → us ≡ initial_stack (setting_of bound at) l old.world.locals old.values)
      → tasks_view (types_of p) (pending tasks) ≡ initial_plan l ++ does (initialize_all rest) ∷ work p old
      → Takes at old (does (initialize_all (l ∷ rest))) (after at old tasks us) did.Went
  initialized l rest tasks us can stack puts =
      let plan = initial_plan l ++ does (initialize_all rest) ∷ [] in
      let joined : plan ++ work p old ≡ initial_plan l ++ does (initialize_all rest) ∷ work p old = append_assoc (initial_plan l) (does (initialize_all rest) ∷ []) (work p old) in
      let runs = first_local_can_run l rest can.task in
      let none : leaves_of (plan ++ work p old) ≡ leaves_of (work p old) =
      ap leaves_of joined ∙ initial_leaves l (does (initialize_all rest) ∷ work p old) ∙ (omega arith) in
      let less : work_of plan < task_work (does (initialize_all (l ∷ rest))) =
      omega (arith, work_of_both (initial_plan l) (does (initialize_all rest) ∷ []), initial_weighs l rest) in
      only_plan_taken at old (after at old tasks us) (does (initialize_all (l ∷ rest))) can plan us (puts ∙ sym joined) refl refl refl
      (all_can_run (initial_plan l) (does (initialize_all rest) ∷ []) runs.0 (runs.1, tt)) none less
      (λ bound es. initial_keeps (program_view p) bound (work p old) c old.values rest l (world_of old.world es)
      ∙ (λ i. onward p old (sym joined i) (initial_stack (setting_at (program_view p) bound (current_view (types_of p) (sym can.here i))) l old.world.locals old.values) bound (world_of old.world es))
      ∙ ap (λ vs. onward p old (plan ++ work p old) vs bound (world_of old.world es)) (sym (stack bound)))

  pub no_cells_given : (n : ℕ) → CanTake at old (does (give_cells n [])) → Takes at old (does (give_cells n [])) old did.Went
  no_cells_given n can =
      went_taken at old old (does (give_cells n [])) can refl refl refl refl
      (λ bound es. no_cells (program_view p) bound (work p old) c old.values n (world_of old.world es))

  pub cells_taken : (n : ℕ) (x : Cell) (rest : List Cell) (tasks : Tasks) (us : List ℕ) → CanTake at old (does (give_cells n (x ∷ rest)))
      → us ≡ slice_index old.world.locals n ∷ old.values
      → tasks_view (types_of p) (pending tasks) ≡ cell_plan n x ++ does (give_cells n rest) ∷ work p old
      → Takes at old (does (give_cells n (x ∷ rest))) (after at old tasks us) did.Went
  cells_taken n x rest tasks us can stack puts =
      let plan = cell_plan n x ++ does (give_cells n rest) ∷ [] in
      let runs = cell_can_run n x rest can.task in
      let less : work_of plan < task_work (does (give_cells n (x ∷ rest))) =
      omega (arith, work_of_both (cell_plan n x) (does (give_cells n rest) ∷ []), cell_weighs n x rest) in
      only_plan_taken at old (after at old tasks us) (does (give_cells n (x ∷ rest))) can plan us puts refl refl refl
      (all_can_run (cell_plan n x) (does (give_cells n rest) ∷ []) runs.0 (runs.1, tt)) (leave_of_others plan (work p old) refl) less
      (λ bound es. cells_keep (program_view p) bound (work p old) c old.values n x rest (world_of old.world es)
      ∙ ap (λ vs. onward p old (plan ++ work p old) vs bound (world_of old.world es)) (sym stack))
