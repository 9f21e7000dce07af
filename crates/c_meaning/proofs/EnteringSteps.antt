-- A function that is entered stands before the pending work, and is left for it.
use Rattle.std.proofs.Common.{◌≡◌, ℕ, suc, ◌+◌, ◌-◌, ◌^◌, ◌<◌, ◌≤◌, List, ◌∷◌, length, Some, None, Result, Ok, Err, sym, subst, ap, ◌∙◌, arith}
use Rattle.std.specs.Prelude.{IfOk, OnOk, replicate}
use Rattle.srmt_base.specs.declared.budgets.Budgets.{Budgets}
use Rattle.srmt_base.specs.declared.event.Event.{Event}
use Rattle.srmt_base.specs.declared.part.Part.{Part}
use Rattle.srmt_base.specs.declared.trap.SourceEnd.{SourceEnd}
use Rattle.srmt_base.specs.declared.trap.SourceEnd.TheVariants.{Trap as TrapEnd}
use Rattle.srmt_base.specs.declared.trap.Trap.TheVariants.{NotAFunction}
use Rattle.srmt_base.specs.Budgets.{enter_of}
use Rattle.c_types.specs.declared.type_ref.TypeRef.{TypeRef}
use Rattle.c_types.specs.Types.{CType}
use Rattle.c_typed.specs.declared.program.TypedProgram.{TypedProgram}
use Rattle.c_typed.specs.declared.statement.BlockItem.{BlockItem}
use Rattle.c_typed.specs.Statements.{Function}
use Rattle.c_typed.specs.StatementViews.{function_view, program_view}
use Rattle.source_meaning.specs.World.{Outcome, Gives, Ends, Doing, and_then, ◌>>◌, becomes, spends}
use Rattle.source_meaning.specs.Places.{Setting, function_at, part_of_function, all_begin}
use Rattle.source_meaning.specs.Calls.{parameters_begin}
use Rattle.source_meaning.specs.Sound.{CanRun, FunctionCanRun}
use Rattle.source_meaning.specs.Statements.{normal, locals_of}
use Rattle.c_meaning.specs.declared.run.Did.{Did}
use Rattle.c_meaning.specs.declared.run.Did.TheVariants as did
use Rattle.c_meaning.specs.declared.run.Run.{Run}
use Rattle.c_meaning.specs.declared.setting.At.{At}
use Rattle.c_meaning.specs.declared.store.Stored.{Stored}
use Rattle.c_meaning.specs.declared.store.Trapped.{Trapped}
use Rattle.c_meaning.specs.Entering.{TakesOne, HasBody, IsEntered, body_tasks, bodied, called}
use Rattle.c_meaning.specs.Pending.{Task, Current, execute_items, end_block, leave, setting_at, goes}
use Rattle.c_meaning.specs.Runs.{types_of, setting_of, world_of, going, rest_of, LeavesRest, Steps, IsSound, Falls, turns_of, depths_of}
use Rattle.c_meaning.specs.Sound.{AllCanRun, IsReady, leaves_of}
use Rattle.c_meaning.specs.Stack.{pending}
use Rattle.c_meaning.specs.TaskViews.{current_view, tasks_view, items_view}
use Rattle.c_meaning.proofs.CallPlans.{call_enters, call_fails}
use Rattle.c_meaning.proofs.FunctionsAt.{body_items, view_line, view_locals}

-- what was still to be done may be anything that comes to the same
rests-same : (p : TypedProgram) (bound : ℕ) (before after : List Event → Outcome ⊥) (run : Run) (d : Did) → ((es : List Event) → before es ≡ after es)
    → LeavesRest p bound after run d → LeavesRest p bound before run d
rests-same p bound before after run did.Went same h = λ es. same es ∙ h es
rests-same p bound before after run did.Turned same h = λ es. same es ∙ h es
rests-same p bound before after run (did.Told event) same h = λ es. same es ∙ h es
rests-same p bound before after run (did.Trapped t) same h = λ es. same es ∙ h es
rests-same p bound before after run (did.Exited v) same h = λ es. same es ∙ h es

-- at: the function that is entered
module _ (at : At) where
  abbrev p : TypedProgram
  p = at.program.now

  abbrev types : TypeRef → CType
  types = types_of p

  abbrev f : Function
  f = function_view types at.current.function.now

  module _ (line number : ℕ) (arguments : List ℕ) (old : Run) where
    abbrev ts : List Task
    ts = tasks_view types (pending old.tasks)

    abbrev caller : Current
    caller = current_view types old.current

    -- the callee in a part
    abbrev callee_in : Part → Current
    callee_in part = record { part = part; function = f }

    -- what follows the entry
    abbrev begun_in : Part → ℕ → List ℕ → Doing ⊥
    begun_in part bound locals =
        becomes (λ u. record u { locals = replicate (length f.locals) 0 })
        >> (parameters_begin (setting_at (program_view p) bound (callee_in part)) 0 arguments
        >> (all_begin (setting_at (program_view p) bound (callee_in part)) (locals_of f.body)
        >> goes (program_view p) bound (execute_items f.body ∷ end_block f.body ∷ leave caller locals ∷ ts) (callee_in part) old.values normal))

    pub none-steps : function_at (program_view p) number ≡ None → (bound : ℕ) → turns_of old.world.budgets ≤ bound → (es : List Event)
        → called p line number arguments old bound (world_of old.world es) ≡ Ends (TrapEnd NotAFunction line) es
    none-steps none bound low es =
        call_fails (program_view p) bound line number arguments (λ v. going p bound old (v ∷ old.values) normal) (world_of old.world es) none low

    module _ (found : function_at (program_view p) number ≡ Some f) (part-is : at.current.part ≡ part_of_function (program_view p) number) where
      enters : (o : Outcome (Unit {0})) (bound : ℕ) → turns_of old.world.budgets ≤ bound → (es : List Event)
          → spends at.current.function.now.line (enter_of at.current.part) (world_of old.world es) ≡ o
          → called p line number arguments old bound (world_of old.world es) ≡ and_then o (λ _. begun_in at.current.part bound old.world.locals)
      enters o bound low es spent =
          call_enters (program_view p) bound ts caller old.values number f line arguments (world_of old.world es) found low
          ∙ ap (λ (part : Part). (spends f.line (enter_of part) >> begun_in part bound old.world.locals) (world_of old.world es)) (sym part-is)
          ∙ ap (λ (l : ℕ). (spends l (enter_of at.current.part) >> begun_in at.current.part bound old.world.locals) (world_of old.world es))
          (view_line types at.current.function.now)
          ∙ ap (λ (q : Outcome (Unit {0})). and_then q (λ _. begun_in at.current.part bound old.world.locals)) spent

      pub enter-fails : (t : Trapped) (bound : ℕ) → turns_of old.world.budgets ≤ bound → (es : List Event)
          → spends at.current.function.now.line (enter_of at.current.part) (world_of old.world es) ≡ Ends (TrapEnd t.trap t.line) es
          → called p line number arguments old bound (world_of old.world es) ≡ Ends (TrapEnd t.trap t.line) es
      enter-fails t bound low es spent = enters (Ends (TrapEnd t.trap t.line) es) bound low es spent

      module _ (w : Stored)
          (spent : (es : List Event) → spends at.current.function.now.line (enter_of at.current.part) (world_of old.world es) ≡ Gives tt (world_of w es))
          (takes : TakesOne old.world.budgets w.budgets) (same : w.locals ≡ old.world.locals) where
        -- the run where its entry is taken
        abbrev mid : Run
        mid = record old { world = w }

        enters-body : (bound : ℕ) → turns_of old.world.budgets ≤ bound → (es : List Event)
            → called p line number arguments old bound (world_of old.world es) ≡ bodied at arguments mid bound (world_of w es)
        enters-body bound low es =
            enters (Gives tt (world_of w es)) bound low es (spent es)
            ∙ ap (λ (locals : List ℕ). begun_in at.current.part bound locals (world_of w es)) (sym same)

        enter-step : (new : Run) (d : Did) → Steps p (bodied at arguments mid) mid new d → Steps p (called p line number arguments old) old new d
        enter-step new d steps bound low =
            let turns : suc (turns_of w.budgets) ≡ turns_of old.world.budgets = takes.turns in
            let low-now : turns_of w.budgets ≤ bound = omega arith in
            rests-same p bound _ _ new d (λ es. enters-body bound low es) (steps bound low-now)

        pub enter-steps : {E : Type 0} (r : Result Did E) (new : Run) → IfOk r (Steps p (bodied at arguments mid) mid new)
            → IfOk r (Steps p (called p line number arguments old) old new)
        enter-steps (Ok d) new steps = enter-step new d steps
        enter-steps (Err e) new steps = steps

        enter-fall : (new : Run) (d : Did) → new.world.budgets ≡ w.budgets → IsEntered d → Falls p 0 old new d
        enter-fall new did.Went same-now is = absurd is
        enter-fall new (did.Told event) same-now is = absurd is
        enter-fall new did.Turned same-now is = ap (λ (b : Budgets). suc (turns_of b)) same-now ∙ takes.turns
        enter-fall new (did.Trapped t) same-now is = tt
        enter-fall new (did.Exited v) same-now is = tt

        pub enter-falls : {E : Type 0} (r : Result Did E) (new : Run) → OnOk r (new.world.budgets ≡ w.budgets) → IfOk r IsEntered → IfOk r (Falls p 0 old new)
        enter-falls (Ok d) new same-now is = enter-fall new d same-now is
        enter-falls (Err e) new same-now is = is

        module _ (can : CanRun (program_view p)) (sound : IsSound p old) where
          pub ready : FunctionCanRun f
          ready = can.functions number f found

          body-can : AllCanRun (body_tasks at mid)
          body-can = (ready.body, (tt, (sound.current, sound.tasks)))

          enter-is-sound : (new : Run) → new.world.budgets ≡ w.budgets → HasBody at mid new → IsSound p new
          enter-is-sound new same-now has = record {
            tasks = subst AllCanRun (sym has.tasks) body-can;
            current = subst (λ c. IsReady (current_view types c)) (sym has.current) ready;
            depths =
                let depths-now : suc (depths_of w.budgets) ≡ depths_of old.world.budgets = takes.depths in
                let low : depths_of old.world.budgets + leaves_of ts < 2 ^ 32 - 1 = sound.depths in
                let low-now : depths_of w.budgets + leaves_of (body_tasks at mid) < 2 ^ 32 - 1 = omega arith in
                subst (λ (b : Budgets). depths_of b + leaves_of (tasks_view types (pending new.tasks)) < 2 ^ 32 - 1) (sym same-now)
                (subst (λ (us : List Task). depths_of w.budgets + leaves_of us < 2 ^ 32 - 1) (sym has.tasks) low-now);
          }

          pub enter-sound : {E : Type 0} (r : Result Did E) (new : Run) → OnOk r (new.world.budgets ≡ w.budgets) → OnOk r (HasBody at mid new)
              → OnOk r (IsSound p new)
          enter-sound (Ok d) new same-now has = enter-is-sound new same-now has
          enter-sound (Err e) new same-now has = has

  -- ---- the body begins

  module _ (arguments : List ℕ) (old mid : Run) (has : HasBody at old mid)
      (world-is : mid.world ≡ record (old.world) { locals = replicate (length at.current.function.now.locals) 0 }) where
    abbrev s : ℕ → Setting
    s bound = setting_of bound at

    abbrev last : ℕ → Doing ⊥
    last bound = goes (program_view p) bound (body_tasks at old) (current_view types at.current) old.values normal

    abbrev from_parameters : ℕ → Doing ⊥
    from_parameters bound = parameters_begin (s bound) 0 arguments >> (all_begin (s bound) (locals_of f.body) >> last bound)

    begins : (bound : ℕ) (es : List Event) → bodied at arguments old bound (world_of old.world es) ≡ from_parameters bound (world_of mid.world es)
    begins bound es =
        ap (λ (n : ℕ). from_parameters bound (world_of (record (old.world) { locals = replicate n 0 }) es)) (view_locals types at.current.function.now)
        ∙ ap (λ (w : Stored). from_parameters bound (world_of w es)) (sym world-is)

    parameters-give : (bound : ℕ) (es : List Event) (o : Outcome (Unit {0})) → parameters_begin (s bound) 0 arguments (world_of mid.world es) ≡ o
        → bodied at arguments old bound (world_of old.world es) ≡ and_then o (λ _. all_begin (s bound) (locals_of f.body) >> last bound)
    parameters-give bound es o gives =
        begins bound es ∙ ap (λ (q : Outcome (Unit {0})). and_then q (λ _. all_begin (s bound) (locals_of f.body) >> last bound)) gives

    pub parameters-fail : (bound : ℕ) (es : List Event) (e : SourceEnd) → parameters_begin (s bound) 0 arguments (world_of mid.world es) ≡ Ends e es
        → bodied at arguments old bound (world_of old.world es) ≡ Ends e es
    parameters-fail bound es e gives = parameters-give bound es (Ends e es) gives

    module _ (u : Stored) (items : List BlockItem) (items-are : items ≡ at.current.function.now.body.items) (bound : ℕ) (es : List Event)
        (gives : parameters_begin (s bound) 0 arguments (world_of mid.world es) ≡ Gives tt (world_of u es)) where
      locals-give : (o : Outcome (Unit {0})) → all_begin (s bound) (locals_of (items_view types items)) (world_of u es) ≡ o
          → bodied at arguments old bound (world_of old.world es) ≡ and_then o (λ _. last bound)
      locals-give o begun =
          parameters-give bound es (Gives tt (world_of u es)) gives
          ∙ ap (λ b. (all_begin (s bound) (locals_of b) >> last bound) (world_of u es))
          (sym (ap (items_view types) items-are ∙ body_items types at.current.function.now))
          ∙ ap (λ (q : Outcome (Unit {0})). and_then q (λ _. last bound)) begun

      pub locals-fail : (e : SourceEnd) → all_begin (s bound) (locals_of (items_view types items)) (world_of u es) ≡ Ends e es
          → bodied at arguments old bound (world_of old.world es) ≡ Ends e es
      locals-fail e begun = locals-give (Ends e es) begun

      pub body-starts : (w : Stored) → all_begin (s bound) (locals_of (items_view types items)) (world_of u es) ≡ Gives tt (world_of w es)
          → bodied at arguments old bound (world_of old.world es) ≡ rest_of p bound (record mid { world = w }) es
      body-starts w begun =
          let tasks-are = sym has.tasks in
          let current-is = sym has.current in
          let values-are = sym has.values in
          locals-give (Gives tt (world_of w es)) begun
          ∙ (λ i. goes (program_view p) bound (tasks-are i) (current_view types (current-is i)) (values-are i) normal (world_of w es))
