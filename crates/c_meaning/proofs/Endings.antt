-- How what was told so far and what comes next are put together.
use Rattle.std.proofs.Common.{◌≡◌, ℕ, ◌≤◌, List, [], ◌∷◌, ◌++◌, sym, ap, subst, ◌∙◌, Option, Result, Ok, Err, IfOk, OnOk, OnErr, arith, append-nil}
use Rattle.std.proofs.lemmas.List.{append_assoc}
use Rattle.srmt_base.specs.declared.event.Event.{Event}
use Rattle.srmt_base.specs.declared.trap.SourceEnd.{SourceEnd}
use Rattle.srmt_outside.specs.Told.{Appends}
use Rattle.srmt_outside.proofs.Told.{Appends-nothing, Appends-both}
use Rattle.c_typed.specs.declared.program.TypedProgram.{TypedProgram}
use Rattle.c_typed.specs.StatementViews.{program_view}
use Rattle.source_meaning.specs.World.{Outcome, Gives, Ends}
use Rattle.source_meaning.specs.Statements.{normal}
use Rattle.source_meaning.specs.Calls.{calls}
use Rattle.source_meaning.proofs.Growing.{AddsTo, then_grows, calls_grow}
use Rattle.c_meaning.specs.declared.fault.MeaningFault.{MeaningFault}
use Rattle.c_meaning.specs.declared.fault.MeaningFault.TheVariants.{Write, Memory}
use Rattle.c_meaning.specs.declared.running.Next.{Next}
use Rattle.c_meaning.specs.declared.running.Next.TheVariants as next
use Rattle.c_meaning.specs.declared.run.Did.{Did}
use Rattle.c_meaning.specs.declared.run.Did.TheVariants as did
use Rattle.c_meaning.specs.declared.run.Run.{Run}
use Rattle.c_meaning.specs.Ending.{events_of, next_of, Faulted, Rest, rest_from, call_of_main, GoesOn, EndsSo, events_in, IsFirstOf, BeginsSo, Came, Ended, Stopped}
use Rattle.c_meaning.specs.Runs.{types_of, world_of, turns_of, going, rest_of, LeavesRest, Falls}
use Rattle.c_meaning.specs.Stack.{pending}
use Rattle.c_meaning.specs.TaskViews.{current_view, tasks_view}
use Rattle.c_meaning.proofs.GoingGrows.{goes_grows}

-- what a step came to, with the events that were told of it
pub came_of : (p : TypedProgram) (before : Rest) (work : ℕ) (old new : Run) (shown after : Option (List Event)) (d : Did)
    → ((bound : ℕ) → turns_of old.world.budgets ≤ bound → LeavesRest p bound (before bound) new d) → Falls p work old new d
    → Appends shown after (events_of d) → Came p before work (turns_of old.world.budgets) new shown after (next_of d)
came_of p before work old new shown after did.Went h falls told =
    record { told = []; appends = told; rest = λ bound low es. h bound low es ∙ ap (rest_of p bound new) (sym (append-nil es)); less = falls }
came_of p before work old new shown after did.Turned h falls told =
    record { told = []; appends = told; rest = λ bound low es. h bound low es ∙ ap (rest_of p bound new) (sym (append-nil es)); less = falls }
came_of p before work old new shown after (did.Told event) h falls told =
    record { told = event ∷ []; appends = told; rest = h; less = falls }
came_of p before work old new shown after (did.Trapped t) h falls told =
    record { told = []; appends = told; rest = λ bound low es. h bound low es ∙ ap (Ends _) (sym (append-nil es)); less = tt }
came_of p before work old new shown after (did.Exited v) h falls told = record { told = _; appends = told; rest = h; less = tt }

pub goes_from : (p : TypedProgram) (run : Run) (turns : ℕ) → GoesOn p (rest_from p run) turns run []
goes_from p run turns bound low es = ap (rest_of p bound run) (sym (append-nil es))

pub goes_goes : (p : TypedProgram) (before : Rest) (turns : ℕ) (between new : Run) (first second : List Event)
    → GoesOn p before turns between first → turns_of between.world.budgets ≤ turns
    → GoesOn p (rest_from p between) (turns_of between.world.budgets) new second → GoesOn p before turns new (first ++ second)
goes_goes p before turns between new first second one fewer two bound low es =
    one bound low es ∙ two bound (omega (arith, low, fewer)) (es ++ first) ∙ ap (rest_of p bound new) (append_assoc es first second)

pub goes_ends : (p : TypedProgram) (before : Rest) (turns : ℕ) (between : Run) (end : SourceEnd) (first second : List Event)
    → GoesOn p before turns between first → turns_of between.world.budgets ≤ turns
    → EndsSo (rest_from p between) (turns_of between.world.budgets) end second → EndsSo before turns end (first ++ second)
goes_ends p before turns between end first second one fewer two bound low es =
    one bound low es ∙ two bound (omega (arith, low, fewer)) (es ++ first) ∙ ap (Ends end) (append_assoc es first second)

outcome_begins : (es : List Event) (o : Outcome ⊥) → AddsTo es o → IsFirstOf es (events_in o)
outcome_begins es (Gives nothing w) h = absurd nothing
outcome_begins es (Ends end fs) h = h

-- what is still to come begins with what was before
pub rest_begins : (p : TypedProgram) (bound : ℕ) (run : Run) (es : List Event) → IsFirstOf es (events_in (rest_of p bound run es))
rest_begins p bound run es =
    outcome_begins es (rest_of p bound run es)
    (goes_grows (program_view p) bound (tasks_view (types_of p) (pending run.tasks)) (current_view (types_of p) run.current) run.values normal
    (world_of run.world es))

pub goes_begins : (p : TypedProgram) (before : Rest) (turns : ℕ) (between : Run) (told : List Event)
    → GoesOn p before turns between told → BeginsSo before turns told
goes_begins p before turns between told one bound low es =
    subst (λ (o : Outcome ⊥). IsFirstOf (es ++ told) (events_in o)) (sym (one bound low es)) (rest_begins p bound between (es ++ told))

pub goes_stops : (p : TypedProgram) (before : Rest) (turns : ℕ) (between : Run) (first second : List Event)
    → GoesOn p before turns between first → turns_of between.world.budgets ≤ turns
    → BeginsSo (rest_from p between) (turns_of between.world.budgets) second → BeginsSo before turns (first ++ second)
goes_stops p before turns between first second one fewer two bound low es =
    subst (λ (o : Outcome ⊥). IsFirstOf (es ++ (first ++ second)) (events_in o)) (sym (one bound low es))
    (subst (λ fs. IsFirstOf fs (events_in (rest_of p bound between (es ++ first)))) (append_assoc es first second)
    (two bound (omega (arith, low, fewer)) (es ++ first)))

-- the same where telling may have failed
pub came_if : (p : TypedProgram) (before : Rest) (work : ℕ) (old new : Run) (shown after : Option (List Event)) (d : Did) (r : Result Next MeaningFault)
    → ((bound : ℕ) → turns_of old.world.budgets ≤ bound → LeavesRest p bound (before bound) new d) → Falls p work old new d
    → IfOk r (λ n. n ≡ next_of d) → OnOk r (Appends shown after (events_of d)) → IfOk r (Came p before work (turns_of old.world.budgets) new shown after)
came_if p before work old new shown after d (Ok n) h falls is told =
    subst (Came p before work (turns_of old.world.budgets) new shown after) (sym is) (came_of p before work old new shown after d h falls told)
came_if p before work old new shown after d (Err fault) h falls is told = tt

-- what was told so far, and what a step adds to it
pub record SoFar (p : TypedProgram) (before : Rest) (turns : ℕ) (now : Run) (shown after : Option (List Event)) : Type 0 where
  pub told : List Event
  pub appends : Appends shown after told
  pub rest : GoesOn p before turns now told
  pub fewer : turns_of now.world.budgets ≤ turns

pub so_far_at_first : (p : TypedProgram) (run : Run) (shown : Option (List Event)) → SoFar p (rest_from p run) (turns_of run.world.budgets) run shown shown
so_far_at_first p run shown =
    record { told = []; appends = Appends-nothing shown; rest = goes_from p run (turns_of run.world.budgets); fewer = omega arith }

pub so_far_on : (p : TypedProgram) (before : Rest) (turns : ℕ) (between new : Run) (shown middle after : Option (List Event)) (more : List Event)
    → SoFar p before turns between shown middle → Appends middle after more
    → GoesOn p (rest_from p between) (turns_of between.world.budgets) new more → turns_of new.world.budgets ≤ turns_of between.world.budgets
    → SoFar p before turns new shown after
so_far_on p before turns between new shown middle after more s appends goes fewer =
    record {
      told = s.told ++ more;
      appends = Appends-both shown middle after s.told more s.appends appends;
      rest = goes_goes p before turns between new s.told more s.rest s.fewer goes;
      fewer = omega (arith, fewer, s.fewer);
    }

pub so_far_ends : (p : TypedProgram) (before : Rest) (turns : ℕ) (between : Run) (shown middle after : Option (List Event)) (more : List Event) (end : SourceEnd)
    → SoFar p before turns between shown middle → Appends middle after more
    → EndsSo (rest_from p between) (turns_of between.world.budgets) end more → Ended before turns shown after end
so_far_ends p before turns between shown middle after more end s appends ends =
    record {
      told = s.told ++ more;
      appends = Appends-both shown middle after s.told more s.appends appends;
      rest = goes_ends p before turns between end s.told more s.rest s.fewer ends;
    }

pub so_far_stops : (p : TypedProgram) (before : Rest) (turns : ℕ) (between : Run) (shown middle : Option (List Event))
    → SoFar p before turns between shown middle → Stopped before turns shown middle
so_far_stops p before turns between shown middle s =
    record { told = s.told; appends = s.appends; first = goes_begins p before turns between s.told s.rest }

pub so_far_stopped : (p : TypedProgram) (before : Rest) (turns : ℕ) (between : Run) (shown middle after : Option (List Event))
    → SoFar p before turns between shown middle → Stopped (rest_from p between) (turns_of between.world.budgets) middle after
    → Stopped before turns shown after
so_far_stopped p before turns between shown middle after s t =
    record {
      told = s.told ++ t.told;
      appends = Appends-both shown middle after s.told t.told s.appends t.appends;
      first = goes_stops p before turns between s.told t.told s.rest s.fewer t.first;
    }

-- a fault tells the same whatever was to be answered
pub same_fault : (A B : Type 0) (fault : MeaningFault) (before after : ℕ) → Faulted {A = A} (Err fault) before after → Faulted {A = B} (Err fault) before after
same_fault A B Write before after h = h
same_fault A B Memory before after h = h

-- what comes of the call of `main` begins with what was before
pub call_begins : (p : TypedProgram) (number turns : ℕ) (run : Run) → BeginsSo (call_of_main p number run) turns []
call_begins p number turns run bound low es =
    subst (λ fs. IsFirstOf fs (events_in (call_of_main p number run bound es))) (sym (append-nil es))
    (outcome_begins es (call_of_main p number run bound es)
    (then_grows (calls (program_view p) bound 0 number []) (λ v. going p bound run (v ∷ run.values) normal)
    (calls_grow (program_view p) bound 0 number [])
    (λ v. goes_grows (program_view p) bound (tasks_view (types_of p) (pending run.tasks)) (current_view (types_of p) run.current) (v ∷ run.values) normal)
    (world_of run.world es)))

pub call_stops : (p : TypedProgram) (number turns : ℕ) (run : Run) (shown : Option (List Event)) → Stopped (call_of_main p number run) turns shown shown
call_stops p number turns run shown = record { told = []; appends = Appends-nothing shown; first = call_begins p number turns run }

pub so_far_of : (p : TypedProgram) (before : Rest) (work turns : ℕ) (new : Run) (shown after : Option (List Event)) → Came p before work turns new shown after next.Turns
    → SoFar p before turns new shown after
so_far_of p before work turns new shown after came =
    let spent = came.less in
    record { told = came.told; appends = came.appends; rest = came.rest; fewer = omega (arith, spent) }

pub ended_if : (p : TypedProgram) (before : Rest) (turns : ℕ) (between : Run) (shown middle after : Option (List Event)) (r : Result SourceEnd MeaningFault)
    → SoFar p before turns between shown middle → IfOk r (Ended (rest_from p between) (turns_of between.world.budgets) middle after)
    → IfOk r (Ended before turns shown after)
ended_if p before turns between shown middle after (Ok end) s h = so_far_ends p before turns between shown middle after h.told end s h.appends h.rest
ended_if p before turns between shown middle after (Err fault) s h = tt

pub stopped_if : (p : TypedProgram) (before : Rest) (turns : ℕ) (between : Run) (shown middle after : Option (List Event)) (r : Result SourceEnd MeaningFault)
    → SoFar p before turns between shown middle → OnErr r (Stopped (rest_from p between) (turns_of between.world.budgets) middle after)
    → OnErr r (Stopped before turns shown after)
stopped_if p before turns between shown middle after (Ok end) s h = tt
stopped_if p before turns between shown middle after (Err fault) s h = so_far_stopped p before turns between shown middle after s h
