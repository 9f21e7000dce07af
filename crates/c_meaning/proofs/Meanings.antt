-- What comes of the call of `main` is the meaning of the program.
use Rattle.std.proofs.Common.{◌≡◌, ℕ, ◌+◌, ◌≤◌, List, [], ◌∷◌, refl, sym, ap, subst, ◌∙◌, Option, None, Result, Ok, Err, IfOk, OnOk, OnErr, arith}
use Rattle.srmt_base.specs.declared.event.Event.{Event}
use Rattle.srmt_base.specs.declared.limits.Limits.{Limits}
use Rattle.srmt_base.specs.declared.trap.SourceEnd.{SourceEnd}
use Rattle.srmt_base.specs.declared.trap.SourceEnd.TheVariants.{Trap as TrapEnd}
use Rattle.srmt_base.specs.declared.trap.Trap.TheVariants.{NotAFunction}
use Rattle.srmt_outside.specs.Told.{Appends, AppendsPrefix}
use Rattle.srmt_outside.proofs.Told.{AppendsPrefix-whole, AppendsPrefix-first}
use Rattle.c_typed.specs.declared.program.TypedProgram.{TypedProgram}
use Rattle.c_typed.specs.StatementViews.{program_view}
use Rattle.c_typed.specs.Statements.{Program}
use Rattle.source_meaning.specs.World.{Outcome, Gives, Ends, ◌>>=◌, exits}
use Rattle.source_meaning.specs.Places.{function_at, value_of_entity}
use Rattle.source_meaning.specs.Statements.{normal}
use Rattle.source_meaning.specs.Calls.{calls}
use Rattle.source_meaning.specs.Start.{started, Behaviour, behaviour_of, runs_main, means}
use Rattle.source_meaning.proofs.Associates.{then_same}
use Rattle.c_meaning.specs.declared.fault.MeaningFault.{MeaningFault}
use Rattle.c_meaning.specs.declared.run.Run.{Run}
use Rattle.c_meaning.specs.Ending.{call_of_main, EndsSo, BeginsSo, events_in, IsFirstOf, Ended, Stopped}
use Rattle.c_meaning.specs.Pending.{goes}
use Rattle.c_meaning.specs.Runs.{types_of, world_of, going}
use Rattle.c_meaning.specs.Starting.{IsStarted}
use Rattle.c_meaning.specs.TaskViews.{current_view, tasks_view}
use Rattle.c_meaning.proofs.CallPlans.{call_fails}

events_same : (o : Outcome ⊥) → events_in o ≡ (behaviour_of o).events
events_same (Gives nothing w) = absurd nothing
events_same (Ends end es) = refl

module _ (p : TypedProgram) (input : List ℕ) (limits : Limits) where
  abbrev program : Program
  program = program_view p

  abbrev whole : ℕ
  whole = limits.turns + limits.turns

  abbrev main : ℕ
  main = value_of_entity program program.main

  main_runs : (run : Run) → IsStarted p input limits run → call_of_main p main run whole [] ≡ runs_main program limits (started program input limits)
  main_runs run is =
      then_same (calls program whole 0 main []) (λ v. going p whole run (v ∷ run.values) normal) exits
      (λ v w. ap (λ ts. goes program whole ts (current_view (types_of p) run.current) (v ∷ run.values) normal w) (ap (tasks_view (types_of p)) is.tasks))
      (world_of run.world [])
      ∙ ap (λ w. (calls program whole 0 main [] >>= exits) w) is.world

  means_ends : (run : Run) (turns : ℕ) (end : SourceEnd) (told : List Event) → IsStarted p input limits run → turns ≤ whole
      → EndsSo (call_of_main p main run) turns end told → means program input limits ≡ record { events = told; end = end }
  unfolding means
  means_ends run turns end told is few ends = ap behaviour_of (sym (main_runs run is) ∙ ends whole few [])

  means_begins : (run : Run) (turns : ℕ) (told : List Event) → IsStarted p input limits run → turns ≤ whole
      → BeginsSo (call_of_main p main run) turns told → IsFirstOf told (means program input limits).events
  unfolding means
  means_begins run turns told is few begins =
      subst (IsFirstOf told) (ap events_in (main_runs run is) ∙ events_same (runs_main program limits (started program input limits))) (begins whole few [])

  -- a program without `main` stops at once
  pub means_nothing : function_at program main ≡ None → means program input limits ≡ record { events = []; end = TrapEnd NotAFunction 0 }
  unfolding means
  means_nothing none = ap behaviour_of (call_fails program whole 0 main [] exits (started program input limits) none (omega arith))

  -- how a run ended is how the meaning ends, and what was told is the first of it
  pub end_is : (run : Run) (turns : ℕ) (shown after : Option (List Event)) (r : Result SourceEnd MeaningFault) → IsStarted p input limits run → turns ≤ whole
      → IfOk r (Ended (call_of_main p main run) turns shown after) → IfOk r (λ end. end ≡ (means program input limits).end)
  end_is run turns shown after (Ok end) is few h = sym (ap (λ (b : Behaviour). b.end) (means_ends run turns end h.told is few h.rest))
  end_is run turns shown after (Err fault) is few h = tt

  pub events_are : (run : Run) (turns : ℕ) (shown after : Option (List Event)) (r : Result SourceEnd MeaningFault) → IsStarted p input limits run → turns ≤ whole
      → IfOk r (Ended (call_of_main p main run) turns shown after) → OnOk r (Appends shown after (means program input limits).events)
  events_are run turns shown after (Ok end) is few h =
      subst (Appends shown after) (sym (ap (λ (b : Behaviour). b.events) (means_ends run turns end h.told is few h.rest))) h.appends
  events_are run turns shown after (Err fault) is few h = tt

  pub events_begin : (run : Run) (turns : ℕ) (shown after : Option (List Event)) (r : Result SourceEnd MeaningFault) → IsStarted p input limits run → turns ≤ whole
      → OnErr r (Stopped (call_of_main p main run) turns shown after) → OnErr r (AppendsPrefix shown after (means program input limits).events)
  events_begin run turns shown after (Ok end) is few h = tt
  events_begin run turns shown after (Err fault) is few h =
      let first = means_begins run turns h.told is few h.first in
      subst (AppendsPrefix shown after) (sym first.1) (AppendsPrefix-first shown after h.told first.0 (AppendsPrefix-whole shown after h.told h.appends))
