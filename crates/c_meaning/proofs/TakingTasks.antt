-- What the steps owe that give a local its value, drop one, or end locals.
use Rattle.std.proofs.Common.{◌≡◌, ℕ, ◌+◌, List, Err, Option, Some, None, refl, sym, ap, ◌∙◌, subst}
use Rattle.srmt_base.specs.declared.event.Event.{Event}
use Rattle.srmt_base.specs.declared.trap.SourceEnd.TheVariants.{Trap as TrapEnd}
use Rattle.srmt_base.specs.declared.trap.Trap.{Trap}
use Rattle.srmt_base.specs.Memory.{write_of}
use Rattle.c_typed.specs.declared.program.LocalRow.{LocalRow as CodeRow}
use Rattle.c_typed.specs.declared.program.TypedProgram.{TypedProgram}
use Rattle.c_typed.specs.StatementViews.{program_view, row_view}
use Rattle.c_typed.specs.Statements.{LocalItem, Items}
use Rattle.c_typed.specs.Typed.{place, local}
use Rattle.c_typed.specs.Views.{qualified_from}
use Rattle.source_meaning.specs.Places.{Location, row_of, store, all_end}
use Rattle.source_meaning.specs.Statements.{locals_of, numbers_of}
use Rattle.source_meaning.specs.World.{Gives, Ends, and_then, ◌>>◌, computed, becomes, remembers}
use Rattle.c_meaning.specs.declared.access.Location.{Location as CodeLocation}
use Rattle.c_meaning.specs.declared.run.Did.{Did}
use Rattle.c_meaning.specs.declared.run.Did.TheVariants as did
use Rattle.c_meaning.specs.declared.run.Run.{Run}
use Rattle.c_meaning.specs.declared.setting.At.{At}
use Rattle.c_meaning.specs.declared.store.Stored.{Stored}
use Rattle.c_meaning.specs.declared.store.Trapped.{Trapped}
use Rattle.c_meaning.specs.declared.task.Current.{Current as CodeCurrent}
use Rattle.c_meaning.specs.Access.{local_in}
use Rattle.c_meaning.specs.Owes.{CanTake, Takes}
use Rattle.c_meaning.specs.Pending.{does, forget, give, give_cell, end_block, end_locals, top_of, below, located, setting_at}
use Rattle.c_meaning.specs.Runs.{types_of, setting_of, world_of, with_event, turns_of, depths_of, going_with, location_view, Steps}
use Rattle.c_meaning.specs.TaskViews.{current_view}
use Rattle.c_meaning.specs.Told.{did_of, IsFraming}
use Rattle.c_meaning.proofs.Taking.{work, onward, frame_taken, went_taken, trap_taken}

pub framing_of : (event : Option Event) → IsFraming (did_of event)
framing_of None = tt
framing_of (Some event) = tt

module _ (at : At) (old : Run) where
  abbrev p : TypedProgram
  p = at.program.now

  abbrev at_current : ℕ → CodeCurrent → ℕ → ℕ → Location
  at_current bound k n a =
      let s = setting_at (program_view p) bound (current_view (types_of p) k) in
      located s (place (row_of s n).line (row_of s n).type (local n)) a

  abbrev now : Stored → List ℕ → Run
  now w us = record old { world = w; values = us }

  -- a local takes the value on the stack, above its address
  module _ (n : ℕ) (r : CodeRow) (found : CodeLocation) (a v : ℕ) (us : List ℕ) (w : Stored) (can : CanTake at old (does (give n)))
      (row : (bound : ℕ) → row_view (types_of p) r ≡ row_of (setting_of bound at) n)
      (is : (bound : ℕ) → location_view found ≡ local_in (setting_of bound at) n (qualified_from (types_of p) r.ty) r.line a)
      (value_top : v ≡ top_of old.values) (address_next : a ≡ top_of (below old.values)) (under : us ≡ below (below old.values))
      (budgets : w.budgets ≡ old.world.budgets) where
    found_is : (bound : ℕ) → location_view found ≡ at_current bound at.current n a
    found_is bound = is bound ∙ (λ i. local_in (setting_of bound at) n (row bound i).type (row bound i).line a)

    give_is : (bound : ℕ) (es : List Event)
        → going_with p bound (does (give n)) old (world_of old.world es)
        ≡ and_then (store (location_view found) v (world_of old.world es)) (λ done. onward p old (work p old) us bound)
    give_is bound es =
        (λ i. and_then (store (at_current bound (sym can.here i) n (sym address_next i)) (sym value_top i) (world_of old.world es))
        (λ done. onward p old (work p old) (sym under i) bound))
        ∙ ap (λ l. and_then (store l v (world_of old.world es)) (λ done. onward p old (work p old) us bound)) (sym (found_is bound))

    give_steps : (event : Option Event)
        → ((es : List Event) → store (location_view found) v (world_of old.world es) ≡ Gives tt (world_of w (with_event es event)))
        → Steps p (λ bound. going_with p bound (does (give n)) old) old (now w us) (did_of event)
    give_steps None makes bound low = λ es.
        give_is bound es ∙ ap (λ o. and_then o (λ done. onward p old (work p old) us bound)) (makes es)
    give_steps (Some event) makes bound low = λ es.
        give_is bound es ∙ ap (λ o. and_then o (λ done. onward p old (work p old) us bound)) (makes es)

    pub gave : (event : Option Event) (d : Did) → d ≡ did_of event
        → ((es : List Event) → store (location_view found) v (world_of old.world es) ≡ Gives tt (world_of w (with_event es event)))
        → Takes at old (does (give n)) (now w us) d
    gave event d told makes =
        subst (Takes at old (does (give n)) (now w us)) (sym told)
        (frame_taken at old (now w us) (does (give n)) can (λ bound. going_with p bound (does (give n)) old) (did_of event)
        (give_steps event makes) (λ bound es. refl) refl refl budgets (framing_of event))

    pub give_traps : (end : Trapped)
        → ((es : List Event) → store (location_view found) v (world_of old.world es) ≡ Ends (TrapEnd end.trap end.line) es)
        → Takes at old (does (give n)) (now w us) (did.Trapped end)
    give_traps end makes =
        trap_taken at old (now w us) (does (give n)) can end refl refl (ap depths_of budgets)
        (λ bound es low. give_is bound es ∙ ap (λ o. and_then o (λ done. onward p old (work p old) us bound)) (makes es))

  -- a cell of a local takes it
  module _ (n index : ℕ) (r : CodeRow) (a v : ℕ) (us : List ℕ) (w : Stored) (can : CanTake at old (does (give_cell n index)))
      (row : (bound : ℕ) → row_view (types_of p) r ≡ row_of (setting_of bound at) n)
      (value_top : v ≡ top_of old.values) (address_next : a ≡ top_of (below old.values))
      (budgets : w.budgets ≡ old.world.budgets) where
    pub cell_traps : (trap : Trap) (d : Did) → d ≡ did.Trapped (record { trap = trap; line = r.line })
        → write_of old.world.memory (a + index) v ≡ Err trap → Takes at old (does (give_cell n index)) (now w us) d
    cell_traps trap d told fails =
        subst (Takes at old (does (give_cell n index)) (now w us)) (sym told)
        (trap_taken at old (now w us) (does (give_cell n index)) can (record { trap = trap; line = r.line }) refl refl (ap depths_of budgets)
        (λ bound es low.
        (λ i. (remembers (row_of (setting_at (program_view p) bound (current_view (types_of p) (sym can.here i))) n).line
        (λ memory. write_of memory (sym address_next i + index) (sym value_top i)) >> onward p old (work p old) (below (below old.values)) bound) (world_of old.world es))
        ∙ (λ i. (remembers (sym (row bound) i).line (λ memory. write_of memory (a + index) v) >> onward p old (work p old) (below (below old.values)) bound) (world_of old.world es))
        ∙ ap (λ o. and_then (and_then (computed r.line o (world_of old.world es)) (λ memory. becomes (λ u. record u { memory = memory })))
        (λ done. onward p old (work p old) (below (below old.values)) bound)) fails))

  pub forgotten : (us : List ℕ) → CanTake at old (does forget) → us ≡ below old.values
      → Takes at old (does forget) (record old { values = us }) did.Went
  forgotten us can under =
      went_taken at old (record old { values = us }) (does forget) can refl refl refl refl
      (λ bound es. ap (λ vs. onward p old (work p old) vs bound (world_of old.world es)) (sym under))

  -- locals end
  pub block_ended : (items : Items) (w : Stored) → CanTake at old (end_block items)
      → ((bound : ℕ) (es : List Event) → all_end (setting_of bound at) (locals_of items) (world_of old.world es) ≡ Gives tt (world_of w es))
      → w.budgets ≡ old.world.budgets → Takes at old (end_block items) (record old { world = w }) did.Went
  block_ended items w can ends budgets =
      went_taken at old (record old { world = w }) (end_block items) can refl refl (ap turns_of budgets) (ap depths_of budgets)
      (λ bound es.
      (λ i. and_then (all_end (setting_at (program_view p) bound (current_view (types_of p) (sym can.here i))) (locals_of items) (world_of old.world es))
      (λ done. onward p old (work p old) old.values bound))
      ∙ ap (λ o. and_then o (λ done. onward p old (work p old) old.values bound)) (ends bound es))

  pub locals_ended : (locals : List LocalItem) (w : Stored) → CanTake at old (end_locals locals)
      → ((bound : ℕ) (es : List Event) → all_end (setting_of bound at) (numbers_of locals) (world_of old.world es) ≡ Gives tt (world_of w es))
      → w.budgets ≡ old.world.budgets → Takes at old (end_locals locals) (record old { world = w }) did.Went
  locals_ended locals w can ends budgets =
      went_taken at old (record old { world = w }) (end_locals locals) can refl refl (ap turns_of budgets) (ap depths_of budgets)
      (λ bound es.
      (λ i. and_then (all_end (setting_at (program_view p) bound (current_view (types_of p) (sym can.here i))) (numbers_of locals) (world_of old.world es))
      (λ done. onward p old (work p old) old.values bound))
      ∙ ap (λ o. and_then o (λ done. onward p old (work p old) old.values bound)) (ends bound es))
