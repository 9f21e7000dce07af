-- The leading side ends by a fault of the outlet only where the outlet fails.
use Rattle.std.proofs.Common.{◌≡◌, ◌≢◌, ℕ, Bool, true, false, List, [], ◌∷◌, ◌++◌, Option, Some, None, refl, sym, ap, ◌∙◌, subst}
use Rattle.srmt_base.specs.declared.side.Side.{Side}
use Rattle.srmt_base.specs.declared.side.Side.TheVariants.{Lead, Trail}
use Rattle.mid_code.specs.Classes.{SharedProgram}
use Rattle.mid_code.specs.declared.version.VersionOp.{VersionOp}
use Rattle.mid_code.specs.declared.version.VersionOp.TheVariants.{Copied, Await, Act}
use Rattle.mid_code.specs.declared.version.VersionLine.{VersionLine}
use Rattle.mid_code.specs.Versions.{operands_list}
use Rattle.world.specs.Requests.{Wants, Runs, Dies, Requests, Lost}
use Rattle.word_stream.specs.declared.request.Request.{Request}
use Rattle.word_stream.specs.declared.request.Request.TheVariants.{Put, Exit}
use Rattle.word_stream.specs.declared.request.Response.{Response}
use Rattle.word_stream.specs.Exchange.{ack_words}
use Rattle.world.specs.World.{WorldState, Asked, ask, Setting}
use Rattle.verdicts.specs.declared.thread_end.ThreadEnd.TheVariants.{WriteFault}
use Rattle.machine.specs.Side.{SideState, Meet, Plain, Got, Closed, Failed, Outcome, Went, Ended}
use Rattle.machine.specs.Steps.{side_op, takes_at, may_send_at, operands, wanted, performed}
use Rattle.machine.specs.Leading.{act_request, answered, acts, acts_by, lead_op, lead_at, lead_next}
use Rattle.machine.proofs.Trying.{awaits_fault}
use Rattle.machine.specs.Upset.{no_upsets}
use Rattle.pair_core.specs.Duo.{DuoState, opening_duo, View, view_of, Finds, Waits, Meets, finds_word, finds_room, is_crowded, finds_by, finds, turn_found, turn_at, turn_of, Entry, Scheduled, run_on, scheduled}
use Rattle.pair_core.specs.Laws.{NoneFails}

-- the step met an outlet that failed
abbrev Fails : Meet → Type 0
Fails meet = (written : ℕ) × (meet ≡ Failed written)

performed_clean : (wants : Wants) (s : SideState) → performed wants s ≡ Ended WriteFault → ⊥
performed_clean (Runs next) s h = cc
performed_clean (Dies words trap line) s h = cc
performed_clean (Requests request) s h = cc
performed_clean (Lost words) s h = cc

answered_clean : (q : Request) (r : Response) (s : SideState) → answered q r s ≡ Ended WriteFault → ⊥
answered_clean (Put site value) r s h = cc
answered_clean (Exit site value) r s h = cc

acts_fault : (meet : Meet) (q : Request) (asked : Asked) (s : SideState) (w : WorldState) → (acts meet q asked s w).outcome ≡ Ended WriteFault → Fails meet
acts_fault Plain q asked s w h = absurd (answered_clean q asked.response s h)
acts_fault (Got word) q asked s w h = absurd (cc)
acts_fault Closed q asked s w h = absurd (cc)
acts_fault (Failed written) q asked s w h = (written, refl)

by_fault : (q : Option Request) (s : SideState) (w : WorldState) (meet : Meet) → (acts_by q meet s w).outcome ≡ Ended WriteFault → Fails meet
by_fault None s w meet h = absurd (cc)
by_fault (Some q) s w meet h = acts_fault meet q (ask w q) s w h

op_fault : (program : SharedProgram) (op : VersionOp) (line : ℕ) (s : SideState) (w : WorldState) (meet : Meet) → (lead_op program op line s w meet).outcome ≡ Ended WriteFault → Fails meet
op_fault program (Copied mid) line s w meet h = absurd (performed_clean (wanted program mid line s) s h)
op_fault program (Await site args) line s w meet h = absurd (awaits_fault meet (ack_words site.0 (operands s (operands_list args))) s h)
op_fault program (Act site request target function args) line s w meet h = by_fault (act_request request site (operands s (operands_list args))) s w meet h
op_fault program _ line s w meet h = absurd (cc)

at_fault : (program : SharedProgram) (o : Option VersionLine) (s : SideState) (w : WorldState) (meet : Meet) → (lead_at program o s w meet).outcome ≡ Ended WriteFault → Fails meet
at_fault program None s w meet h = absurd (cc)
at_fault program (Some l) s w meet h = op_fault program l.op l.line s w meet h

pub lead_fault : (program : SharedProgram) (s : SideState) (w : WorldState) (meet : Meet) → (lead_next program s w meet).outcome ≡ Ended WriteFault → Fails meet
unfolding lead_next
lead_fault program s w meet h = at_fault program (side_op Lead program s) s w meet h

-- a step whose outlet does not fail meets none that fails
found_word : (over : Bool) (coming : List ℕ) (written : ℕ) (left : List ℕ) → finds_word over coming ≡ Meets (Failed written) left → ⊥
found_word over (word ∷ words) written left h = let e : Got word ≡ Failed written = cc in cc
found_word true [] written left h = let e : Closed ≡ Failed written = cc in cc
found_word false [] written left h = cc

found_room : (crowded : Bool) (coming : List ℕ) (written : ℕ) (left : List ℕ) → finds_room crowded Plain coming ≡ Meets (Failed written) left → ⊥
found_room true coming written left h = cc
found_room false coming written left h = let e : Plain ≡ Failed written = cc in cc

found_by : (taking sending : Bool) (view : View) (written : ℕ) (left : List ℕ) → finds_by taking sending view Plain ≡ Meets (Failed written) left → ⊥
found_by true sending view written left h = found_word view.peer_over view.coming written left h
found_by false sending view written left h = found_room (is_crowded sending view) view.coming written left h

module _ (program : SharedProgram) (duo : DuoState) (clean : duo.lead ≢ Ended WriteFault) where
  found_clean : (s : SideState) (f : Finds) → finds Lead program s duo.world None (view_of Lead duo) ≡ f → (turn_found f Lead program s duo).state.lead ≢ Ended WriteFault
  found_clean s Waits e h = clean h
  found_clean s (Meets meet left) e h =
      let fails = lead_fault program s duo.world meet h in
      found_by (takes_at (side_op Lead program s)) (may_send_at (side_op Lead program s)) (view_of Lead duo) fails.0 left (e ∙ ap (λ x. Meets x left) fails.1)

  lead_clean : (o : Outcome) → (turn_at o Lead program None duo).state.lead ≢ Ended WriteFault
  lead_clean (Went s) = found_clean s (finds Lead program s duo.world None (view_of Lead duo)) refl
  lead_clean (Ended end) = clean

  trail_found : (s : SideState) (f : Finds) → (turn_found f Trail program s duo).state.lead ≢ Ended WriteFault
  trail_found s Waits = clean
  trail_found s (Meets meet left) = clean

  trail_clean : (fails : Option ℕ) (o : Outcome) → (turn_at o Trail program fails duo).state.lead ≢ Ended WriteFault
  trail_clean fails (Went s) = trail_found s (finds Trail program s duo.world fails (view_of Trail duo))
  trail_clean fails (Ended end) = clean

  pub turn_clean : (side : Side) → (turn_of program no_upsets side None duo).state.lead ≢ Ended WriteFault
  turn_clean Lead = lead_clean duo.lead
  turn_clean Trail = trail_clean None duo.trail

no_fault_run : (program : SharedProgram) (entries : List Entry) (sofar : Scheduled) → NoneFails entries → sofar.duo.lead ≢ Ended WriteFault → (run_on program no_upsets sofar entries).duo.lead ≢ Ended WriteFault
no_fault_run program [] sofar none clean = clean
no_fault_run program (entry ∷ entries) sofar none clean =
    no_fault_run program entries (record { duo = (turn_of program no_upsets entry.side entry.fails sofar.duo).state; events = sofar.events ++ (turn_of program no_upsets entry.side entry.fails sofar.duo).events }) none.1
    (subst (λ f. (turn_of program no_upsets entry.side f sofar.duo).state.lead ≢ Ended WriteFault) (sym none.0) (turn_clean program sofar.duo clean entry.side))

pub no_fault_scheduled : (setting : Setting) (entries : List Entry) → NoneFails entries → (scheduled setting no_upsets entries).duo.lead ≢ Ended WriteFault
no_fault_scheduled setting entries none = no_fault_run setting.program entries (record { duo = opening_duo setting; events = [] }) none (λ h. cc)
