-- A side that has not ended fits after a step, and its world lives on.
use Rattle.std.proofs.Common.{◌≡◌, ℕ, ◌<◌, Bool, true, false, List, [], ◌∷◌, ◌++◌, length, nat_lt, nat_eq, cond, Option, refl, sym, ap, ◌∙◌, subst, arith}
use Rattle.std.specs.Prelude.{slice_index}
use Rattle.std.proofs.lemmas.List.{length-map}
use Rattle.std.proofs.lemmas.Bool.{ltb-true}
use Rattle.srmt_base.specs.declared.request_kind.RequestKind.{RequestKind}
use Rattle.srmt_base.specs.declared.side.Side.{Side}
use Rattle.srmt_base.specs.declared.side.Side.TheVariants.{Lead, Trail}
use Rattle.srmt_base.specs.declared.word.Site.{Site}
use Rattle.verdicts.specs.declared.thread_end.ThreadEnd.TheVariants.{Echo, Mismatch}
use Rattle.mid_code.specs.declared.mid.Mid.{Mid}
use Rattle.mid_code.specs.declared.program.RegisterKind.{RegisterKind}
use Rattle.mid_code.specs.declared.version.Operands.{Operands}
use Rattle.mid_code.specs.declared.version.VersionOp.{VersionOp}
use Rattle.mid_code.specs.declared.version.VersionOp.TheVariants.{Copied, Ask, Await, Act, Check, Ack, End}
use Rattle.mid_code.specs.Classes.{SharedProgram}
use Rattle.mid_code.specs.Pairs.{HasSites}
use Rattle.mid_code.specs.Versions.{operands_list}
use Rattle.word_stream.specs.Exchange.{ack_words}
use Rattle.world.specs.World.{WorldState, ask}
use Rattle.world.specs.Standing.{Standing}
use Rattle.world.specs.Requests.{Wants, Runs, Dies, Requests, Lost}
use Rattle.machine.specs.Side.{SideState, Meet, Plain, Got, Closed, Failed, Outcome, Went, Ended}
use Rattle.machine.specs.Steps.{holds, operands, passed_on, performed, wanted}
use Rattle.machine.specs.Leading.{compared, heard_by, awaits, acts, act_request, acts_by, lead_op, lead_at, lead_next}
use Rattle.machine.specs.Trailing.{checks, trail_op, trail_at, trail_next}
use Rattle.machine.specs.Fits.{HeardFits, SideFits, HoldsSmall}
use Rattle.machine.proofs.FirstForm.{IsServed, Served, served, IsLast, OpFits, GoesOn}
use Rattle.machine.proofs.Fitting.{goes_on, op_fits, fits_next}

-- acknowledgements that all agree pass the instruction
compared_by : (b : Bool) (next : Outcome) (s s' : SideState) (word mine : ℕ) → (next ≡ Went s' → passed_on s ≡ s') → cond b next (Ended (Echo word mine)) ≡ Went s' → passed_on s ≡ s'
compared_by true next s s' word mine rest h = rest h
compared_by false next s s' word mine rest h = absurd (cc)

compared_went : (words own : List ℕ) (s s' : SideState) → compared words own s ≡ Went s' → passed_on s ≡ s'
compared_went [] own s s' h = cc
compared_went (w ∷ ws) [] s s' h = cc
compared_went (w ∷ ws) (o ∷ os) s s' h = compared_by (nat_eq w o) (compared ws os s) s s' w o (compared_went ws os s s') h

-- what holds of a side that fits, as far as its instruction tells: of itself, of the side past the
-- instruction, and of the side that has heard more
record Keeps (Good : SideState → Type 0) (kinds : List RegisterKind) (op : VersionOp) (s : SideState) : Type 0 where
  pub itself : Good s
  pub next : (next : Standing) → GoesOn s.at.machine.top next.machine.top → (IsLast op → ⊥) → Good (record { at = next; heard = [] })
  pub more : (heard : List ℕ) → HeardFits op heard → Good (record s { heard = heard })
  pub each : HoldsSmall s
  pub count : length s.at.machine.top.registers ≡ length kinds

module _ (Good : SideState → Type 0) (kinds : List RegisterKind) (s s' : SideState) where
  same_keeps : (op : VersionOp) → Keeps Good kinds op s → Went s ≡ Went s' → Good s'
  same_keeps op keeps h = let e : s ≡ s' = cc in subst Good e keeps.itself

  passed_keeps : (op : VersionOp) → Keeps Good kinds op s → (IsLast op → ⊥) → passed_on s ≡ s' → Good s'
  passed_keeps op keeps not_last e =
      subst Good e (keeps.next (passed_on s).at (record { function = refl; place = refl; count = refl; each = keeps.each }) not_last)

  performed_keeps : (program : SharedProgram) (mid : Mid) (line : ℕ) (wants : Wants) → OpFits Lead kinds (Copied mid) → Keeps Good kinds (Copied mid) s → wanted program mid line s ≡ wants → performed wants s ≡ Went s' → Good s'
  performed_keeps program mid line (Runs next) fits keeps is h =
      let e : record { at = next; heard = [] } ≡ s' = cc in
      subst Good e (keeps.next next (goes_on program kinds mid line s next fits keeps.count keeps.each is) (λ none. none))
  performed_keeps program mid line (Dies words trap at) fits keeps is h = absurd (cc)
  performed_keeps program mid line (Requests request) fits keeps is h = same_keeps (Copied mid) keeps h
  performed_keeps program mid line (Lost words) fits keeps is h = same_keeps (Copied mid) keeps h

  heard_keeps : (site : Site) (args : Operands) (words own : List ℕ) (b : Bool) → Keeps Good kinds (Await site args) s → length own ≡ length (operands_list args) → nat_lt (length words) (length own) ≡ b → heard_by b words own s ≡ Went s' → Good s'
  heard_keeps site args words own true keeps count is h =
      let e : record s { heard = words } ≡ s' = cc in
      let below : length words < length (operands_list args) = omega (arith, ltb-true (length words) (length own) is, count) in
      subst Good e (keeps.more words below)
  heard_keeps site args words own false keeps count is h = passed_keeps (Await site args) keeps (λ none. none) (compared_went words own s s' h)

  awaits_keeps : (site : Site) (args : Operands) (own : List ℕ) (meet : Meet) → Keeps Good kinds (Await site args) s → length own ≡ length (operands_list args) → awaits meet own s ≡ Went s' → Good s'
  awaits_keeps site args own (Got word) keeps count h = heard_keeps site args (s.heard ++ word ∷ []) own (nat_lt (length (s.heard ++ word ∷ [])) (length own)) keeps count refl h
  awaits_keeps site args own Closed keeps count h = absurd (cc)
  awaits_keeps site args own Plain keeps count h = same_keeps (Await site args) keeps h
  awaits_keeps site args own (Failed written) keeps count h = same_keeps (Await site args) keeps h

  asked_keeps : (site : Site) (kind : RequestKind) (target function : Option ℕ) (args : Operands) (value : ℕ) (r : Served kind site value) (w : WorldState) (meet : Meet) → Keeps Good kinds (Act site kind target function args) s →
      (acts meet r.request (ask w r.request) s w).outcome ≡ Went s' → Good s'
  asked_keeps site kind target function args value r w (Failed written) keeps h = absurd (cc)
  asked_keeps site kind target function args value r w Plain keeps h = let on = r.goes (ask w r.request).response s s' h in passed_keeps (Act site kind target function args) keeps on.not_last on.passed
  asked_keeps site kind target function args value r w (Got word) keeps h = same_keeps (Act site kind target function args) keeps h
  asked_keeps site kind target function args value r w Closed keeps h = same_keeps (Act site kind target function args) keeps h

  acts_keeps : (site : Site) (kind : RequestKind) (target function : Option ℕ) (args : Operands) (values : List ℕ) (w : WorldState) (meet : Meet) → IsServed kind → Keeps Good kinds (Act site kind target function args) s →
      (acts_by (act_request kind site values) meet s w).outcome ≡ Went s' → Good s'
  acts_keeps site kind target function args values w meet is keeps h =
      let r = served kind site (slice_index values 0) is in
      asked_keeps site kind target function args (slice_index values 0) r w meet keeps (ap (λ q. (acts_by q meet s w).outcome) (sym r.is) ∙ h)

  lead_keeps : (program : SharedProgram) (op : VersionOp) (line : ℕ) (w : WorldState) (meet : Meet) → OpFits Lead kinds op → Keeps Good kinds op s → (lead_op program op line s w meet).outcome ≡ Went s' → Good s'
  lead_keeps program (Copied mid) line w meet fits keeps h = performed_keeps program mid line (wanted program mid line s) fits keeps refl h
  lead_keeps program (Ask site args) line w meet fits keeps h = let e : passed_on s ≡ s' = cc in passed_keeps (Ask site args) keeps (λ none. none) e
  lead_keeps program (Await site args) line w meet fits keeps h =
      awaits_keeps site args (ack_words site.0 (operands s (operands_list args))) meet keeps (length-map (operands s (operands_list args)) _ ∙ length-map (operands_list args) (holds s)) h
  lead_keeps program (Act site request target function args) line w meet fits keeps h = acts_keeps site request target function args (operands s (operands_list args)) w meet fits.served keeps h
  lead_keeps program _ line w meet fits keeps h = absurd fits

  checks_by : (b : Bool) (word own : ℕ) → cond b (Went (passed_on s)) (Ended (Mismatch word own)) ≡ Went s' → passed_on s ≡ s'
  checks_by true word own h = cc
  checks_by false word own h = absurd (cc)

  checks_keeps : (site : Site) (source own : ℕ) (meet : Meet) → Keeps Good kinds (Check site source) s → checks meet own s ≡ Went s' → Good s'
  checks_keeps site source own (Got word) keeps h = passed_keeps (Check site source) keeps (λ none. none) (checks_by (nat_eq word own) word own h)
  checks_keeps site source own Closed keeps h = absurd (cc)
  checks_keeps site source own Plain keeps h = same_keeps (Check site source) keeps h
  checks_keeps site source own (Failed written) keeps h = same_keeps (Check site source) keeps h

  trail_keeps : (program : SharedProgram) (op : VersionOp) (line : ℕ) (w : WorldState) (meet : Meet) → OpFits Trail kinds op → Keeps Good kinds op s → (trail_op program op line s w meet).outcome ≡ Went s' → Good s'
  trail_keeps program (Copied mid) line w meet fits keeps h = performed_keeps program mid line (wanted program mid line s) fits keeps refl h
  trail_keeps program (Check site source) line w meet fits keeps h = checks_keeps site source _ meet keeps h
  trail_keeps program (Ack site args) line w meet fits keeps h = let e : passed_on s ≡ s' = cc in passed_keeps (Ack site args) keeps (λ none. none) e
  trail_keeps program (End source) line w meet fits keeps h = absurd (cc)
  trail_keeps program _ line w meet fits keeps h = absurd fits

module _ (program : SharedProgram) (s s' : SideState) (w : WorldState) (meet : Meet) (sites : HasSites program) where
  keeps_fit : (side : Side) → (fits : SideFits side program s) → Keeps (SideFits side program) fits.function.kinds fits.line.op s
  keeps_fit side fits = record {
    itself = fits;
    next = fits_next side program s sites fits;
    more = λ heard h. record { function = fits.function; line = fits.line; found = fits.found; at = fits.at; registers = fits.registers; each = fits.each; heard = h };
    each = fits.each;
    count = fits.registers;
  }

  -- a step that goes on leaves a side that fits
  pub lead_fits : SideFits Lead program s → (lead_next program s w meet).outcome ≡ Went s' → SideFits Lead program s'
  unfolding lead_next
  lead_fits fits h =
      lead_keeps (SideFits Lead program) fits.function.kinds s s' program fits.line.op fits.line.line w meet (op_fits Lead program s sites fits) (keeps_fit Lead fits)
      (ap (λ o. (lead_at program o s w meet).outcome) (sym fits.at) ∙ h)

  pub trail_fits : SideFits Trail program s → (trail_next program s w meet).outcome ≡ Went s' → SideFits Trail program s'
  unfolding trail_next
  trail_fits fits h =
      trail_keeps (SideFits Trail program) fits.function.kinds s s' program fits.line.op fits.line.line w meet (op_fits Trail program s sites fits) (keeps_fit Trail fits)
      (ap (λ o. (trail_at program o s w meet).outcome) (sym fits.at) ∙ h)
