-- What a side that fits knows of the instruction at which it stands, and how the try of its step
-- went by that instruction.
use Rattle.std.proofs.Common.{◌≡◌, ℕ, ◌<◌, ◌≤◌, true, false, List, [], ◌∷◌, length, Option, Some, None, refl, sym, ap, ◌∙◌, subst, arith}
use Rattle.std.specs.Prelude.{IsTrue, slice_index, get_or}
use Rattle.srmt_base.specs.declared.event.Event.{Event}
use Rattle.srmt_base.specs.declared.side.Side.{Side}
use Rattle.srmt_base.specs.declared.side.Side.TheVariants.{Lead, Trail}
use Rattle.mid_code.specs.Classes.{SharedProgram}
use Rattle.mid_code.specs.Versions.{operands_list}
use Rattle.srmt_base.specs.declared.word.Site.{Site}
use Rattle.mid_code.specs.declared.mid.Mid.{Mid}
use Rattle.srmt_base.specs.declared.request_kind.RequestKind.{RequestKind}
use Rattle.mid_code.specs.declared.version.VersionOp.{VersionOp}
use Rattle.mid_code.specs.declared.version.VersionOp.TheVariants.{Act}
use Rattle.mid_code.specs.declared.version.VersionLine.{VersionLine}
use Rattle.mid_code.specs.Machine.{local_of, act}
use Rattle.mid_code.specs.Pairs.{HasSites}
use Rattle.mid_code.proofs.Naming.{whole}
use Rattle.frames.specs.Acts.{IsReady}
use Rattle.world.specs.World.{WorldState, Lives, Over, is_live, ask_living, ask}
use Rattle.word_stream.specs.declared.request.Request.{Request}
use Rattle.word_stream.specs.Reading.{request_of}
use Rattle.machine.specs.declared.stepped.Stepped.{Stepped}
use Rattle.machine.specs.declared.stepped.Stepped.TheVariants.{Made, NotYet, MadeLast}
use Rattle.machine.specs.Side.{SideState, Meet, Plain, Got, Closed, Failed, Went}
use Rattle.machine.specs.Steps.{side_op, takes, may_send, takes_at, may_send_at, holds, operands}
use Rattle.machine.specs.Leading.{act_request, acts, acts_by, lead_op, lead_at, lead_next}
use Rattle.machine.specs.Trailing.{trail_op, trail_at, trail_next}
use Rattle.machine.specs.Link.{Shown}
use Rattle.machine.specs.Tried.{Tries, TriesBy}
use Rattle.machine.specs.Fits.{HeardFits, SideFits, IsAlone, IsNear, CanSpell, FitsAfter, LivesAfter}
use Rattle.machine.proofs.FirstForm.{CopiedFits, is_alone, IsServed, served, lives_on, ArgsFit, OpFits}
use Rattle.machine.proofs.Fitting.{here, op_fits}
use Rattle.machine.proofs.Keeping.{lead_fits, trail_fits}

module _ (side : Side) (program : SharedProgram) (s : SideState) (sites : HasSites program) (fits : SideFits side program s) where
  pub near_here : IsNear s
  near_here = (here side program s sites fits).small

  module _ (l : VersionLine) (op : VersionOp) (at : side_op side program s ≡ Some l) (is : l.op ≡ op) where
    same_line : fits.line ≡ l
    same_line = let e : Some fits.line ≡ Some l = sym fits.at ∙ at in cc

    same_op : fits.line.op ≡ op
    same_op = ap (λ (x : VersionLine). x.op) same_line ∙ is

    pub op_here : OpFits side fits.function.kinds op
    op_here = subst (OpFits side fits.function.kinds) same_op (op_fits side program s sites fits)

    pub heard_here : HeardFits op s.heard
    heard_here = subst (λ o. HeardFits o s.heard) same_op fits.heard

  pub can_spell : (args : List ℕ) → ArgsFit fits.function.kinds args → CanSpell s args
  can_spell args good = record { few = good.few; registers = rw fits.registers good.each; small = fits.each }

  pub source_within : (source : ℕ) → source < length fits.function.kinds → source < length s.at.machine.top.registers
  source_within source good = rw fits.registers good

  pub copied_ready : (mid : Mid) → CopiedFits fits.function.kinds mid → IsReady program.program s.at.machine.top mid
  copied_ready mid good = record {
    place = omega (arith, near_here);
    few = omega (arith, (whole program.program sites.valid).few_functions);
    can = good.can program.program s.at.machine.top fits.registers;
  }

  pub copied_alone : (mid : Mid) (line : ℕ) → CopiedFits fits.function.kinds mid → IsAlone (act program.program mid line (local_of program.program s.at.machine))
  copied_alone mid line good =
      let l = local_of program.program s.at.machine in
      is_alone s.at.machine.top (act program.program mid line l) (good.goes program.program line l fits.registers fits.each)

module _ (program : SharedProgram) (s s' : SideState) (w w' : WorldState) (stepped : Stepped) (events : List Event) (before after : Shown) where
  -- the try of a step by its instruction
  pub lead_tries : (l : VersionLine) (op : VersionOp) → side_op Lead program s ≡ Some l → l.op ≡ op →
      TriesBy (takes op) (may_send op) (λ meet. lead_op program op l.line s w meet) s w stepped s' w' events before after → Tries Lead program s w stepped s' w' events before after
  unfolding lead_next
  lead_tries l op at is h =
      subst (λ (o : Option VersionLine). TriesBy (takes_at o) (may_send_at o) (λ meet. lead_at program o s w meet) s w stepped s' w' events before after) (sym at)
      (subst (λ (o : VersionOp). TriesBy (takes o) (may_send o) (λ meet. lead_op program o l.line s w meet) s w stepped s' w' events before after) (sym is) h)

  pub trail_tries : (l : VersionLine) (op : VersionOp) → side_op Trail program s ≡ Some l → l.op ≡ op →
      TriesBy (takes op) (may_send op) (λ meet. trail_op program op l.line s w meet) s w stepped s' w' events before after → Tries Trail program s w stepped s' w' events before after
  unfolding trail_next
  trail_tries l op at is h =
      subst (λ (o : Option VersionLine). TriesBy (takes_at o) (may_send_at o) (λ meet. trail_at program o s w meet) s w stepped s' w' events before after) (sym at)
      (subst (λ (o : VersionOp). TriesBy (takes o) (may_send o) (λ meet. trail_op program o l.line s w meet) s w stepped s' w' events before after) (sym is) h)

-- what lives on: only the end of a run stops the world
alive_request : (q : Request) (s s' : SideState) (w : WorldState) (meet : Meet) → IsTrue (is_live w) → (acts meet q (ask w q) s w).outcome ≡ Went s' → IsTrue (is_live (acts meet q (ask w q) s w).world)
unfolding ask
alive_request q s s' w (Failed written) live h = absurd (cc)
alive_request q s s' (Lives inside) Plain live h = lives_on q (ask_living inside q).response s s' inside h
alive_request q s s' Over Plain live h = absurd (cc)
alive_request q s s' w (Got word) live h = live
alive_request q s s' w Closed live h = live

alive_by : (q : Option Request) (s s' : SideState) (w : WorldState) (meet : Meet) → IsTrue (is_live w) → (acts_by q meet s w).outcome ≡ Went s' → IsTrue (is_live (acts_by q meet s w).world)
alive_by None s s' w meet live h = live
alive_by (Some q) s s' w meet live h = alive_request q s s' w meet live h

alive_op : (program : SharedProgram) (op : VersionOp) (line : ℕ) (s s' : SideState) (w : WorldState) (meet : Meet) → IsTrue (is_live w) → (lead_op program op line s w meet).outcome ≡ Went s' → IsTrue (is_live (lead_op program op line s w meet).world)
alive_op program (Act site request target function args) line s s' w meet live h = alive_by (act_request request site (operands s (operands_list args))) s s' w meet live h
alive_op program _ line s s' w meet live h = live

alive_at : (program : SharedProgram) (o : Option VersionLine) (s s' : SideState) (w : WorldState) (meet : Meet) → IsTrue (is_live w) → (lead_at program o s w meet).outcome ≡ Went s' → IsTrue (is_live (lead_at program o s w meet).world)
alive_at program None s s' w meet live h = live
alive_at program (Some l) s s' w meet live h = alive_op program l.op l.line s s' w meet live h

pub lead_lives : (program : SharedProgram) (s s' : SideState) (w : WorldState) (meet : Meet) → IsTrue (is_live w) → (lead_next program s w meet).outcome ≡ Went s' → IsTrue (is_live (lead_next program s w meet).world)
unfolding lead_next
lead_lives program s s' w meet live h = alive_at program (side_op Lead program s) s s' w meet live h

module _ (program : SharedProgram) (s s' : SideState) (w w' : WorldState) (events : List Event) (before after : Shown) where
  pub lead_fits_after : (stepped : Stepped) → HasSites program → SideFits Lead program s → Tries Lead program s w stepped s' w' events before after → FitsAfter stepped Lead program s'
  lead_fits_after Made sites fits tries = lead_fits program s s' w tries.meet sites fits tries.outcome_is
  lead_fits_after NotYet sites fits tries = subst (SideFits Lead program) (sym tries.same_side) fits
  lead_fits_after (MadeLast end) sites fits tries = tt

  pub trail_fits_after : (stepped : Stepped) → HasSites program → SideFits Trail program s → Tries Trail program s w stepped s' w' events before after → FitsAfter stepped Trail program s'
  trail_fits_after Made sites fits tries = trail_fits program s s' w tries.meet sites fits tries.outcome_is
  trail_fits_after NotYet sites fits tries = subst (SideFits Trail program) (sym tries.same_side) fits
  trail_fits_after (MadeLast end) sites fits tries = tt

  pub lead_lives_after : (stepped : Stepped) → IsTrue (is_live w) → Tries Lead program s w stepped s' w' events before after → LivesAfter stepped w'
  lead_lives_after Made live tries = subst (λ (v : WorldState). IsTrue (is_live v)) tries.world_is (lead_lives program s s' w tries.meet live tries.outcome_is)
  lead_lives_after NotYet live tries = subst (λ (v : WorldState). IsTrue (is_live v)) (sym tries.same_world) live
  lead_lives_after (MadeLast end) live tries = tt

-- a request that is served, of the first operand
pub first_operand : (s : SideState) (args : List ℕ) → 1 ≤ length args → slice_index (operands s args) 0 ≡ holds s (get_or args 0 0)
first_operand s [] some = absurd (omega arith)
first_operand s (x ∷ xs) some = refl

pub served_there : (kind : RequestKind) (site : Site) (value : ℕ) → IsServed kind → request_of kind site value ≡ None → ⊥
served_there kind site value is h =
    let r = served kind site value is in
    let clash : Some r.request ≡ None = sym r.is ∙ h in
    cc

-- the same try, by the request that the definition names
pub same_request : (s s' : SideState) (w w' : WorldState) (stepped : Stepped) (events : List Event) (before after : Shown) (request : Request) (known : Option Request) → known ≡ Some request →
    TriesBy false true (λ meet. acts meet request (ask w request) s w) s w stepped s' w' events before after → TriesBy false true (λ meet. acts_by known meet s w) s w stepped s' w' events before after
same_request s s' w w' stepped events before after request known same tries =
    subst (λ (r : Option Request). TriesBy false true (λ meet. acts_by r meet s w) s w stepped s' w' events before after) (sym same) tries
