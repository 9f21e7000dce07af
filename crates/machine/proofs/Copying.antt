-- A run of copied instructions is one of quiet steps, and leaves a side that fits.
use Rattle.std.proofs.Common.{◌≡◌, ℕ, zero, suc, [], Some, sym, ap, ap₂, ◌∙◌, subst, arith, length, List, false, refl}
use Rattle.srmt_base.specs.declared.side.Side.{Side}
use Rattle.srmt_base.specs.declared.side.Side.TheVariants.{Lead, Trail}
use Rattle.mid_code.specs.declared.mid.Mid.{Mid}
use Rattle.mid_code.specs.declared.program.MidFunction.{MidFunction}
use Rattle.mid_code.specs.declared.version.VersionOp.{VersionOp}
use Rattle.mid_code.specs.declared.version.VersionOp.TheVariants.{Copied, Ask, Await, Act, Check, Ack, End}
use Rattle.mid_code.specs.declared.version.VersionLine.{VersionLine}
use Rattle.mid_code.specs.Classes.{SharedProgram}
use Rattle.mid_code.specs.Machine.{Local, Machine, Does, Goes, Traps, local_of, act}
use Rattle.mid_code.specs.declared.program.RegisterKind.{RegisterKind}
use Rattle.mid_code.specs.Pairs.{HasSites}
use Rattle.frames.specs.Copied.{IsKept, CanCopy, CanCopyAll, CopiesOn, IsHeldOn, CopiesManyOn}
use Rattle.frames.proofs.AloneRuns.{names_all}
use Rattle.world.specs.Requests.{wants_alone}
use Rattle.world.specs.World.{WorldState, Over}
use Rattle.machine.specs.Side.{SideState, Meet, Plain, StepGives, Went}
use Rattle.machine.specs.Steps.{side_op, takes, may_send, takes_at, may_send_at, performed, quiet, wanted}
use Rattle.machine.specs.Leading.{lead_op, lead_at, lead_next}
use Rattle.machine.specs.Trailing.{trail_op, trail_at, trail_next}
use Rattle.machine.specs.Meets.{next_of}
use Rattle.machine.specs.Fits.{HoldsSmall, SideFits}
use Rattle.machine.specs.Quiet.{IsQuiet, NoneQuiet, QuietSteps}
use Rattle.machine.proofs.FirstForm.{GoesAlone, GoesOn, CopiedFits, OpFits}
use Rattle.machine.proofs.Placed.{placed}
use Rattle.machine.proofs.Standing.{heard_here}
use Rattle.machine.proofs.Fitting.{op_fits}
use Rattle.machine.proofs.Keeping.{lead_fits, trail_fits}

-- a side whose machine is this
abbrev pub with_machine : SideState → Machine → SideState
with_machine s m = record s { at = record s.at { machine = m } }

-- what an instruction of a side's version gives
abbrev op_gives : Side → SharedProgram → VersionOp → ℕ → SideState → WorldState → Meet → StepGives
op_gives Lead program op line s w meet = lead_op program op line s w meet
op_gives Trail program op line s w meet = trail_op program op line s w meet

module _ (program : SharedProgram) (s : SideState) (w : WorldState) (meet : Meet) (l : VersionLine) where
  lead_here : side_op Lead program s ≡ Some l → lead_next program s w meet ≡ lead_op program l.op l.line s w meet
  unfolding lead_next
  lead_here at = ap (λ o. lead_at program o s w meet) at

  trail_here : side_op Trail program s ≡ Some l → trail_next program s w meet ≡ trail_op program l.op l.line s w meet
  unfolding trail_next
  trail_here at = ap (λ o. trail_at program o s w meet) at

  next_here : (side : Side) → side_op side program s ≡ Some l → next_of side program s w meet ≡ op_gives side program l.op l.line s w meet
  next_here Lead at = lead_here at
  next_here Trail at = trail_here at

  -- a copied one gives the same on both sides
  copied_gives : (side : Side) (mid : Mid) (line : ℕ) → op_gives side program (Copied mid) line s w meet ≡ quiet w (performed (wanted program mid line s) s)
  copied_gives Lead mid line = refl
  copied_gives Trail mid line = refl

  next_copied : (side : Side) (mid : Mid) → l.op ≡ Copied mid → side_op side program s ≡ Some l → next_of side program s w meet ≡ quiet w (performed (wanted program mid l.line s) s)
  next_copied side mid copied at = next_here side at ∙ ap (λ op. op_gives side program op l.line s w meet) copied ∙ copied_gives side mid l.line

-- a step that is quiet is one of a copied instruction that goes on
module _ (side : Side) (program : SharedProgram) (s next : SideState) (kinds : List RegisterKind) (line : ℕ) (count : length s.at.machine.top.registers ≡ length kinds) (small : HoldsSmall s) where
  held_by : (d : Does) → GoesAlone s.at.machine.top d → ((local : Local) → d ≡ Goes local → ⊥) → performed (wants_alone program d s.at) s ≡ Went next → ⊥
  held_by (Goes local) goes held h = held local refl
  held_by (Traps trap at) goes held h = cc
  held_by _ goes held h = goes

  held_copied : (mid : Mid) → CopiedFits kinds mid → ((local : Local) → act program.program mid line (local_of program.program s.at.machine) ≡ Goes local → ⊥) → performed (wanted program mid line s) s ≡ Went next → ⊥
  held_copied mid good held h =
      let l = local_of program.program s.at.machine in
      held_by (act program.program mid line l) (good.goes program.program line l count small) held h

  held_op : (side : Side) (op : VersionOp) → OpFits side kinds op → takes op ≡ false → may_send op ≡ false →
      ((mid : Mid) (local : Local) → op ≡ Copied mid → act program.program mid line (local_of program.program s.at.machine) ≡ Goes local → ⊥) →
      (op_gives side program op line s Over Plain).outcome ≡ Went next → ⊥
  held_op Lead (Copied mid) fits t m held h = held_copied mid fits (λ local. held mid local refl) h
  held_op Trail (Copied mid) fits t m held h = held_copied mid fits (λ local. held mid local refl) h
  held_op Lead (Ask site args) fits t m held h = cc
  held_op Lead (Await site args) fits t m held h = cc
  held_op Lead (Act site request target function args) fits t m held h = cc
  held_op Lead _ fits t m held h = fits
  held_op Trail (Check site source) fits t m held h = cc
  held_op Trail (Ack site args) fits t m held h = cc
  held_op Trail (End source) fits t m held h = cc
  held_op Trail _ fits t m held h = fits

next_fits : (side : Side) (program : SharedProgram) (s after : SideState) (w : WorldState) (meet : Meet) → HasSites program → SideFits side program s → (next_of side program s w meet).outcome ≡ Went after → SideFits side program after
next_fits Lead program s after w meet sites fits h = lead_fits program s after w meet sites fits h
next_fits Trail program s after w meet sites fits h = trail_fits program s after w meet sites fits h

kept_by : (l next : Local) (d : Does) → d ≡ Goes next → GoesAlone l.at d → IsKept l.at.registers next.at.registers
kept_by l next d is goes =
    let on : GoesOn l.at next.at = subst (GoesAlone l.at) is goes in
    record { count = on.count; each = on.each }

module _ (side : Side) (program : SharedProgram) (sites : HasSites program) where
  -- what the code needs to perform them
  pub can_copy_all : (s : SideState) → SideFits side program s → CanCopyAll side program s.at.machine.top.function (length s.at.machine.top.registers)
  can_copy_all s fits place l mid at copied =
      let here = placed side program s.at.machine.top.function place l sites at in
      let both : Some here.code ≡ Some fits.function = sym here.found ∙ fits.found in
      let same : here.code ≡ fits.function = cc in
      let op : OpFits side fits.function.kinds (Copied mid) = subst (OpFits side fits.function.kinds) copied (subst (λ (f : MidFunction). OpFits side f.kinds l.op) same here.fits) in
      (omega (arith, here.small), can_copy mid op)
    where
      can_copy : (mid : Mid) → CopiedFits fits.function.kinds mid → CanCopy mid (length s.at.machine.top.registers)
      can_copy mid good = record {
        names = names_all program.program mid s.at.machine.top (good.can program.program s.at.machine.top fits.registers);
        keeps = λ p line l next count each is. kept_by l next (act p mid line l) is (good.goes p line l (count ∙ fits.registers) each);
      }

  -- one step
  quiet_step : (s : SideState) (after : Machine) → SideFits side program s → CopiesOn side program s.at.machine after → IsQuiet side program s (with_machine s after)
  quiet_step s after fits c =
      let heard : s.heard ≡ [] = heard_here side program s sites fits c.line (Copied c.mid) c.at c.copied in
      let stands = ap₂ (λ (m : Machine) heard. record { at = record s.at { machine = m }; heard = heard }) (sym c.leads) (sym heard) in
      record {
        takes_none = ap takes_at c.at ∙ ap takes c.copied;
        sends_none = ap may_send_at c.at ∙ ap may_send c.copied;
        gives = λ w meet. next_copied program s w meet c.line side c.mid c.copied c.at
            ∙ ap (λ d. quiet w (performed (wants_alone program d s.at) s)) c.goes ∙ ap (λ (t : SideState). quiet w (Went t)) stands;
      }

  -- and more of them
  pub quiet_steps : (n : ℕ) (s : SideState) (after : Machine) → SideFits side program s → CopiesManyOn side program n s.at.machine after →
      QuietSteps side program n s (with_machine s after) × SideFits side program (with_machine s after)
  quiet_steps zero s after fits same = let e : with_machine s after ≡ s = ap (with_machine s) same in (e, subst (SideFits side program) (sym e) fits)
  quiet_steps (suc n) s after fits c =
      let so_far = quiet_steps n s c.0 fits c.1 in
      let step : IsQuiet side program (with_machine s c.0) (with_machine s after) = quiet_step (with_machine s c.0) after so_far.1 c.2 in (
        (with_machine s c.0, so_far.0, step),
        next_fits side program (with_machine s c.0) (with_machine s after) Over Plain sites so_far.1 (ap (λ (g : StepGives). g.outcome) (step.gives Over Plain)),
      )

  -- where the machine is held, no further step is quiet
  pub none_quiet : (s : SideState) → SideFits side program s → IsHeldOn side program s.at.machine → NoneQuiet side program s
  none_quiet s fits held next q =
      held_op side program s next fits.function.kinds fits.line.line fits.registers fits.each side fits.line.op (op_fits side program s sites fits)
      (sym (ap takes_at fits.at) ∙ q.takes_none) (sym (ap may_send_at fits.at) ∙ q.sends_none) (λ mid local copied goes. held fits.line mid local fits.at copied goes)
      (ap (λ (g : StepGives). g.outcome) (sym (next_here program s Over Plain fits.line side fits.at) ∙ q.gives Over Plain))
