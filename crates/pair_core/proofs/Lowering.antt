-- Each event of the core that is no wait leaves both sides less to go, until they have ended.
use Rattle.std.proofs.Common.{◌≡◌, ◌≢◌, ℕ, ◌+◌, ◌<◌, List, length, Option, refl, sym, ap, ◌∙◌, subst, subst₂, arith}
use Rattle.srmt_base.specs.declared.event.Event.{Event}
use Rattle.srmt_base.specs.declared.side.Side.{Side}
use Rattle.srmt_base.specs.declared.side.Side.TheVariants.{Lead, Trail}
use Rattle.mid_code.specs.Pairs.{HasSites}
use Rattle.world.specs.World.{Setting}
use Rattle.machine.specs.declared.stepped.Stepped.TheVariants.{NotYet}
use Rattle.machine.specs.Side.{SideState, Plain, Outcome, Went, Ended}
use Rattle.machine.specs.Steps.{side_op, takes_at}
use Rattle.machine.specs.Meets.{next_of, CanMeet}
use Rattle.machine.specs.Upset.{no_upsets}
use Rattle.pair_core.specs.Duo.{DuoState, view_of, Finds, Waits, Meets, finds, turn_found, turn_at, turn_of, Reached}
use Rattle.pair_core.proofs.Finding.{IsFound, found, alike}
use Rattle.pair_core.proofs.Duos.{Good, Quits, good_scheduled, lead_meets, trail_meets, can_trail}
use Rattle.pair_core.proofs.Measure.{side_left, duo_left, lead_lowers, trail_lowers}

module _ (setting : Setting) (sites : HasSites setting.program) (duo : DuoState) (events : List Event) (g : Good setting duo events) where
  lead_found : (s : SideState) → duo.lead ≡ Went s → (f : Finds) → IsFound (takes_at (side_op Lead setting.program s)) (length (next_of Lead setting.program s duo.world Plain).events) (view_of Lead duo) f →
      (turn_found f Lead setting.program s duo).stepped ≢ NotYet → duo_left setting.program (turn_found f Lead setting.program s duo).state < duo_left setting.program duo
  lead_found s at Waits h goes = absurd (goes refl)
  lead_found s at (Meets meet left) h goes =
      let less = lead_lowers setting sites g.i g.lead s (sym g.is_lead ∙ at) meet g.lead_at (subst (λ w. CanMeet Lead setting.program s w meet) g.is_world h.0) (lead_meets setting sites duo events g s at meet left h.0 h.1 h.2) in
      let here : side_left setting.program Lead (next_of Lead setting.program s duo.world meet).outcome < side_left setting.program Lead (Went s) = subst (λ w. side_left setting.program Lead (next_of Lead setting.program s w meet).outcome < side_left setting.program Lead (Went s)) (sym g.is_world) less.less in
      let now : side_left setting.program Lead duo.lead ≡ side_left setting.program Lead (Went s) = ap (side_left setting.program Lead) at in
      more_left _ _ _ _ now here
    where
      more_left : (a b c d : ℕ) → b ≡ c → a < c → a + d < b + d
      more_left a b c d e less = omega arith

  trail_found : (s : SideState) → duo.trail ≡ Went s → (f : Finds) → IsFound (takes_at (side_op Trail setting.program s)) (length (next_of Trail setting.program s duo.world Plain).events) (view_of Trail duo) f →
      (turn_found f Trail setting.program s duo).stepped ≢ NotYet → duo_left setting.program (turn_found f Trail setting.program s duo).state < duo_left setting.program duo
  trail_found s at Waits h goes = absurd (goes refl)
  trail_found s at (Meets meet left) h goes =
      let less = trail_lowers setting sites g.j g.trail s (sym g.is_trail ∙ at) meet (Quits g.lead) g.trail_at (can_trail setting sites duo events g s at meet left h.0 h.1 h.2) (trail_meets setting sites duo events g s at meet left h.0 h.1 h.2) in
      let here : side_left setting.program Trail (next_of Trail setting.program s duo.world meet).outcome < side_left setting.program Trail (Went s) = subst (λ o. side_left setting.program Trail o < side_left setting.program Trail (Went s)) (sym (alike setting.program s duo.world g.trail.world meet).outcome) less.less in
      let now : side_left setting.program Trail duo.trail ≡ side_left setting.program Trail (Went s) = ap (side_left setting.program Trail) at in
      more_left _ _ _ _ now here
    where
      more_left : (a b c d : ℕ) → b ≡ c → a < c → d + a < d + b
      more_left a b c d e less = omega arith

  lead_turned : (fails : Option ℕ) (s : SideState) (o : Outcome) → duo.lead ≡ o → o ≡ Went s → (turn_at o Lead setting.program fails duo).stepped ≢ NotYet → duo_left setting.program (turn_at o Lead setting.program fails duo).state < duo_left setting.program duo
  lead_turned fails s (Went t) at e goes = lead_found t at (finds Lead setting.program t duo.world fails (view_of Lead duo)) (found Lead setting.program t duo.world fails (view_of Lead duo)) goes
  lead_turned fails s (Ended end) at e goes = absurd (cc)

  trail_turned : (fails : Option ℕ) (s : SideState) (o : Outcome) → duo.trail ≡ o → o ≡ Went s → (turn_at o Trail setting.program fails duo).stepped ≢ NotYet → duo_left setting.program (turn_at o Trail setting.program fails duo).state < duo_left setting.program duo
  trail_turned fails s (Went t) at e goes = trail_found t at (finds Trail setting.program t duo.world fails (view_of Trail duo)) (found Trail setting.program t duo.world fails (view_of Trail duo)) goes
  trail_turned fails s (Ended end) at e goes = absurd (cc)

  pub good_lowers : (side : Side) (fails : Option ℕ) (s : SideState) → (view_of side duo).at ≡ Went s → (turn_of setting.program no_upsets side fails duo).stepped ≢ NotYet → duo_left setting.program (turn_of setting.program no_upsets side fails duo).state < duo_left setting.program duo
  good_lowers Lead fails s at goes = lead_turned fails s duo.lead refl at goes
  good_lowers Trail fails s at goes = trail_turned fails s duo.trail refl at goes

pub good_reached : (setting : Setting) (duo : DuoState) (events : List Event) → HasSites setting.program → Reached setting no_upsets duo events → Good setting duo events
good_reached setting duo events sites reached =
    subst₂ (λ d e. Good setting d e) (ap (λ x. x.duo) reached.1) (ap (λ x. x.events) reached.1) (good_scheduled setting sites reached.0)

-- for the loop that runs both sides in turn
pub reached_lowers : (setting : Setting) (duo : DuoState) (events : List Event) → HasSites setting.program → Reached setting no_upsets duo events →
    (side : Side) (fails : Option ℕ) (s : SideState) → (view_of side duo).at ≡ Went s → (turn_of setting.program no_upsets side fails duo).stepped ≢ NotYet → duo_left setting.program (turn_of setting.program no_upsets side fails duo).state < duo_left setting.program duo
reached_lowers setting duo events sites reached side fails s at goes =
    good_lowers setting sites duo events (good_reached setting duo events sites reached) side fails s at goes
