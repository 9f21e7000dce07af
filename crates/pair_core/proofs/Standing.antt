-- The core never stands still.
use Rattle.std.proofs.Common.{◌≡◌, ℕ, suc, ◌<◌, ◌≤◌, ◌⊎◌, inl, inr, Bool, true, false, List, [], length, None, refl, sym, ap, ◌∙◌, arith, length-append}
use Rattle.std.proofs.lemmas.Bool.{cases_lt}
use Rattle.srmt_base.specs.declared.event.Event.{Event}
use Rattle.srmt_base.specs.declared.side.Side.{Side}
use Rattle.srmt_base.specs.declared.side.Side.TheVariants.{Lead, Trail}
use Rattle.mid_code.specs.Classes.{SharedProgram}
use Rattle.mid_code.specs.Pairs.{HasSites}
use Rattle.world.specs.World.{Setting}
use Rattle.world.specs.Ideal.{ideal}
use Rattle.machine.specs.Side.{SideState, Outcome, Went, Ended}
use Rattle.machine.specs.Steps.{side_op, takes_at, may_send_at}
use Rattle.machine.specs.Meets.{next_of}
use Rattle.machine.specs.Upset.{no_upsets}
use Rattle.pair_core.specs.Fit.{IsOver}
use Rattle.pair_core.specs.Duo.{DuoState, is_over, view_of, Finds, Waits, Meets, finds, stepped_of, turn_found, turn_at, turn_of}
use Rattle.pair_core.specs.Laws.{CanGo}
use Rattle.pair_core.proofs.Prefixes.{prefix_length}
use Rattle.pair_core.proofs.Ideals.{grows}
use Rattle.pair_core.proofs.Bounds.{lead_hearing, lead_resting, trail_echoes, trail_checking, trail_acking}
use Rattle.pair_core.proofs.Finding.{stepped_made, Why, Hungry, Crowded, why}
use Rattle.pair_core.proofs.Duos.{Good, Quits}

-- a side that has not ended can go, or waits for a reason
module _ (side : Side) (program : SharedProgram) (duo : DuoState) (s : SideState) (at : (view_of side duo).at ≡ Went s) where
  tried_found : (f : Finds) → finds side program s duo.world None (view_of side duo) ≡ f → CanGo program no_upsets side duo ⊎ Why (takes_at (side_op side program s)) (may_send_at (side_op side program s)) (view_of side duo)
  tried_found Waits e = inr (why side program s duo.world None (view_of side duo) e)
  tried_found (Meets meet left) e = inl (record {
    goes_on = λ end h. let both : Went s ≡ Ended end = sym at ∙ h in cc;
    goes = λ stuck. stepped_made (next_of side program s duo.world meet).outcome (sym made ∙ stuck);
  })
    where
      made : (turn_of program no_upsets side None duo).stepped ≡ stepped_of (next_of side program s duo.world meet).outcome
      made = ap (λ o. (turn_at o side program None duo).stepped) at ∙ ap (λ f. (turn_found f side program s duo).stepped) e

  pub tried : CanGo program no_upsets side duo ⊎ Why (takes_at (side_op side program s)) (may_send_at (side_op side program s)) (view_of side duo)
  tried = tried_found (finds side program s duo.world None (view_of side duo)) refl

module _ (setting : Setting) (sites : HasSites setting.program) (duo : DuoState) (events : List Event) (g : Good setting duo events) where
  more_words : (k l : ℕ) → k ≤ l → length (ideal setting k).words ≤ length (ideal setting l).words
  more_words k l h = prefix_length _ _ (grows setting sites k l h).words

  more_echoes : (k l : ℕ) → k ≤ l → length (ideal setting k).echoes ≤ length (ideal setting l).echoes
  more_echoes k l h = prefix_length _ _ (grows setting sites k l h).echoes

  module _ (s t : SideState) (lead : duo.lead ≡ Went s) (trail : duo.trail ≡ Went t) where
    -- both wait for words: the leading side has sent all words of its request, and the trailing side
    -- all acknowledgements of those before its own
    both_hungry : takes_at (side_op Lead setting.program s) ≡ true → duo.acks ≡ [] → takes_at (side_op Trail setting.program t) ≡ true → duo.words ≡ [] → ⊥
    both_hungry hears acks checks words =
        let h = lead_hearing setting sites g.i g.lead s (sym g.is_lead ∙ lead) g.lead_at hears in
        let c = trail_checking setting sites g.j (Quits g.lead) g.trail t (sym g.is_trail ∙ trail) g.trail_at checks in
        let e = trail_echoes setting sites g.j (Quits g.lead) g.trail g.trail_at in
        let way = ap length g.words in
        let back = ap length g.acks in
        let no_words = ap length words in
        let no_acks = ap length acks in
        elim (cases_lt g.i g.j) as (λ _. ⊥) [
          | inl less ↦
              omega (arith, h.1, more_echoes (suc g.i) g.j (omega arith), ap length e, back, no_acks, length-append g.lead.took duo.acks)
          | inr more ↦
              omega (arith, ap length h.0, c, more_words (suc g.j) (suc g.i) (omega arith), way, no_words, length-append g.trail.took duo.words)
        ]

    -- both wait for room: what the trailing side has taken it has not yet acknowledged
    both_crowded : takes_at (side_op Lead setting.program s) ≡ false → takes_at (side_op Trail setting.program t) ≡ false → may_send_at (side_op Trail setting.program t) ≡ true → 0 < length duo.acks → ⊥
    both_crowded rests no_check acking many =
        let r = lead_resting setting sites g.i g.lead s (sym g.is_lead ∙ lead) g.lead_at rests in
        let a = trail_acking setting sites g.j (Quits g.lead) g.trail t (sym g.is_trail ∙ trail) g.trail_at no_check acking in
        let e = trail_echoes setting sites g.j (Quits g.lead) g.trail g.trail_at in
        elim (cases_lt g.j r.0) as (λ _. ⊥) [
          | inl less ↦
              omega (arith, many, more_echoes g.j r.0 (omega arith), ap length e, ap length r.2, ap length g.acks, length-append g.lead.took duo.acks)
          | inr more ↦
              omega (arith, more_words r.0 g.j more, ap length r.1, ap length a.0, a.1, ap length g.words, length-append g.trail.took duo.words)
        ]

    standstill : Why (takes_at (side_op Lead setting.program s)) (may_send_at (side_op Lead setting.program s)) (view_of Lead duo) → Why (takes_at (side_op Trail setting.program t)) (may_send_at (side_op Trail setting.program t)) (view_of Trail duo) → ⊥
    standstill (Hungry hears over acks) (Hungry checks ended words) = both_hungry hears acks checks words
    standstill (Hungry hears over acks) (Crowded no_check acking ended many) = omega (arith, many, ap length acks)
    standstill (Crowded rests sends over many) (Hungry checks ended words) = omega (arith, many, ap length words)
    standstill (Crowded rests sends over many) (Crowded no_check acking ended full) = both_crowded rests no_check acking (omega (arith, full))

    both_go : CanGo setting.program no_upsets Lead duo ⊎ CanGo setting.program no_upsets Trail duo ⊎ (IsOver duo.lead × IsOver duo.trail)
    both_go =
        elim (tried Lead setting.program duo s lead) as (λ _. CanGo setting.program no_upsets Lead duo ⊎ CanGo setting.program no_upsets Trail duo ⊎ (IsOver duo.lead × IsOver duo.trail)) [
          | inl goes ↦ inl goes
          | inr waits ↦ elim (tried Trail setting.program duo t trail) as (λ _. CanGo setting.program no_upsets Lead duo ⊎ CanGo setting.program no_upsets Trail duo ⊎ (IsOver duo.lead × IsOver duo.trail)) [
            | inl goes ↦ inr (inl goes)
            | inr too ↦ absurd (standstill waits too)
          ]
        ]

  not_alone : (side : Side) (taking sending : Bool) → (view_of side duo).peer_over ≡ true → Why taking sending (view_of side duo) → ⊥
  not_alone side taking sending over (Hungry takes ended coming) = let no : true ≡ false = sym over ∙ ended in cc
  not_alone side taking sending over (Crowded takes sends ended many) = let no : true ≡ false = sym over ∙ ended in cc

  alone : (side : Side) (s : SideState) → (view_of side duo).at ≡ Went s → (view_of side duo).peer_over ≡ true → CanGo setting.program no_upsets side duo
  alone side s at over =
      elim (tried side setting.program duo s at) as (λ _. CanGo setting.program no_upsets side duo) [
        | inl goes ↦ goes
        | inr waits ↦ absurd (not_alone side _ _ over waits)
      ]

  goes_by : (o p : Outcome) → duo.lead ≡ o → duo.trail ≡ p → CanGo setting.program no_upsets Lead duo ⊎ CanGo setting.program no_upsets Trail duo ⊎ (IsOver duo.lead × IsOver duo.trail)
  goes_by (Went s) (Went t) lead trail = both_go s t lead trail
  goes_by (Went s) (Ended end) lead trail = inl (alone Lead s lead (ap is_over trail))
  goes_by (Ended end) (Went t) lead trail = inr (inl (alone Trail t trail (ap is_over lead)))
  goes_by (Ended a) (Ended b) lead trail = inr (inr ((a, lead), (b, trail)))

  pub goes_on : CanGo setting.program no_upsets Lead duo ⊎ CanGo setting.program no_upsets Trail duo ⊎ (IsOver duo.lead × IsOver duo.trail)
  goes_on = goes_by duo.lead duo.trail refl refl
