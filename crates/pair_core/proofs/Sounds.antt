-- What holds of both sides beside the ideal run, as callers read it.
use Rattle.std.proofs.Common.{◌≡◌, ℕ, ◌⊎◌, inl, inr, true, List, ◌++◌, refl, sym, ap, ◌∙◌, subst, subst₂}
use Rattle.srmt_base.specs.declared.event.Event.{Event}
use Rattle.srmt_base.specs.declared.trap.SourceEnd.{SourceEnd}
use Rattle.mid_code.specs.Pairs.{HasSites}
use Rattle.world.specs.World.{Setting}
use Rattle.world.specs.Ideal.{Ended as PlaceEnded, ideal, IsIdeal}
use Rattle.verdicts.specs.declared.thread_end.ThreadEnd.{ThreadEnd}
use Rattle.verdicts.specs.declared.thread_end.ThreadEnd.TheVariants.{PeerEnded, WriteFault}
use Rattle.machine.specs.Side.{Outcome, Went, Ended}
use Rattle.machine.specs.Upset.{no_upsets}
use Rattle.pair_core.specs.Fit.{IsPrefix, IsOver, Fit}
use Rattle.pair_core.specs.Duo.{DuoState, is_over, Entry, scheduled, Reached}
use Rattle.pair_core.specs.Laws.{end_as, IsClean, IdealWords, IdealEvents, AsIdeal, IsOnWay, IsFitState, FollowsIdealRun, Sound}
use Rattle.pair_core.proofs.Prefixes.{prefix_refl, prefix_trans}
use Rattle.pair_core.proofs.Ideals.{below_end, one_end}
use Rattle.pair_core.proofs.Bounds.{not_closed, lead_words, lead_events, lead_clean, lead_final, trail_clean, trail_no_fault, trail_final}
use Rattle.pair_core.proofs.Duos.{Good, Quits, good_scheduled}
use Rattle.pair_core.proofs.Standing.{goes_on}

module _ (setting : Setting) (sites : HasSites setting.program) (duo : DuoState) (events : List Event) (g : Good setting duo events) where
  lead_ended : (end : ThreadEnd) → duo.lead ≡ Ended end → is_over g.lead.at ≡ true
  lead_ended end e = ap is_over (sym g.is_lead ∙ e)

  trail_ended : (end : ThreadEnd) → duo.trail ≡ Ended end → is_over g.trail.at ≡ true
  trail_ended end e = ap is_over (sym g.is_trail ∙ e)

  same_end : (a b : ThreadEnd) → Ended a ≡ Ended b → a ≡ b
  same_end a b h = cc

  -- the leading side never finds its link closed
  lead_open : g.lead.at ≡ Ended PeerEnded → ⊥
  lead_open closed =
      let final = lead_final setting sites g.i g.lead g.lead_at (ap is_over closed) in
      elim final.3 as (λ _. ⊥) [
        | inl ended ↦ not_closed ended.0 (same_end _ _ (sym ended.2 ∙ closed))
        | inr fault ↦ let both : PeerEnded ≡ WriteFault = same_end _ _ (sym closed ∙ fault) in cc
      ]

  -- the trailing side does where an event has failed, and all was taken
  trail_closed : g.trail.at ≡ Ended PeerEnded → (g.trail.took ≡ g.lead.sent) × IsOver g.lead.at
  trail_closed closed =
      elim (trail_final setting sites g.j (Quits g.lead) g.trail g.trail_at (ap is_over closed)) as (λ _. (g.trail.took ≡ g.lead.sent) × IsOver g.lead.at) [
        | inl ended ↦ absurd (not_closed ended.0 (same_end _ _ (sym ended.2 ∙ closed)))
        | inr quit ↦ (quit.1, (WriteFault, quit.0))
      ]

  pub good_fit : Fit setting no_upsets duo.lead_steps duo.trail_steps
  good_fit = record {
    lead = g.lead;
    trail = g.trail;
    lead_past = g.lead_past;
    trail_past = g.trail_past;
    words = (duo.words, g.words);
    acks = (duo.acks, g.acks);
    lead_closed = λ h. absurd (lead_open h);
    trail_closed = trail_closed;
  }

  ends_by : (a b : ThreadEnd) → duo.lead ≡ Ended a → duo.trail ≡ Ended b → (a ≡ WriteFault) ⊎ AsIdeal setting a b g.lead.sent events
  ends_by a b lead trail =
      let at_lead : g.lead.at ≡ Ended a = sym g.is_lead ∙ lead in
      let at_trail : g.trail.at ≡ Ended b = sym g.is_trail ∙ trail in
      let final = lead_final setting sites g.i g.lead g.lead_at (lead_ended a lead) in
      elim final.3 as (λ _. (a ≡ WriteFault) ⊎ AsIdeal setting a b g.lead.sent events) [
        | inr fault ↦ inl (same_end _ _ (sym at_lead ∙ fault))
        | inl ended ↦ elim (trail_final setting sites g.j (Quits g.lead) g.trail g.trail_at (trail_ended b trail)) as (λ _. (a ≡ WriteFault) ⊎ AsIdeal setting a b g.lead.sent events) [
          | inr quit ↦ inl (same_end _ _ (sym at_lead ∙ quit.0))
          | inl done ↦
              let one = one_end setting sites final.0 g.j ended.0 done.0 ended.1 done.1 in
              let places : PlaceEnded done.0 ≡ PlaceEnded ended.0 = sym done.1 ∙ ap (λ c. c.place) (sym one) ∙ ended.1 in
              let same : done.0 ≡ ended.0 = cc in
              inr (record {
                end = ended.0;
                lead_end = same_end _ _ (sym at_lead ∙ ended.2);
                trail_end = same_end _ _ (sym at_trail ∙ done.2) ∙ ap end_as same;
                whole = record { steps = final.0; ended = ended.1; words_so = sym final.1; events_so = sym ended.3 ∙ sym g.written };
              })
        ]
      ]

  on_way : (at : Outcome) (sent took way : List ℕ) → sent ≡ took ++ way → IsOnWay at sent took way
  on_way (Went s) sent took way e = e
  on_way (Ended end) sent took way e = subst (IsPrefix (took ++ way)) (sym e) (prefix_refl (took ++ way))

  pub fit_state : IsFitState setting no_upsets duo events
  unfolding good_fit
  fit_state = record {
    fit = good_fit;
    lead = g.lead;
    trail = g.trail;
    lead_now = inl refl;
    trail_now = inl refl;
    lead_at = g.is_lead;
    trail_at = g.is_trail;
    world = g.is_world;
    applied = g.applied;
    written = g.written;
    words_sent = g.words_sent;
    acks_sent = g.acks_sent;
    words = on_way duo.trail g.lead.sent g.trail.took duo.words g.words;
    acks = on_way duo.lead g.trail.sent g.lead.took duo.acks g.acks;
  }

  follows : FollowsIdealRun setting duo g.lead g.trail events
  follows = record {
    ideal_words = lead_words setting sites g.i g.lead g.lead_at;
    ideal_events = let e = lead_events setting sites g.i g.lead g.lead_at in (e.0, subst (λ t. IsPrefix t (ideal setting e.0).events) (sym g.written) e.1);
    lead_clean = subst IsClean (sym g.is_lead) (lead_clean setting sites g.i g.lead g.lead_at);
    trail_clean = subst IsClean (sym g.is_trail) (trail_clean setting sites g.j (Quits g.lead) g.trail g.trail_at);
    words = g.words;
    acks = g.acks;
  }

  pub sound : Sound setting no_upsets duo events
  unfolding good_fit fit_state
  sound = record {
    fits = fit_state;
    follows = λ none. follows;
    ends_well = record { ends = λ none. ends_by; goes = goes_on setting sites duo events g };
  }

-- what comes first after some steps of the ideal run comes first in all that it writes
module _ (setting : Setting) (sites : HasSites setting.program) where
  pub first_words : (words all : List ℕ) (events : List Event) (end : SourceEnd) → IdealWords setting words → IsIdeal setting all events end → IsPrefix words all
  first_words words all events end first whole =
      subst (IsPrefix words) whole.words_so (prefix_trans words (ideal setting first.0).words _ first.1 (below_end setting sites whole.steps first.0 end whole.ended).words)

  pub first_events : (events all : List Event) (words : List ℕ) (end : SourceEnd) → IdealEvents setting events → IsIdeal setting words all end → IsPrefix events all
  first_events events all words end first whole =
      subst (IsPrefix events) whole.events_so (prefix_trans events (ideal setting first.0).events _ first.1 (below_end setting sites whole.steps first.0 end whole.ended).events)

-- every schedule
pub sound_scheduled : (setting : Setting) → HasSites setting.program → (entries : List Entry) → Sound setting no_upsets (scheduled setting no_upsets entries).duo (scheduled setting no_upsets entries).events
sound_scheduled setting sites entries =
    sound setting sites (scheduled setting no_upsets entries).duo (scheduled setting no_upsets entries).events (good_scheduled setting sites entries)

-- the trailing side never ends by an event that failed
pub no_trail_fault : (setting : Setting) → HasSites setting.program → (entries : List Entry) → (scheduled setting no_upsets entries).duo.trail ≡ Ended WriteFault → ⊥
no_trail_fault setting sites entries h =
    let g = good_scheduled setting sites entries in
    trail_no_fault setting sites g.j (Quits g.lead) g.trail g.trail_at (sym g.is_trail ∙ h)

pub sound_reached : (setting : Setting) (duo : DuoState) (events : List Event) → HasSites setting.program → Reached setting no_upsets duo events → Sound setting no_upsets duo events
sound_reached setting duo events sites reached =
    subst₂ (λ d e. Sound setting no_upsets d e) (ap (λ x. x.duo) reached.1) (ap (λ x. x.events) reached.1) (sound_scheduled setting sites reached.0)
