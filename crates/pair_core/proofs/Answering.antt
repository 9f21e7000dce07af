-- A run that has ended is answered by an ended fit, and follows the ideal run.
use Rattle.std.proofs.Common.{◌≡◌, ℕ, ◌⊎◌, inl, inr, ◌&&◌, ◌||◌, List, [], refl, sym, ap, ap₂, ◌∙◌, eq-eqb}
use Rattle.srmt_base.specs.declared.event.Event.{Event}
use Rattle.srmt_base.specs.declared.trap.SourceEnd.{SourceEnd}
use Rattle.srmt_base.specs.declared.trap.SourceEnd.TheVariants.{Exit as SourceExit, Trap as SourceTrap}
use Rattle.srmt_base.specs.Trap.{trap_code}
use Rattle.mid_code.specs.Pairs.{HasSites}
use Rattle.world.specs.World.{Setting}
use Rattle.world.specs.Ideal.{IsIdeal}
use Rattle.verdicts.specs.declared.thread_end.ThreadEnd.{ThreadEnd}
use Rattle.verdicts.specs.declared.thread_end.ThreadEnd.TheVariants.{WriteFault}
use Rattle.machine.specs.Side.{Ended}
use Rattle.verdicts.specs.Verdict.{verdict_of_ends, exit_verdict, trap_verdict}
use Rattle.machine.specs.Upset.{no_upsets}
use Rattle.pair_core.specs.History.{Past}
use Rattle.pair_core.specs.Duo.{DuoState, Reached}
use Rattle.pair_core.specs.Laws.{end_as, IsNow, AsIdeal, Sound}
use Rattle.pair_core.specs.Answer.{IsAnswer, verdict_as, FollowsIdeal, ran_of}
use Rattle.pair_core.proofs.Sounds.{sound_reached}

-- equal ends
pub verdict_same : (end : SourceEnd) → verdict_of_ends (end_as end) (end_as end) ≡ verdict_as end
verdict_same (SourceExit status) = ap (λ b. exit_verdict b status status) (eq-eqb status status refl)
verdict_same (SourceTrap trap line) =
    ap₂ (λ a b. trap_verdict (a && b) trap line trap line) (eq-eqb (trap_code trap) (trap_code trap) refl) (eq-eqb line line refl)

-- without upset a history is what it is just before its next step
now_past : (steps : ℕ) (past now : Past) → IsNow [] steps past now → now ≡ past
now_past steps past now (inl same) = same
now_past steps past now (inr same) = same

module _ (setting : Setting) (duo : DuoState) (events : List Event) (sites : HasSites setting.program) (reached : Reached setting no_upsets duo events) (lead trail : ThreadEnd) (lead_over : duo.lead ≡ Ended lead) (trail_over : duo.trail ≡ Ended trail) where
  pub is_answer : IsAnswer setting no_upsets events (ran_of lead trail duo)
  is_answer =
      let s = sound_reached setting duo events sites reached in
      record {
        ended = record { fit = s.fits.fit; lead_end = lead; trail_end = trail; lead_over = ap (λ (p : Past). p.at) (sym (now_past duo.lead_steps _ _ s.fits.lead_now)) ∙ sym s.fits.lead_at ∙ lead_over; trail_over = ap (λ (p : Past). p.at) (sym (now_past duo.trail_steps _ _ s.fits.trail_now)) ∙ sym s.fits.trail_at ∙ trail_over };
        written = sym s.fits.written;
        verdict = refl;
        words = s.fits.words_sent;
        acks = s.fits.acks_sent;
        applied = s.fits.applied ∙ ap₂ (λ (p q : Past). p.applied || q.applied) (now_past duo.lead_steps _ _ s.fits.lead_now) (now_past duo.trail_steps _ _ s.fits.trail_now);
      }

  pub follows_ideal : FollowsIdeal setting events (ran_of lead trail duo)
  follows_ideal =
      let s = sound_reached setting duo events sites reached in
      record {
        first = (s.follows refl).ideal_events;
        whole = whole s (s.ends_well.ends refl lead trail lead_over trail_over);
      }
    where
      whole : (s : Sound setting no_upsets duo events) → (lead ≡ WriteFault) ⊎ AsIdeal setting lead trail s.fits.fit.lead.sent events → (verdict_of_ends lead trail ≡ verdict_of_ends WriteFault trail) ⊎ ((end : SourceEnd) × (words : List ℕ) × IsIdeal setting words events end × (verdict_of_ends lead trail ≡ verdict_as end))
      whole s (inl fault) = inl (ap (λ e. verdict_of_ends e trail) fault)
      whole s (inr as_ideal) = inr (as_ideal.end, s.fits.fit.lead.sent, as_ideal.whole, ap₂ verdict_of_ends as_ideal.lead_end as_ideal.trail_end ∙ verdict_same as_ideal.end)
