-- What each side has taken and sent, beside the ideal run.
use Rattle.std.proofs.Common.{◌≡◌, ℕ, suc, ◌<◌, ◌≤◌, ◌⊎◌, inl, inr, true, false, List, [], ◌∷◌, ◌++◌, length, refl, sym, ap, ◌∙◌, subst, arith, length-append, append_assoc}
use Rattle.srmt_base.specs.declared.side.Side.TheVariants.{Lead, Trail}
use Rattle.srmt_base.specs.declared.trap.SourceEnd.{SourceEnd}
use Rattle.srmt_base.specs.declared.trap.SourceEnd.TheVariants.{Exit as SourceExit, Trap as SourceTrap}
use Rattle.mid_code.specs.Pairs.{HasSites}
use Rattle.word_stream.specs.Exchange.{checks_of}
use Rattle.world.specs.World.{ask, Setting}
use Rattle.world.specs.Requests.{Wants, Runs, Dies, Requests, Lost, wants}
use Rattle.world.specs.Ideal.{Ended as PlaceEnded, ideal}
use Rattle.verdicts.specs.declared.thread_end.ThreadEnd.TheVariants.{PeerEnded, WriteFault}
use Rattle.machine.specs.Side.{SideState, Went, Ended}
use Rattle.machine.specs.Steps.{side_op, takes_at, may_send_at}
use Rattle.pair_core.specs.History.{Past}
use Rattle.pair_core.specs.Fit.{IsPrefix}
use Rattle.pair_core.specs.Duo.{is_over}
use Rattle.pair_core.specs.Laws.{end_as, IsCleanEnd, IsClean}
use Rattle.pair_core.proofs.Pasts.{same_state}
use Rattle.pair_core.proofs.Prefixes.{prefix_refl, prefix_take}
use Rattle.pair_core.proofs.Groups.{next_line, trail_side, never_dies, never_lost}
use Rattle.pair_core.proofs.Steps.{lead_runs_takes, trail_runs_takes, trail_runs_sends}
use Rattle.pair_core.proofs.Exchanges.{checks_some, lead_asks_takes, lead_acts_takes, lead_hears_takes, trail_checks_takes, trail_acks_takes, trail_ends_takes, trail_ends_sends}
use Rattle.pair_core.proofs.Ideals.{stands_point, stands_owed, asked_words, asked_echoes, asked_events}
use Rattle.pair_core.proofs.Lead.{LeadAt, LeadStarts, LeadAwaits, LeadActs, LeadEnded, LeadFailed}
use Rattle.pair_core.proofs.Trail.{TrailAt, TrailStarts, TrailChecks, TrailAcks, TrailEnding, TrailEnded, TrailGone}

-- an end as the source's is clean, and no other
pub clean_as : (end : SourceEnd) → IsCleanEnd (end_as end)
clean_as (SourceExit status) = tt
clean_as (SourceTrap trap line) = tt

pub not_closed : (end : SourceEnd) → end_as end ≡ PeerEnded → ⊥
not_closed (SourceExit status) h = cc
not_closed (SourceTrap trap line) h = cc

pub not_fault : (end : SourceEnd) → end_as end ≡ WriteFault → ⊥
not_fault (SourceExit status) h = cc
not_fault (SourceTrap trap line) h = cc

module _ (setting : Setting) (sites : HasSites setting.program) where
  -- the leading side
  module _ (i : ℕ) (past : Past) where
    pub lead_words : LeadAt setting.program (ideal setting i) past → (k : ℕ) × IsPrefix past.sent (ideal setting k).words
    lead_words (LeadStarts m here shows) = (i, subst (λ t. IsPrefix t (ideal setting i).words) (sym shows.sent_so) (prefix_refl _))
    lead_words (LeadAwaits m q heard x rest here h acks shows) = (suc i, subst (λ t. IsPrefix t (ideal setting (suc i)).words) (asked_words setting sites i m q here h ∙ sym shows.sent_so) (prefix_refl _))
    lead_words (LeadActs m q here h shows) = (suc i, subst (λ t. IsPrefix t (ideal setting (suc i)).words) (asked_words setting sites i m q here h ∙ sym shows.sent_so) (prefix_refl _))
    lead_words (LeadEnded end ended shows) = (i, subst (λ t. IsPrefix t (ideal setting i).words) (sym shows.sent_so) (prefix_refl _))
    lead_words (LeadFailed m q written here h shows) = (suc i, subst (λ t. IsPrefix t (ideal setting (suc i)).words) (asked_words setting sites i m q here h ∙ sym shows.sent_so) (prefix_refl _))

    pub lead_events : LeadAt setting.program (ideal setting i) past → (k : ℕ) × IsPrefix past.events (ideal setting k).events
    lead_events (LeadStarts m here shows) = (i, subst (λ t. IsPrefix t (ideal setting i).events) (sym shows.events_so) (prefix_refl _))
    lead_events (LeadAwaits m q heard x rest here h acks shows) = (i, subst (λ t. IsPrefix t (ideal setting i).events) (sym shows.events_so) (prefix_refl _))
    lead_events (LeadActs m q here h shows) = (i, subst (λ t. IsPrefix t (ideal setting i).events) (sym shows.events_so) (prefix_refl _))
    lead_events (LeadEnded end ended shows) = (i, subst (λ t. IsPrefix t (ideal setting i).events) (sym shows.events_so) (prefix_refl _))
    lead_events (LeadFailed m q written here h shows) =
        let part = prefix_take (ideal setting i).events (ask (ideal setting i).world q).events written in
        (suc i, subst (λ t. IsPrefix past.events t) (sym (asked_events setting sites i m q here h)) (subst (λ t. IsPrefix t ((ideal setting i).events ++ (ask (ideal setting i).world q).events)) (sym shows.events_so) part))

    pub lead_clean : LeadAt setting.program (ideal setting i) past → IsClean past.at
    lead_clean (LeadStarts m here shows) = subst IsClean (sym shows.at_so) tt
    lead_clean (LeadAwaits m q heard x rest here h acks shows) = subst IsClean (sym shows.at_so) tt
    lead_clean (LeadActs m q here h shows) = subst IsClean (sym shows.at_so) tt
    lead_clean (LeadEnded end ended shows) = subst IsClean (sym shows.at_so) (clean_as end)
    lead_clean (LeadFailed m q written here h shows) = subst IsClean (sym shows.at_so) tt

    -- it stands where a state of the ideal run has written just what it sent and took
    abbrev Rests : Type 0
    Rests = (k : ℕ) × (past.sent ≡ (ideal setting k).words) × (past.took ≡ (ideal setting k).echoes)

    -- how it has ended: as the ideal run, or by an event that failed
    pub lead_final : LeadAt setting.program (ideal setting i) past → is_over past.at ≡ true →
        (k : ℕ) × (past.sent ≡ (ideal setting k).words) × (past.took ≡ (ideal setting k).echoes) ×
        (((end : SourceEnd) × ((ideal setting k).place ≡ PlaceEnded end) × (past.at ≡ Ended (end_as end)) × (past.events ≡ (ideal setting k).events)) ⊎ (past.at ≡ Ended WriteFault))
    lead_final (LeadStarts m here shows) over = let no : false ≡ true = sym (ap is_over shows.at_so) ∙ over in absurd (cc)
    lead_final (LeadAwaits m q heard x rest here h acks shows) over = let no : false ≡ true = sym (ap is_over shows.at_so) ∙ over in absurd (cc)
    lead_final (LeadActs m q here h shows) over = let no : false ≡ true = sym (ap is_over shows.at_so) ∙ over in absurd (cc)
    lead_final (LeadEnded end ended shows) over = (i, shows.sent_so, shows.took_so, inl (end, ended, shows.at_so, shows.events_so))
    lead_final (LeadFailed m q written here h shows) over = (suc i, shows.sent_so ∙ sym (asked_words setting sites i m q here h), shows.took_so ∙ sym (asked_echoes setting sites i m q here h), inr shows.at_so)

    module _ (s : SideState) (at : past.at ≡ Went s) where
      -- where it takes an acknowledgement, one of its request is still to come
      pub lead_hearing : LeadAt setting.program (ideal setting i) past → takes_at (side_op Lead setting.program s) ≡ true →
          (past.sent ≡ (ideal setting (suc i)).words) × (length past.took < length (ideal setting (suc i)).echoes)
      lead_hearing (LeadStarts m here shows) takes = absurd (start_takes (wants setting.program m) refl)
        where
          start_takes : (x : Wants) → wants setting.program m ≡ x → ⊥
          start_takes (Runs next) h =
              let stands = stands_point setting sites i m here in
              let no : true ≡ false = sym takes ∙ ap (λ t. takes_at (side_op Lead setting.program t)) (same_state past s _ at shows.at_so) ∙ lead_runs_takes setting.program m stands (next_line setting.program m stands) next h in cc
          start_takes (Dies words trap line) h = let stands = stands_point setting sites i m here in never_dies setting.program m stands (next_line setting.program m stands) words trap line h
          start_takes (Requests q) h =
              let stands = stands_point setting sites i m here in
              let no : true ≡ false = sym takes ∙ ap (λ t. takes_at (side_op Lead setting.program t)) (same_state past s _ at shows.at_so) ∙ lead_asks_takes setting.program m stands q h in cc
          start_takes (Lost words) h = let stands = stands_point setting sites i m here in never_lost setting.program m stands (next_line setting.program m stands) words h
      lead_hearing (LeadAwaits m q heard x rest here h acks shows) takes =
          let all : (ideal setting (suc i)).echoes ≡ ((ideal setting i).echoes ++ heard) ++ x ∷ rest =
          asked_echoes setting sites i m q here h ∙ ap (λ t. (ideal setting i).echoes ++ t) acks ∙ sym (append_assoc (ideal setting i).echoes heard (x ∷ rest)) in (
            shows.sent_so ∙ sym (asked_words setting sites i m q here h),
            omega (arith, ap length all, ap length shows.took_so, length-append ((ideal setting i).echoes ++ heard) (x ∷ rest)),
          )
      lead_hearing (LeadActs m q here h shows) takes =
          let stands = stands_point setting sites i m here in
          let no : true ≡ false = sym takes ∙ ap (λ t. takes_at (side_op Lead setting.program t)) (same_state past s _ at shows.at_so) ∙ lead_acts_takes setting.program m stands q h in absurd (cc)
      lead_hearing (LeadEnded end ended shows) takes = let both : Went s ≡ Ended (end_as end) = sym at ∙ shows.at_so in absurd (cc)
      lead_hearing (LeadFailed m q written here h shows) takes = let both : Went s ≡ Ended WriteFault = sym at ∙ shows.at_so in absurd (cc)

      pub lead_resting : LeadAt setting.program (ideal setting i) past → takes_at (side_op Lead setting.program s) ≡ false → Rests
      lead_resting (LeadStarts m here shows) takes = (i, shows.sent_so, shows.took_so)
      lead_resting (LeadAwaits m q heard x rest here h acks shows) takes =
          let stands = stands_point setting sites i m here in
          let no : false ≡ true = sym takes ∙ ap (λ t. takes_at (side_op Lead setting.program t)) (same_state past s _ at shows.at_so) ∙ lead_hears_takes setting.program m stands q h heard in absurd (cc)
      lead_resting (LeadActs m q here h shows) takes = (suc i, shows.sent_so ∙ sym (asked_words setting sites i m q here h), shows.took_so ∙ sym (asked_echoes setting sites i m q here h))
      lead_resting (LeadEnded end ended shows) takes = let both : Went s ≡ Ended (end_as end) = sym at ∙ shows.at_so in absurd (cc)
      lead_resting (LeadFailed m q written here h shows) takes = let both : Went s ≡ Ended WriteFault = sym at ∙ shows.at_so in absurd (cc)

  -- the trailing side
  module _ (j : ℕ) (quit : List ℕ → Type 0) (past : Past) where
    pub trail_echoes : TrailAt setting.program (ideal setting j) quit past → past.sent ≡ (ideal setting j).echoes
    trail_echoes (TrailStarts m here tells) = tells.sent_so
    trail_echoes (TrailChecks m q done x rest here h checks tells) = tells.sent_so
    trail_echoes (TrailAcks m q here h tells) = tells.sent_so
    trail_echoes (TrailEnding m q r end owed h over tells) = tells.sent_so
    trail_echoes (TrailEnded end ended tells) = tells.sent_so
    trail_echoes (TrailGone m q done x rest here h checks tells gone) = tells.sent_so

    pub trail_words : TrailAt setting.program (ideal setting j) quit past → length (ideal setting j).words ≤ length past.took
    trail_words (TrailStarts m here tells) = omega (arith, ap length tells.took_so)
    trail_words (TrailChecks m q done x rest here h checks tells) = omega (arith, ap length tells.took_so, length-append (ideal setting j).words done)
    trail_words (TrailAcks m q here h tells) = omega (arith, ap length tells.took_so, length-append (ideal setting j).words (checks_of q))
    trail_words (TrailEnding m q r end owed h over tells) = omega (arith, ap length tells.took_so)
    trail_words (TrailEnded end ended tells) = omega (arith, ap length tells.took_so)
    trail_words (TrailGone m q done x rest here h checks tells gone) = omega (arith, ap length tells.took_so, length-append (ideal setting j).words done)

    pub trail_clean : TrailAt setting.program (ideal setting j) quit past → IsClean past.at
    trail_clean (TrailStarts m here tells) = subst IsClean (sym tells.at_so) tt
    trail_clean (TrailChecks m q done x rest here h checks tells) = subst IsClean (sym tells.at_so) tt
    trail_clean (TrailAcks m q here h tells) = subst IsClean (sym tells.at_so) tt
    trail_clean (TrailEnding m q r end owed h over tells) = subst IsClean (sym tells.at_so) tt
    trail_clean (TrailEnded end ended tells) = subst IsClean (sym tells.at_so) (clean_as end)
    trail_clean (TrailGone m q done x rest here h checks tells gone) = subst IsClean (sym tells.at_so) tt

    -- it never ends by an event that failed
    pub trail_no_fault : TrailAt setting.program (ideal setting j) quit past → past.at ≡ Ended WriteFault → ⊥
    trail_no_fault (TrailStarts m here tells) h = let both : Ended WriteFault ≡ Went (trail_side setting.program m 0) = sym h ∙ tells.at_so in cc
    trail_no_fault (TrailChecks m q done x rest here w checks tells) h = let both : Ended WriteFault ≡ Went (trail_side setting.program m (length done)) = sym h ∙ tells.at_so in cc
    trail_no_fault (TrailAcks m q here w tells) h = let both : Ended WriteFault ≡ Went (trail_side setting.program m (length (checks_of q))) = sym h ∙ tells.at_so in cc
    trail_no_fault (TrailEnding m q r end owed w over tells) h = let both : Ended WriteFault ≡ Went (trail_side setting.program m (suc (length (checks_of q)))) = sym h ∙ tells.at_so in cc
    trail_no_fault (TrailEnded end ended tells) h = not_fault end (let both : Ended (end_as end) ≡ Ended WriteFault = sym tells.at_so ∙ h in cc)
    trail_no_fault (TrailGone m q done x rest here w checks tells gone) h = let both : Ended WriteFault ≡ Ended PeerEnded = sym h ∙ tells.at_so in cc

    -- how it has ended: as the ideal run, or because no word will come
    pub trail_final : TrailAt setting.program (ideal setting j) quit past → is_over past.at ≡ true →
        ((end : SourceEnd) × ((ideal setting j).place ≡ PlaceEnded end) × (past.at ≡ Ended (end_as end)) × (past.took ≡ (ideal setting j).words)) ⊎ quit past.took
    trail_final (TrailStarts m here tells) over = let no : false ≡ true = sym (ap is_over tells.at_so) ∙ over in absurd (cc)
    trail_final (TrailChecks m q done x rest here h checks tells) over = let no : false ≡ true = sym (ap is_over tells.at_so) ∙ over in absurd (cc)
    trail_final (TrailAcks m q here h tells) over = let no : false ≡ true = sym (ap is_over tells.at_so) ∙ over in absurd (cc)
    trail_final (TrailEnding m q r end owed h ov tells) over = let no : false ≡ true = sym (ap is_over tells.at_so) ∙ over in absurd (cc)
    trail_final (TrailEnded end ended tells) over = inl (end, ended, tells.at_so, tells.took_so)
    trail_final (TrailGone m q done x rest here h checks tells gone) over = inr gone

    module _ (s : SideState) (at : past.at ≡ Went s) where
      -- where it takes a word, one of its request is still to come
      pub trail_checking : TrailAt setting.program (ideal setting j) quit past → takes_at (side_op Trail setting.program s) ≡ true → length past.took < length (ideal setting (suc j)).words
      trail_checking (TrailStarts m here tells) takes = start_takes (wants setting.program m) refl
        where
          start_takes : (x : Wants) → wants setting.program m ≡ x → length past.took < length (ideal setting (suc j)).words
          start_takes (Runs next) h =
              let stands = stands_point setting sites j m here in
              let no : true ≡ false = sym takes ∙ ap (λ t. takes_at (side_op Trail setting.program t)) (same_state past s _ at tells.at_so) ∙ trail_runs_takes setting.program m stands (next_line setting.program m stands) next h in absurd (cc)
          start_takes (Dies words trap line) h = let stands = stands_point setting sites j m here in absurd (never_dies setting.program m stands (next_line setting.program m stands) words trap line h)
          start_takes (Requests q) h =
              let stands = stands_point setting sites j m here in
              let some = checks_some setting.program m stands q h in
              omega (arith, ap length tells.took_so, ap length (asked_words setting sites j m q here h), length-append (ideal setting j).words (checks_of q), ap length some.2)
          start_takes (Lost words) h = let stands = stands_point setting sites j m here in absurd (never_lost setting.program m stands (next_line setting.program m stands) words h)
      trail_checking (TrailChecks m q done x rest here h checks tells) takes =
          omega (arith, ap length tells.took_so, ap length (asked_words setting sites j m q here h), length-append (ideal setting j).words (checks_of q), length-append (ideal setting j).words done, ap length checks, length-append done (x ∷ rest))
      trail_checking (TrailAcks m q here h tells) takes =
          let stands = stands_point setting sites j m here in
          let no : true ≡ false = sym takes ∙ ap (λ t. takes_at (side_op Trail setting.program t)) (same_state past s _ at tells.at_so) ∙ trail_acks_takes setting.program m stands q h in absurd (cc)
      trail_checking (TrailEnding m q r end owed h over tells) takes =
          let stands = stands_owed setting sites j m r owed in
          let no : true ≡ false = sym takes ∙ ap (λ t. takes_at (side_op Trail setting.program t)) (same_state past s _ at tells.at_so) ∙ trail_ends_takes setting.program m stands q h r end over in absurd (cc)
      trail_checking (TrailEnded end ended tells) takes = let both : Went s ≡ Ended (end_as end) = sym at ∙ tells.at_so in absurd (cc)
      trail_checking (TrailGone m q done x rest here h checks tells gone) takes = let both : Went s ≡ Ended PeerEnded = sym at ∙ tells.at_so in absurd (cc)

      -- where it may send, it has taken all words of its request, and sends its acknowledgements
      pub trail_acking : TrailAt setting.program (ideal setting j) quit past → takes_at (side_op Trail setting.program s) ≡ false → may_send_at (side_op Trail setting.program s) ≡ true →
          (past.took ≡ (ideal setting (suc j)).words) × (length (ideal setting j).words < length (ideal setting (suc j)).words)
      trail_acking (TrailStarts m here tells) takes sends = absurd (start_sends (wants setting.program m) refl)
        where
          start_sends : (x : Wants) → wants setting.program m ≡ x → ⊥
          start_sends (Runs next) h =
              let stands = stands_point setting sites j m here in
              let no : true ≡ false = sym sends ∙ ap (λ t. may_send_at (side_op Trail setting.program t)) (same_state past s _ at tells.at_so) ∙ trail_runs_sends setting.program m stands (next_line setting.program m stands) next h in cc
          start_sends (Dies words trap line) h = let stands = stands_point setting sites j m here in never_dies setting.program m stands (next_line setting.program m stands) words trap line h
          start_sends (Requests q) h =
              let stands = stands_point setting sites j m here in
              let some = checks_some setting.program m stands q h in
              let no : false ≡ true = sym takes ∙ ap (λ t. takes_at (side_op Trail setting.program t)) (same_state past s _ at tells.at_so) ∙ trail_checks_takes setting.program m stands q h [] some.0 some.1 some.2 in cc
          start_sends (Lost words) h = let stands = stands_point setting sites j m here in never_lost setting.program m stands (next_line setting.program m stands) words h
      trail_acking (TrailChecks m q done x rest here h checks tells) takes sends =
          let stands = stands_point setting sites j m here in
          let no : false ≡ true = sym takes ∙ ap (λ t. takes_at (side_op Trail setting.program t)) (same_state past s _ at tells.at_so) ∙ trail_checks_takes setting.program m stands q h done x rest checks in absurd (cc)
      trail_acking (TrailAcks m q here h tells) takes sends =
          let stands = stands_point setting sites j m here in
          let some = checks_some setting.program m stands q h in (
            tells.took_so ∙ sym (asked_words setting sites j m q here h),
            omega (arith, ap length (asked_words setting sites j m q here h), length-append (ideal setting j).words (checks_of q), ap length some.2),
          )
      trail_acking (TrailEnding m q r end owed h over tells) takes sends =
          let stands = stands_owed setting sites j m r owed in
          let no : true ≡ false = sym sends ∙ ap (λ t. may_send_at (side_op Trail setting.program t)) (same_state past s _ at tells.at_so) ∙ trail_ends_sends setting.program m stands q h r end over in absurd (cc)
      trail_acking (TrailEnded end ended tells) takes sends = let both : Went s ≡ Ended (end_as end) = sym at ∙ tells.at_so in absurd (cc)
      trail_acking (TrailGone m q done x rest here h checks tells gone) takes sends = let both : Went s ≡ Ended PeerEnded = sym at ∙ tells.at_so in absurd (cc)
