-- Both sides beside the ideal run, after every event of the core.
use Rattle.std.proofs.Common.{◌≡◌, ℕ, suc, ◌+◌, ◌≤◌, inl, inr, Bool, true, false, ◌||◌, List, [], ◌∷◌, ◌++◌, length, Option, Some, None, refl, sym, ap, ap₂, ◌∙◌, subst, subst₂, arith, length-append, append_assoc, append-nil}
use Rattle.std.proofs.lemmas.Bool.{cases_lt}
use Rattle.srmt_base.specs.declared.event.Event.{Event}
use Rattle.srmt_base.specs.declared.limits.Limits.{Limits}
use Rattle.srmt_base.specs.declared.side.Side.{Side}
use Rattle.srmt_base.specs.declared.side.Side.TheVariants.{Lead, Trail}
use Rattle.srmt_base.specs.declared.trap.SourceEnd.{SourceEnd}
use Rattle.mid_code.specs.declared.program.MidFunction.{MidFunction}
use Rattle.mid_code.specs.Classes.{SharedProgram}
use Rattle.world.specs.Standing.{Own, started_own, started_standing}
use Rattle.mid_code.specs.Program.{function_at}
use Rattle.mid_code.specs.Pairs.{HasSites}
use Rattle.mid_code.specs.declared.class.Class.{Class}
use Rattle.mid_code.specs.Versions.{Table, leading, trailing}
use Rattle.world.specs.Ideal.{Ended as PlaceEnded, ideal}
use Rattle.mid_code.proofs.StartFits.{with_main}
use Rattle.world.specs.World.{Setting}
use Rattle.verdicts.specs.declared.thread_end.ThreadEnd.TheVariants.{WriteFault}
use Rattle.machine.specs.Side.{SideState, Meet, Plain, Got, Closed, Failed, Outcome, Went, Ended, StepGives}
use Rattle.machine.specs.Steps.{side_op, takes_at}
use Rattle.machine.specs.Meets.{MeetsBy, next_of, CanMeet}
use Rattle.machine.specs.Upset.{no_upsets}
use Rattle.pair_core.specs.History.{Past, opening_past, word_met, grown, HasPast}
use Rattle.pair_core.specs.Duo.{DuoState, opening_duo, is_over, view_of, Finds, Waits, Meets, finds, put_on, made, turn_found, turn_at, turn_of, Entry, Scheduled, run_on, scheduled}
use Rattle.pair_core.proofs.Prefixes.{none_added, prefix_length, prefix_trans}
use Rattle.pair_core.proofs.Groups.{classes_row, group_start, put_at, within_group}
use Rattle.pair_core.proofs.Ideals.{grows, below_end}
use Rattle.pair_core.proofs.Lead.{LeadAt, LeadStarts, LeadMeets, lead_step}
use Rattle.pair_core.proofs.Trail.{TrailAt, TrailStarts, TrailMeets, trail_as, trail_step}
use Rattle.pair_core.proofs.Bounds.{lead_words, lead_final, lead_hearing, trail_echoes, trail_words, trail_final, trail_checking}
use Rattle.pair_core.proofs.Finding.{IsFound, found, alike, writes_nothing}

-- the trailing side was told that no word will come: an event has failed, and all was taken
abbrev pub Quits : Past → List ℕ → Type 0
Quits lead took = (lead.at ≡ Ended WriteFault) × (took ≡ lead.sent)

-- the state of both sides, with their histories beside the ideal run
pub record Good (setting : Setting) (duo : DuoState) (events : List Event) : Type 0 where
  pub lead : Past
  pub trail : Past
  pub i : ℕ
  pub j : ℕ
  pub lead_past : HasPast setting no_upsets Lead duo.lead_steps lead
  pub trail_past : HasPast setting no_upsets Trail duo.trail_steps trail
  pub lead_at : LeadAt setting.program (ideal setting i) lead
  pub trail_at : TrailAt setting.program (ideal setting j) (Quits lead) trail
  pub is_lead : duo.lead ≡ lead.at
  pub is_trail : duo.trail ≡ trail.at
  pub is_world : duo.world ≡ lead.world
  pub words : lead.sent ≡ trail.took ++ duo.words
  pub acks : trail.sent ≡ lead.took ++ duo.acks
  pub words_sent : duo.words_sent ≡ length lead.sent
  pub acks_sent : duo.acks_sent ≡ length trail.sent
  pub applied : duo.applied ≡ (lead.applied || trail.applied)
  pub written : events ≡ lead.events

-- what is on the way after a step that sends
on_way : (over : Bool) (sofar took way sent : List ℕ) → sofar ≡ took ++ way → (over ≡ true → sent ≡ []) → sofar ++ sent ≡ took ++ put_on over way sent
on_way true sofar took way sent e none = ap (λ t. sofar ++ t) (none refl) ∙ append-nil sofar ∙ e
on_way false sofar took way sent e none = ap (λ t. t ++ sent) e ∙ append_assoc took way sent

taken_way : (sent took coming met left : List ℕ) → sent ≡ took ++ coming → coming ≡ met ++ left → sent ≡ (took ++ met) ++ left
taken_way sent took coming met left e f = e ∙ ap (λ t. took ++ t) f ∙ sym (append_assoc took met left)

-- the opening
none_before : (table : Table) (cs : Option (List Class)) (f : Option MidFunction) → 0 ≡ group_start table 0 cs f + 0
none_before table None f = omega arith
none_before table (Some cs) None = omega arith
none_before table (Some cs) (Some f) = omega arith

starts_by : (table : Table) (program : SharedProgram) (own : Own) (limits : Limits) (f : Option MidFunction) →
    record { machine = with_main program.program limits f; own = own } ≡ within_group table program (record { machine = with_main program.program limits f; own = own }) 0
starts_by table program own limits None =
    ap (λ p. put_at p (record { machine = with_main program.program limits None; own = own })) (none_before table (classes_row program program.program.main) (function_at program.program program.program.main))
starts_by table program own limits (Some f) =
    ap (λ p. put_at p (record { machine = with_main program.program limits (Some f); own = own })) (none_before table (classes_row program program.program.main) (function_at program.program program.program.main))

module _ (setting : Setting) (sites : HasSites setting.program) where
  starts_group : (table : Table) → started_standing setting.program.program setting.limits ≡ within_group table setting.program (started_standing setting.program.program setting.limits) 0
  starts_group table = starts_by table setting.program (started_own setting.program.program setting.limits) setting.limits (function_at setting.program.program setting.program.program.main)

  pub good_opening : Good setting (opening_duo setting) []
  good_opening = record {
    lead = opening_past setting;
    trail = opening_past setting;
    i = 0;
    j = 0;
    lead_past = refl;
    trail_past = refl;
    lead_at = LeadStarts (started_standing setting.program.program setting.limits) refl (record { at_so = ap (λ m. Went (record { at = m; heard = [] })) (starts_group leading); world_so = refl; took_so = refl; sent_so = refl; events_so = refl });
    trail_at = TrailStarts (started_standing setting.program.program setting.limits) refl (record { at_so = ap (λ m. Went (record { at = m; heard = [] })) (starts_group trailing); took_so = refl; sent_so = refl });
    is_lead = refl;
    is_trail = refl;
    is_world = refl;
    words = refl;
    acks = refl;
    words_sent = refl;
    acks_sent = refl;
    applied = refl;
    written = refl;
  }

  module _ (duo : DuoState) (events : List Event) (g : Good setting duo events) where
    -- a trailing side that has ended beside a leading side that has not has ended as the ideal run
    trail_done : (s : SideState) → duo.lead ≡ Went s → is_over duo.trail ≡ true → (end : SourceEnd) × ((ideal setting g.j).place ≡ PlaceEnded end) × (g.trail.took ≡ (ideal setting g.j).words)
    trail_done s at over =
        elim (trail_final setting sites g.j (Quits g.lead) g.trail g.trail_at (ap is_over (sym g.is_trail) ∙ over)) as (λ _. (end : SourceEnd) × ((ideal setting g.j).place ≡ PlaceEnded end) × (g.trail.took ≡ (ideal setting g.j).words)) [
          | inl done ↦ (done.0, done.1, done.3)
          | inr quit ↦ let both : Went s ≡ Ended WriteFault = sym at ∙ g.is_lead ∙ quit.0 in absurd (cc)
        ]

    -- an acknowledgement that comes is right, and the link of the leading side is never closed
    pub lead_meets : (s : SideState) → duo.lead ≡ Went s → (meet : Meet) (left : List ℕ) → CanMeet Lead setting.program s duo.world meet → duo.acks ≡ word_met meet ++ left → (meet ≡ Closed → (is_over duo.trail ≡ true) × (duo.acks ≡ [])) → LeadMeets setting sites g.lead meet
    lead_meets s at Plain left can coming closed = tt
    lead_meets s at (Failed written) left can coming closed = tt
    lead_meets s at (Got word) left can coming closed =
        let sent = trail_echoes setting sites g.j (Quits g.lead) g.trail g.trail_at in
        (g.j, (left, sym sent ∙ taken_way g.trail.sent g.lead.took duo.acks (word ∷ []) left g.acks coming))
    lead_meets s at Closed left can coming closed =
        let done = trail_done s at (closed refl).0 in
        let hears = lead_hearing setting sites g.i g.lead s (sym g.is_lead ∙ at) g.lead_at can in
        let grown = (below_end setting sites g.j (suc g.i) done.0 done.1).echoes in
        let short = prefix_length _ _ grown in
        let all = trail_echoes setting sites g.j (Quits g.lead) g.trail g.trail_at in
        absurd (omega (arith, hears.1, short, ap length all, ap length g.acks, length-append g.lead.took duo.acks, ap length (closed refl).1))

    module _ (s : SideState) (at : duo.lead ≡ Went s) (meet : Meet) (left : List ℕ) (can : CanMeet Lead setting.program s duo.world meet) (coming : duo.acks ≡ word_met meet ++ left) (closed : meet ≡ Closed → (is_over duo.trail ≡ true) × (duo.acks ≡ [])) where
      abbrev lead_gives : StepGives
      lead_gives = next_of Lead setting.program s duo.world meet

      abbrev lead_after : Past
      lead_after = grown g.lead meet lead_gives

      lead_next_at : (k : ℕ) × LeadAt setting.program (ideal setting k) lead_after
      lead_next_at =
          let can' : CanMeet Lead setting.program s g.lead.world meet = subst (λ w. CanMeet Lead setting.program s w meet) g.is_world can in
          let next = lead_step setting sites g.i g.lead s (sym g.is_lead ∙ at) g.lead_at meet can' (lead_meets s at meet left can coming closed) in
          (next.0, subst (λ w. LeadAt setting.program (ideal setting next.0) (grown g.lead meet (next_of Lead setting.program s w meet))) (sym g.is_world) next.1)

      -- nothing is dropped
      lead_drops_none : is_over duo.trail ≡ true → lead_gives.sent ≡ []
      lead_drops_none over =
          let done = trail_done s at over in
          let more = lead_words setting sites lead_next_at.0 lead_after lead_next_at.1 in
          let far = prefix_length _ _ (below_end setting sites g.j more.0 done.0 done.1).words in
          let near = prefix_length _ _ more.1 in
          none_added g.lead.sent lead_gives.sent (omega (arith, near, far, ap length done.2, ap length g.words, length-append g.trail.took duo.words))

      pub good_lead : Good setting (made Lead lead_gives left duo) (events ++ lead_gives.events)
      good_lead = record {
        lead = lead_after;
        trail = g.trail;
        i = lead_next_at.0;
        j = g.j;
        lead_past = let one : suc duo.lead_steps ≡ duo.lead_steps + 1 = omega arith in
            subst (λ n. HasPast setting no_upsets Lead n lead_after) one (g.lead, g.lead_past, record { stood = s; goes = sym g.is_lead ∙ at; meet = meet; can_meet = subst (λ w. CanMeet Lead setting.program s w meet) g.is_world can; grows = ap (λ w. grown g.lead meet (next_of Lead setting.program s w meet)) g.is_world });
        trail_past = g.trail_past;
        lead_at = lead_next_at.1;
        trail_at = trail_as setting.program (ideal setting g.j) (Quits g.lead) (Quits lead_after) g.trail (λ took quit. let both : Went s ≡ Ended WriteFault = sym at ∙ g.is_lead ∙ quit.0 in absurd (cc)) g.trail_at;
        is_lead = refl;
        is_trail = g.is_trail;
        is_world = refl;
        words = on_way (is_over duo.trail) g.lead.sent g.trail.took duo.words lead_gives.sent g.words lead_drops_none;
        acks = taken_way g.trail.sent g.lead.took duo.acks (word_met meet) left g.acks coming;
        words_sent = omega (arith, g.words_sent, length-append g.lead.sent lead_gives.sent);
        acks_sent = g.acks_sent;
        applied = g.applied;
        written = ap (λ t. t ++ lead_gives.events) g.written;
      }

    -- a word that comes is right, and where none will come an event has failed
    trail_closes : (s : SideState) → duo.trail ≡ Went s → takes_at (side_op Trail setting.program s) ≡ true → is_over duo.lead ≡ true → duo.words ≡ [] → Quits g.lead (g.trail.took ++ [])
    trail_closes s at takes over none =
        let final = lead_final setting sites g.i g.lead g.lead_at (ap is_over (sym g.is_lead) ∙ over) in
        let checks = trail_checking setting sites g.j (Quits g.lead) g.trail s (sym g.is_trail ∙ at) g.trail_at takes in
        let all : g.trail.took ++ [] ≡ g.lead.sent = sym (g.words ∙ ap (λ t. g.trail.took ++ t) none) in
        elim final.3 as (λ _. Quits g.lead (g.trail.took ++ [])) [
          | inl ended ↦
              let far = prefix_length _ _ (below_end setting sites final.0 (suc g.j) ended.0 ended.1).words in
              absurd (omega (arith, checks, far, ap length final.1, ap length all, length-append g.trail.took []))
          | inr fault ↦ (fault, all)
        ]

    pub trail_meets : (s : SideState) → duo.trail ≡ Went s → (meet : Meet) (left : List ℕ) → CanMeet Trail setting.program s duo.world meet → duo.words ≡ word_met meet ++ left → (meet ≡ Closed → (is_over duo.lead ≡ true) × (duo.words ≡ [])) → TrailMeets setting sites (Quits g.lead) g.trail meet
    trail_meets s at Plain left can coming closed = tt
    trail_meets s at (Failed written) left can coming closed = tt
    trail_meets s at (Got word) left can coming closed =
        let more = lead_words setting sites g.i g.lead g.lead_at in
        (more.0, prefix_trans (g.trail.took ++ word ∷ []) g.lead.sent _ (left, taken_way g.lead.sent g.trail.took duo.words (word ∷ []) left g.words coming) more.1)
    trail_meets s at Closed left can coming closed = trail_closes s at can (closed refl).0 (closed refl).1

    module _ (s : SideState) (at : duo.trail ≡ Went s) (meet : Meet) (left : List ℕ) (can : CanMeet Trail setting.program s duo.world meet) (coming : duo.words ≡ word_met meet ++ left) (closed : meet ≡ Closed → (is_over duo.lead ≡ true) × (duo.words ≡ [])) where
      abbrev trail_gives : StepGives
      trail_gives = next_of Trail setting.program s g.trail.world meet

      abbrev trail_after : Past
      trail_after = grown g.trail meet trail_gives

      pub can_trail : CanMeet Trail setting.program s g.trail.world meet
      can_trail = subst (λ n. MeetsBy (takes_at (side_op Trail setting.program s)) n meet) (ap length (alike setting.program s duo.world g.trail.world Plain).events) can

      trail_next_at : (k : ℕ) × TrailAt setting.program (ideal setting k) (Quits g.lead) trail_after
      trail_next_at = trail_step setting sites (Quits g.lead) g.j g.trail s (sym g.is_trail ∙ at) g.trail_at meet can_trail (trail_meets s at meet left can coming closed)

      paced_at : (k l : ℕ) → length (ideal setting l).words ≤ length (ideal setting k).words → length (ideal setting l).echoes ≤ length (ideal setting k).echoes
      paced_at k l short =
          elim (cases_lt k l) as (λ _. length (ideal setting l).echoes ≤ length (ideal setting k).echoes) [
            | inl less ↦ omega (arith, short, (grows setting sites k l (omega arith)).paced)
            | inr more ↦ prefix_length _ _ (grows setting sites l k more).echoes
          ]

      trail_drops_none : is_over duo.lead ≡ true → trail_gives.sent ≡ []
      trail_drops_none over =
          let final = lead_final setting sites g.i g.lead g.lead_at (ap is_over (sym g.is_lead) ∙ over) in
          let took = trail_words setting sites trail_next_at.0 (Quits g.lead) trail_after trail_next_at.1 in
          let sent = trail_echoes setting sites trail_next_at.0 (Quits g.lead) trail_after trail_next_at.1 in
          let way = taken_way g.lead.sent g.trail.took duo.words (word_met meet) left g.words coming in
          let short : length (ideal setting trail_next_at.0).words ≤ length (ideal setting final.0).words =
          omega (arith, took, ap length way, length-append (g.trail.took ++ word_met meet) left, ap length final.1) in
          let few = paced_at final.0 trail_next_at.0 short in
          none_added g.trail.sent trail_gives.sent (omega (arith, few, ap length sent, ap length final.2, ap length g.acks, length-append g.lead.took duo.acks))

      good_trail_own : Good setting (made Trail trail_gives left duo) events
      good_trail_own = record {
        lead = g.lead;
        trail = trail_after;
        i = g.i;
        j = trail_next_at.0;
        lead_past = g.lead_past;
        trail_past = let one : suc duo.trail_steps ≡ duo.trail_steps + 1 = omega arith in
            subst (λ n. HasPast setting no_upsets Trail n trail_after) one (g.trail, g.trail_past, record { stood = s; goes = sym g.is_trail ∙ at; meet = meet; can_meet = can_trail; grows = refl });
        lead_at = g.lead_at;
        trail_at = trail_next_at.1;
        is_lead = g.is_lead;
        is_trail = refl;
        is_world = g.is_world;
        words = taken_way g.lead.sent g.trail.took duo.words (word_met meet) left g.words coming;
        acks = on_way (is_over duo.lead) g.trail.sent g.lead.took duo.acks trail_gives.sent g.acks trail_drops_none;
        words_sent = g.words_sent;
        acks_sent = omega (arith, g.acks_sent, length-append g.trail.sent trail_gives.sent);
        applied = g.applied;
        written = g.written;
      }

      pub good_trail : Good setting (made Trail (next_of Trail setting.program s duo.world meet) left duo) (events ++ (next_of Trail setting.program s duo.world meet).events)
      good_trail =
          let same = alike setting.program s duo.world g.trail.world meet in
          let state : made Trail trail_gives left duo ≡ made Trail (next_of Trail setting.program s duo.world meet) left duo =
          ap₂ (λ o t. made Trail (record { outcome = o; sent = t; world = duo.world; events = [] }) left duo) (sym same.outcome) (sym same.sent) in
          let none : events ≡ events ++ (next_of Trail setting.program s duo.world meet).events = sym (append-nil events) ∙ ap (λ t. events ++ t) (sym (writes_nothing setting.program s duo.world meet)) in
          subst₂ (λ d e. Good setting d e) state none good_trail_own

    same_events : (d : DuoState) → Good setting d events → Good setting d (events ++ [])
    same_events d h = subst (λ e. Good setting d e) (sym (append-nil events)) h

    lead_found : (s : SideState) → duo.lead ≡ Went s → (f : Finds) → IsFound (takes_at (side_op Lead setting.program s)) (length (next_of Lead setting.program s duo.world Plain).events) (view_of Lead duo) f →
        Good setting (turn_found f Lead setting.program s duo).state (events ++ (turn_found f Lead setting.program s duo).events)
    lead_found s at Waits h = same_events duo g
    lead_found s at (Meets meet left) h = good_lead s at meet left h.0 h.1 h.2

    trail_found : (s : SideState) → duo.trail ≡ Went s → (f : Finds) → IsFound (takes_at (side_op Trail setting.program s)) (length (next_of Trail setting.program s duo.world Plain).events) (view_of Trail duo) f →
        Good setting (turn_found f Trail setting.program s duo).state (events ++ (turn_found f Trail setting.program s duo).events)
    trail_found s at Waits h = same_events duo g
    trail_found s at (Meets meet left) h = good_trail s at meet left h.0 h.1 h.2

    lead_turned : (fails : Option ℕ) (o : Outcome) → duo.lead ≡ o → Good setting (turn_at o Lead setting.program fails duo).state (events ++ (turn_at o Lead setting.program fails duo).events)
    lead_turned fails (Went s) at = lead_found s at (finds Lead setting.program s duo.world fails (view_of Lead duo)) (found Lead setting.program s duo.world fails (view_of Lead duo))
    lead_turned fails (Ended end) at = same_events duo g

    trail_turned : (fails : Option ℕ) (o : Outcome) → duo.trail ≡ o → Good setting (turn_at o Trail setting.program fails duo).state (events ++ (turn_at o Trail setting.program fails duo).events)
    trail_turned fails (Went s) at = trail_found s at (finds Trail setting.program s duo.world fails (view_of Trail duo)) (found Trail setting.program s duo.world fails (view_of Trail duo))
    trail_turned fails (Ended end) at = same_events duo g

    -- every event keeps it
    pub good_turn : (side : Side) (fails : Option ℕ) → Good setting (turn_of setting.program no_upsets side fails duo).state (events ++ (turn_of setting.program no_upsets side fails duo).events)
    good_turn Lead fails = lead_turned fails duo.lead refl
    good_turn Trail fails = trail_turned fails duo.trail refl

  -- and so does every schedule
  pub good_run : (entries : List Entry) (sofar : Scheduled) → Good setting sofar.duo sofar.events → Good setting (run_on setting.program no_upsets sofar entries).duo (run_on setting.program no_upsets sofar entries).events
  good_run [] sofar g = g
  good_run (entry ∷ entries) sofar g =
      good_run entries (record { duo = (turn_of setting.program no_upsets entry.side entry.fails sofar.duo).state; events = sofar.events ++ (turn_of setting.program no_upsets entry.side entry.fails sofar.duo).events }) (good_turn sofar.duo sofar.events g entry.side entry.fails)

  pub good_scheduled : (entries : List Entry) → Good setting (scheduled setting no_upsets entries).duo (scheduled setting no_upsets entries).events
  good_scheduled entries = good_run entries (record { duo = opening_duo setting; events = [] }) good_opening
