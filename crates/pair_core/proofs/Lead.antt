-- The leading side beside the ideal run.
use Rattle.std.proofs.Common.{◌≡◌, ℕ, suc, ◌+◌, List, [], ◌∷◌, ◌++◌, length, take, refl, sym, ap, ap₂, ◌∙◌, subst, subst₂, arith, append-nil, append_assoc}
use Rattle.srmt_base.specs.declared.event.Event.{Event}
use Rattle.srmt_base.specs.declared.side.Side.{Side}
use Rattle.srmt_base.specs.declared.side.Side.TheVariants.{Lead}
use Rattle.srmt_base.specs.declared.trap.SourceEnd.{SourceEnd}
use Rattle.mid_code.specs.Classes.{SharedProgram}
use Rattle.world.specs.Standing.{Standing}
use Rattle.mid_code.specs.Pairs.{HasSites}
use Rattle.word_stream.specs.declared.request.Request.{Request}
use Rattle.word_stream.specs.Exchange.{checks_of, acks_of}
use Rattle.world.specs.World.{WorldState, Over as WorldOver, ask, Setting}
use Rattle.world.specs.Requests.{Wants, Runs, Dies, Requests, Lost, wants, Resumed, Back, Over, resume}
use Rattle.world.specs.Ideal.{Here, Ended as PlaceEnded, IdealState, place_by, ideal}
use Rattle.verdicts.specs.declared.thread_end.ThreadEnd.TheVariants.{WriteFault}
use Rattle.machine.specs.Side.{SideState, Meet, Plain, Got, Closed, Failed, Outcome, Went, Ended, StepGives}
use Rattle.machine.specs.Meets.{next_of, CanMeet}
use Rattle.pair_core.specs.History.{Past, word_met, grown}
use Rattle.pair_core.specs.Fit.{IsPrefix}
use Rattle.pair_core.specs.Laws.{end_as}
use Rattle.pair_core.proofs.Pasts.{same_state}
use Rattle.pair_core.proofs.Prefixes.{prefix_trans, next_of_two}
use Rattle.pair_core.proofs.Groups.{next_line, lead_side, never_dies, never_lost}
use Rattle.pair_core.proofs.Steps.{lead_goes, lead_runs_takes}
use Rattle.pair_core.proofs.Exchanges.{acks_some, lead_asks, lead_asks_takes, lead_hears_last, lead_hears_more, lead_hears_takes, lead_acts_back, lead_acts_over, lead_acts_takes, lead_fails}
use Rattle.pair_core.proofs.Ideals.{answered_state, next_runs, next_twice, grows, stands_point, asked_echoes}

-- what a history shows, part by part
pub record Shows (past : Past) (at : Outcome) (w : WorldState) (took sent : List ℕ) (events : List Event) : Type 0 where
  pub at_so : past.at ≡ at
  pub world_so : past.world ≡ w
  pub took_so : past.took ≡ took
  pub sent_so : past.sent ≡ sent
  pub events_so : past.events ≡ events

-- one step more, by what the step gives
pub shows_on : (side : Side) (program : SharedProgram) (past : Past) (s s' : SideState) (meet : Meet) (w : WorldState) (took sent : List ℕ) (events : List Event) (gives : StepGives) (took' sent' : List ℕ) (events' : List Event) →
    Shows past (Went s) w took sent events → past.at ≡ Went s' → next_of side program s w meet ≡ gives →
    took ++ word_met meet ≡ took' → sent ++ gives.sent ≡ sent' → events ++ gives.events ≡ events' →
    Shows (grown past meet (next_of side program s' past.world meet)) gives.outcome gives.world took' sent' events'
shows_on side program past s s' meet w took sent events gives took' sent' events' shows at law e f g =
    let made : next_of side program s' past.world meet ≡ gives = ap₂ (λ x y. next_of side program x y meet) (same_state past s' s at shows.at_so) shows.world_so ∙ law in
    record {
      at_so = ap (λ x. x.outcome) made;
      world_so = ap (λ x. x.world) made;
      took_so = ap (λ x. x ++ word_met meet) shows.took_so ∙ e;
      sent_so = ap₂ (λ x y. x ++ y.sent) shows.sent_so made ∙ f;
      events_so = ap₂ (λ x y. x ++ y.events) shows.events_so made ∙ g;
    }

-- where the leading side can be beside a state of the ideal run
pub data LeadAt (program : SharedProgram) (c : IdealState) (past : Past) : Type 0 where
  -- at the first instruction of the group
  LeadStarts : (m : Standing) → c.place ≡ Here m → Shows past (Went (lead_side program m 0 [])) c.world c.echoes c.words c.events → LeadAt program c past
  -- it awaits the acknowledgements of its request, and has heard some
  LeadAwaits : (m : Standing) (q : Request) (heard : List ℕ) (x : ℕ) (rest : List ℕ) → c.place ≡ Here m → wants program m ≡ Requests q → acks_of q ≡ heard ++ x ∷ rest →
      Shows past (Went (lead_side program m 1 heard)) c.world (c.echoes ++ heard) (c.words ++ checks_of q) c.events → LeadAt program c past
  -- all were right, and the world is to be asked
  LeadActs : (m : Standing) (q : Request) → c.place ≡ Here m → wants program m ≡ Requests q →
      Shows past (Went (lead_side program m 2 [])) c.world (c.echoes ++ acks_of q) (c.words ++ checks_of q) c.events → LeadAt program c past
  -- it has ended as the ideal run has
  LeadEnded : (end : SourceEnd) → c.place ≡ PlaceEnded end → Shows past (Ended (end_as end)) c.world c.echoes c.words c.events → LeadAt program c past
  -- an event has failed
  LeadFailed : (m : Standing) (q : Request) (written : ℕ) → c.place ≡ Here m → wants program m ≡ Requests q →
      Shows past (Ended WriteFault) WorldOver (c.echoes ++ acks_of q) (c.words ++ checks_of q) (c.events ++ take written (ask c.world q).events) → LeadAt program c past

module _ (setting : Setting) (sites : HasSites setting.program) where
  abbrev LeadGoes : Past → Type 0
  LeadGoes past = (j : ℕ) × LeadAt setting.program (ideal setting j) past

  -- what the leading side meets is right: an acknowledgement is the next of the ideal run, and no
  -- link is closed
  abbrev pub LeadMeets : Past → Meet → Type 0
  LeadMeets past Plain = Unit {0}
  LeadMeets past (Got word) = (k : ℕ) × IsPrefix (past.took ++ word ∷ []) (ideal setting k).echoes
  LeadMeets past Closed = ⊥
  LeadMeets past (Failed written) = Unit {0}

  -- the next acknowledgement of two ideal runs is one
  pub next_echo : (i k : ℕ) (xs rest : List ℕ) (x y : ℕ) → IsPrefix (xs ++ x ∷ []) (ideal setting k).echoes → (ideal setting i).echoes ≡ xs ++ y ∷ rest → x ≡ y
  next_echo i k xs rest x y p e =
      let all = (ideal setting (i + k)).echoes in
      let first : IsPrefix (xs ++ x ∷ []) all = prefix_trans _ _ _ p (grows setting sites k (i + k) (omega arith)).echoes in
      let second : IsPrefix (xs ++ y ∷ rest) all = subst (λ t. IsPrefix t all) e (grows setting sites i (i + k) (omega arith)).echoes in
      next_of_two xs rest all x y first second

  module _ (i : ℕ) (past : Past) (s : SideState) (at : past.at ≡ Went s) where
    abbrev c : IdealState
    c = ideal setting i

    abbrev after : Meet → Past
    after meet = grown past meet (next_of Lead setting.program s past.world meet)

    -- what it can meet, where it is known to stand
    can_there : (s₀ : SideState) (w : WorldState) (took sent : List ℕ) (events : List Event) (meet : Meet) → Shows past (Went s₀) w took sent events → CanMeet Lead setting.program s past.world meet → CanMeet Lead setting.program s₀ w meet
    can_there s₀ w took sent events meet shows can =
        subst₂ (λ x y. CanMeet Lead setting.program x y meet) (same_state past s s₀ at shows.at_so) shows.world_so can

    from_start : (m : Standing) → c.place ≡ Here m → Shows past (Went (lead_side setting.program m 0 [])) c.world c.echoes c.words c.events →
        (x : Wants) → wants setting.program m ≡ x → (meet : Meet) → CanMeet Lead setting.program (lead_side setting.program m 0 []) c.world meet → LeadGoes (after meet)
    from_start m here shows (Runs next) h Plain can =
        let stands = stands_point setting sites i m here in
        let e = next_runs setting.program c m next here h in (
          suc i,
          subst (λ d. LeadAt setting.program d (after Plain)) (sym e) (LeadStarts next refl
              (shows_on Lead setting.program past _ s Plain _ _ _ _ _ _ _ _ shows at (lead_goes setting.program m stands (next_line setting.program m stands) next c.world h) (append-nil _) (append-nil _) (append-nil _))),
        )
    from_start m here shows (Runs next) h (Got word) can =
        let stands = stands_point setting sites i m here in
        let no = lead_runs_takes setting.program m stands (next_line setting.program m stands) next h in absurd (cc)
    from_start m here shows (Runs next) h Closed can =
        let stands = stands_point setting sites i m here in
        let no = lead_runs_takes setting.program m stands (next_line setting.program m stands) next h in absurd (cc)
    from_start m here shows (Runs next) h (Failed written) can =
        let stands = stands_point setting sites i m here in
        let none = ap (λ g. length g.events) (lead_goes setting.program m stands (next_line setting.program m stands) next c.world h) in absurd (omega (arith, can.1, none))
    from_start m here shows (Dies words trap line) h meet can =
        let stands = stands_point setting sites i m here in absurd (never_dies setting.program m stands (next_line setting.program m stands) words trap line h)
    from_start m here shows (Lost words) h meet can =
        let stands = stands_point setting sites i m here in absurd (never_lost setting.program m stands (next_line setting.program m stands) words h)
    from_start m here shows (Requests q) h Plain can =
        let stands = stands_point setting sites i m here in
        let some = acks_some setting.program m stands q h in (
          i,
          LeadAwaits m q [] some.0 some.1 here h some.2
              (shows_on Lead setting.program past _ s Plain _ _ _ _ _ _ _ _ shows at (lead_asks setting.program m stands q h c.world) refl refl (append-nil _)),
        )
    from_start m here shows (Requests q) h (Got word) can =
        let stands = stands_point setting sites i m here in
        let no = lead_asks_takes setting.program m stands q h in absurd (cc)
    from_start m here shows (Requests q) h Closed can =
        let stands = stands_point setting sites i m here in
        let no = lead_asks_takes setting.program m stands q h in absurd (cc)
    from_start m here shows (Requests q) h (Failed written) can =
        let stands = stands_point setting sites i m here in
        let none = ap (λ g. length g.events) (lead_asks setting.program m stands q h c.world) in absurd (omega (arith, can.1, none))

    -- an acknowledgement that is right
    hears : (m : Standing) (q : Request) (heard : List ℕ) (x : ℕ) (rest : List ℕ) → c.place ≡ Here m → wants setting.program m ≡ Requests q → acks_of q ≡ heard ++ x ∷ rest →
        Shows past (Went (lead_side setting.program m 1 heard)) c.world (c.echoes ++ heard) (c.words ++ checks_of q) c.events → LeadGoes (after (Got x))
    hears m q heard x [] here h acks shows =
        let stands = stands_point setting sites i m here in
        let took : (c.echoes ++ heard) ++ x ∷ [] ≡ c.echoes ++ acks_of q = append_assoc c.echoes heard (x ∷ []) ∙ ap (λ t. c.echoes ++ t) (sym acks) in (
          i,
          LeadActs m q here h
              (shows_on Lead setting.program past _ s (Got x) _ _ _ _ _ _ _ _ shows at (lead_hears_last setting.program m stands q h c.world heard x acks) took (append-nil _) (append-nil _)),
        )
    hears m q heard x (y ∷ rest) here h acks shows =
        let stands = stands_point setting sites i m here in
        let more : acks_of q ≡ (heard ++ x ∷ []) ++ y ∷ rest = acks ∙ sym (append_assoc heard (x ∷ []) (y ∷ rest)) in (
          i,
          LeadAwaits m q (heard ++ x ∷ []) y rest here h more
              (shows_on Lead setting.program past _ s (Got x) _ _ _ _ _ _ _ _ shows at (lead_hears_more setting.program m stands q h c.world heard x y rest acks) (append_assoc c.echoes heard (x ∷ [])) (append-nil _) (append-nil _)),
        )

    from_await : (m : Standing) (q : Request) (heard : List ℕ) (x : ℕ) (rest : List ℕ) → c.place ≡ Here m → wants setting.program m ≡ Requests q → acks_of q ≡ heard ++ x ∷ rest →
        Shows past (Went (lead_side setting.program m 1 heard)) c.world (c.echoes ++ heard) (c.words ++ checks_of q) c.events →
        (meet : Meet) → CanMeet Lead setting.program (lead_side setting.program m 1 heard) c.world meet → LeadMeets past meet → LeadGoes (after meet)
    from_await m q heard x rest here h acks shows Plain can right =
        let stands = stands_point setting sites i m here in
        let no = lead_hears_takes setting.program m stands q h heard in absurd (cc)
    from_await m q heard x rest here h acks shows (Failed written) can right =
        let stands = stands_point setting sites i m here in
        let no = lead_hears_takes setting.program m stands q h heard in let yes = can.0 in absurd (cc)
    from_await m q heard x rest here h acks shows Closed can right = absurd right
    from_await m q heard x rest here h acks shows (Got word) can right =
        let stands = stands_point setting sites i m here in
        let all : (ideal setting (suc i)).echoes ≡ (c.echoes ++ heard) ++ x ∷ rest =
        asked_echoes setting sites i m q here h ∙ ap (λ t. c.echoes ++ t) acks ∙ sym (append_assoc c.echoes heard (x ∷ rest)) in
        let same : word ≡ x = next_echo (suc i) right.0 (c.echoes ++ heard) rest word x (subst (λ t. IsPrefix (t ++ word ∷ []) (ideal setting right.0).echoes) shows.took_so right.1) all in
        subst (λ y. LeadGoes (after (Got y))) (sym same) (hears m q heard x rest here h acks shows)

    acted : (m : Standing) (q : Request) → c.place ≡ Here m → wants setting.program m ≡ Requests q →
        Shows past (Went (lead_side setting.program m 2 [])) c.world (c.echoes ++ acks_of q) (c.words ++ checks_of q) c.events →
        (x : Resumed) → resume setting.program m (ask c.world q).response ≡ x → LeadAt setting.program (record (answered_state setting.program m q c) { place = place_by x }) (after Plain)
    acted m q here h shows (Back next) back =
        let stands = stands_point setting sites i m here in
        LeadStarts next refl
        (shows_on Lead setting.program past _ s Plain _ _ _ _ _ _ _ _ shows at (lead_acts_back setting.program m stands q h c.world next back) (append-nil _) refl refl)
    acted m q here h shows (Over end) over =
        let stands = stands_point setting sites i m here in
        LeadEnded end refl
        (shows_on Lead setting.program past _ s Plain _ _ _ _ _ _ _ _ shows at (lead_acts_over setting.program m stands q h c.world end over) (append-nil _) refl refl)

    from_act : (m : Standing) (q : Request) → c.place ≡ Here m → wants setting.program m ≡ Requests q →
        Shows past (Went (lead_side setting.program m 2 [])) c.world (c.echoes ++ acks_of q) (c.words ++ checks_of q) c.events →
        (meet : Meet) → CanMeet Lead setting.program (lead_side setting.program m 2 []) c.world meet → LeadGoes (after meet)
    from_act m q here h shows Plain can =
        let stands = stands_point setting sites i m here in
        (suc (suc i), subst (λ d. LeadAt setting.program d (after Plain)) (sym (next_twice setting.program c m q here stands h)) (acted m q here h shows (resume setting.program m (ask c.world q).response) refl))
    from_act m q here h shows (Failed written) can =
        let stands = stands_point setting sites i m here in (
          i,
          LeadFailed m q written here h
              (shows_on Lead setting.program past _ s (Failed written) _ _ _ _ _ _ _ _ shows at (lead_fails setting.program m stands q h c.world written) (append-nil _) (append-nil _) refl),
        )
    from_act m q here h shows (Got word) can =
        let stands = stands_point setting sites i m here in
        let no = lead_acts_takes setting.program m stands q h in absurd (cc)
    from_act m q here h shows Closed can =
        let stands = stands_point setting sites i m here in
        let no = lead_acts_takes setting.program m stands q h in absurd (cc)

    pub lead_step : LeadAt setting.program (ideal setting i) past → (meet : Meet) → CanMeet Lead setting.program s past.world meet → LeadMeets past meet → LeadGoes (after meet)
    lead_step (LeadStarts m here shows) meet can right = from_start m here shows (wants setting.program m) refl meet (can_there _ _ _ _ _ meet shows can)
    lead_step (LeadAwaits m q heard x rest here h acks shows) meet can right = from_await m q heard x rest here h acks shows meet (can_there _ _ _ _ _ meet shows can) right
    lead_step (LeadActs m q here h shows) meet can right = from_act m q here h shows meet (can_there _ _ _ _ _ meet shows can)
    lead_step (LeadEnded end ended shows) meet can right = let both : Went s ≡ Ended (end_as end) = sym at ∙ shows.at_so in absurd (cc)
    lead_step (LeadFailed m q written here h shows) meet can right = let both : Went s ≡ Ended WriteFault = sym at ∙ shows.at_so in absurd (cc)
