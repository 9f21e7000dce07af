-- The ideal run gives what the program means.
use Rattle.std.proofs.Common.{◌≡◌, ℕ, zero, suc, Bool, true, false, List, [], ◌++◌, refl, sym, ap, ◌∙◌, subst, append-nil, append_assoc}
use Rattle.std.specs.Prelude.{IsTrue}
use Rattle.srmt_base.specs.declared.event.Event.{Event}
use Rattle.srmt_base.specs.declared.trap.SourceEnd.{SourceEnd}
use Rattle.srmt_base.specs.declared.trap.SourceEnd.TheVariants.{Trap as TrapEnd}
use Rattle.mid_code.specs.Pairs.{HasSites}
use Rattle.mid_code.specs.Meaning.{State, Run, Running, Ended as EndedRun, NoWay, step, then_run, preceded, exec, started, Comes, Finishes, Middle}
use Rattle.mid_code.proofs.OneMeaning.{comes_on, finishes_on}
use Rattle.word_stream.specs.declared.request.Request.{Request}
use Rattle.word_stream.specs.declared.request.Response.{Response}
use Rattle.word_stream.specs.Exchange.{is_guarded}
use Rattle.world.specs.World.{WorldState, Setting, is_live, ask}
use Rattle.world.specs.Standing.{Standing, started_standing}
use Rattle.world.specs.Requests.{Wants, Runs, Dies, Requests, Lost, wants, Resumed, Back, Over, resume}
use Rattle.world.specs.Ideal.{Place, Here, Owed, Ended, IdealState, place_by, requested, here_next, owed_next, next_by, ideal, IsIdeal}
use Rattle.world.proofs.Telling.{with_standing, step_after, AnswersOn, Tells, tells, Stays, StayOn, StayBack, stays_on, stays_back, starts_within}

-- a run of the meaning at a machine: nothing of memory and of the input has changed
abbrev pub run_at : Setting → Standing → State
run_at setting m = with_standing m (started setting.program.program setting.input setting.limits)

-- the events include those of a request whose response is still to be taken
pub record OwedAt (setting : Setting) (m : Standing) (response : Response) (world : WorldState) (events : List Event) : Type 0 where
  pub within : Stays setting.program m
  pub answers : AnswersOn (resume setting.program m response) world
  pub earlier : List Event
  pub given : List Event
  pub comes : Comes setting.program.program (started setting.program.program setting.input setting.limits) earlier (run_at setting m)
  pub told : step setting.program.program (run_at setting m) ≡ step_after (run_at setting m) (resume setting.program m response) given
  pub both : events ≡ earlier ++ given

-- the meaning has come here with these events, and the world answers
pub record HereAt (setting : Setting) (m : Standing) (world : WorldState) (events : List Event) : Type 0 where
  pub within : Stays setting.program m
  pub comes : Comes setting.program.program (started setting.program.program setting.input setting.limits) events (run_at setting m)
  pub live : IsTrue (is_live world)

-- where the ideal run stands, the meaning has come with the same events
abbrev pub StandsAt : Setting → Place → WorldState → List Event → Type 0
StandsAt setting (Here m) world events = HereAt setting m world events
StandsAt setting (Owed m response) world events = OwedAt setting m response world events
StandsAt setting (Ended end) world events = Finishes setting.program.program (started setting.program.program setting.input setting.limits) events end

module _ (setting : Setting) (sites : HasSites setting.program) where
  abbrev at : Standing → State
  at m = run_at setting m

  abbrev opening : State
  opening = started setting.program.program setting.input setting.limits

  told_at : (m : Standing) → Stays setting.program m → Tells (at m) (step setting.program.program (at m)) (resume setting.program m) (wants setting.program m)
  told_at m within = tells setting.program m opening within sites

  on_from : (m : Standing) → Stays setting.program m → StayOn setting.program (wants setting.program m)
  on_from m within = stays_on setting.program m opening within sites

  back_from : (m : Standing) (response : Response) → Stays setting.program m → StayBack setting.program (resume setting.program m response)
  back_from m response within = stays_back setting.program m opening within sites response

  after_stands : (taken : Resumed) (m : Standing) (world : WorldState) (es fs : List Event) → StayBack setting.program taken → AnswersOn taken world → Comes setting.program.program opening es (at m) → step setting.program.program (at m) ≡ step_after (at m) taken fs →
      StandsAt setting (place_by taken) world (es ++ fs)
  after_stands (Back next) m world es fs stays live comes told = record { within = stays; comes = comes_on setting.program.program opening (at m) (at next) es fs comes told; live = live }
  after_stands (Over end) m world es fs stays live comes told = finishes_on setting.program.program opening (at m) es fs end comes told

  abbrev StandsSo : IdealState → Type 0
  StandsSo c = StandsAt setting c.place c.world c.events

  requested_stands : (guarded : Bool) (m : Standing) (q : Request) (c : IdealState) → HereAt setting m c.world c.events → Tells (at m) (step setting.program.program (at m)) (resume setting.program m) (Requests q) →
      StandsSo (requested guarded setting.program m q (ask c.world q) c)
  requested_stands true m q c h told =
      let asked = told c.world h.live in
      record { within = h.within; answers = asked.1; earlier = c.events; given = (ask c.world q).events; comes = h.comes; told = asked.0; both = refl }
  requested_stands false m q c h told =
      let asked = told c.world h.live in
      after_stands (resume setting.program m (ask c.world q).response) m (ask c.world q).world c.events (ask c.world q).events (back_from m (ask c.world q).response h.within) asked.1 h.comes asked.0

  here_stands : (wanted : Wants) (m : Standing) (c : IdealState) → c.place ≡ Here m → StayOn setting.program wanted → HereAt setting m c.world c.events → Tells (at m) (step setting.program.program (at m)) (resume setting.program m) wanted →
      StandsSo (here_next wanted setting.program m c)
  here_stands (Runs next) m c is on h told =
      record { within = on; comes = subst (λ es. Comes setting.program.program opening es (at next)) (append-nil c.events) (comes_on setting.program.program opening (at m) (at next) c.events [] h.comes told); live = h.live }
  here_stands (Dies words trap line) m c is on h told =
      subst (λ es. Finishes setting.program.program opening es (TrapEnd trap line)) (append-nil c.events) (finishes_on setting.program.program opening (at m) c.events [] (TrapEnd trap line) h.comes told)
  here_stands (Requests q) m c is on h told = requested_stands (is_guarded q) m q c h told
  here_stands (Lost words) m c is on h told = subst (λ p. StandsAt setting p c.world c.events) (sym is) h

  next_stands : (place : Place) (c : IdealState) → StandsAt setting place c.world c.events → c.place ≡ place → StandsSo (next_by place setting.program c)
  next_stands (Here m) c stands is = here_stands (wants setting.program m) m c is (on_from m stands.within) stands (told_at m stands.within)
  next_stands (Owed m response) c stands is =
      subst (StandsAt setting (place_by (resume setting.program m response)) c.world) (sym stands.both)
      (after_stands (resume setting.program m response) m c.world stands.earlier stands.given (back_from m response stands.within) stands.answers stands.comes stands.told)
  next_stands (Ended end) c stands is = subst (λ p. StandsAt setting p c.world c.events) (sym is) stands

  pub stands : (n : ℕ) → StandsSo (ideal setting n)
  stands zero = record { within = starts_within setting.program setting.limits sites; comes = (0, refl); live = refl }
  stands (suc n) =
      let c = ideal setting n in
      next_stands c.place c (stands n) refl

  -- what the ideal run gives is what the program means
  pub ideal_sound : (words : List ℕ) (events : List Event) (end : SourceEnd) → IsIdeal setting words events end → Middle setting.program.program setting.input setting.limits events end
  ideal_sound words events end whole =
      let c = ideal setting whole.steps in
      let last : StandsAt setting (Ended end) c.world c.events = subst (λ p. StandsAt setting p c.world c.events) whole.ended (stands whole.steps) in
      subst (λ es. Finishes setting.program.program opening es end) whole.events_so last

  -- the ideal run comes to this end, with some words
  abbrev pub Comes_to : List Event → SourceEnd → Type 0
  Comes_to events end = (words : List ℕ) × IsIdeal setting words events end

  ended_at : (n : ℕ) (events : List Event) (end : SourceEnd) → (ideal setting n).place ≡ Ended end → (ideal setting n).events ≡ events → Comes_to events end
  ended_at n events end place so = ((ideal setting n).words, record { steps = n; ended = place; words_so = refl; events_so = so })

  not_preceded : (r : Run) (end : SourceEnd) (events : List Event) → preceded [] r ≡ EndedRun end events → r ≡ EndedRun end events
  not_preceded (Running m seen) end events h = absurd (cc)
  not_preceded (EndedRun over seen) end events h = h
  not_preceded NoWay end events h = absurd (cc)

  -- what follows the first events
  rest_of : (before : List Event) (r : Run) (end : SourceEnd) (events : List Event) → preceded before r ≡ EndedRun end events → (rest : List Event) × (r ≡ EndedRun end rest) × (before ++ rest ≡ events)
  rest_of before (Running m seen) end events h = absurd (cc)
  rest_of before (EndedRun over seen) end events h = (seen, cc, cc)
  rest_of before NoWay end events h = absurd (cc)

  -- from an instruction on the ideal run gives what is left of the meaning
  abbrev pub Follows : ℕ → Type 0
  Follows more = (n : ℕ) (m : Standing) (end : SourceEnd) (events : List Event) → (ideal setting n).place ≡ Here m → Stays setting.program m → exec setting.program.program more (at m) ≡ EndedRun end events → Comes_to ((ideal setting n).events ++ events) end

  follows_after : (more n : ℕ) (taken : Resumed) (m : Standing) (before fs : List Event) (end : SourceEnd) (events : List Event) → Follows more → StayBack setting.program taken →
      (ideal setting n).place ≡ place_by taken → (ideal setting n).events ≡ before ++ fs → step setting.program.program (at m) ≡ step_after (at m) taken fs →
      then_run (step setting.program.program (at m)) (exec setting.program.program more) ≡ EndedRun end events → Comes_to (before ++ events) end
  follows_after more n (Back next) m before fs end events follows stays place so told h =
      let run : preceded fs (exec setting.program.program more (at next)) ≡ EndedRun end events = sym (ap (λ s. then_run s (exec setting.program.program more)) told) ∙ h in
      let rest = rest_of fs (exec setting.program.program more (at next)) end events run in
      let all : (ideal setting n).events ++ rest.0 ≡ before ++ events = ap (λ es. es ++ rest.0) so ∙ append_assoc before fs rest.0 ∙ ap (λ es. before ++ es) rest.2 in
      subst (λ es. Comes_to es end) all (follows n next end rest.0 place stays rest.1)
  follows_after more n (Over over) m before fs end events follows stays place so told h =
      let run : EndedRun over fs ≡ EndedRun end events = sym (ap (λ s. then_run s (exec setting.program.program more)) told) ∙ h in
      let same : over ≡ end = cc in
      let both : fs ≡ events = cc in
      ended_at n (before ++ events) end (place ∙ ap Ended same) (so ∙ ap (λ es. before ++ es) both)

  -- where an instruction is next, the world answers
  live_here : (n : ℕ) (m : Standing) → (ideal setting n).place ≡ Here m → IsTrue (is_live (ideal setting n).world)
  live_here n m here =
      let c = ideal setting n in
      let h : StandsAt setting (Here m) c.world c.events = subst (λ p. StandsAt setting p c.world c.events) here (stands n) in
      h.live

  follows_request : (more n : ℕ) (guarded : Bool) (m : Standing) (q : Request) (end : SourceEnd) (events : List Event) → Follows more → Stays setting.program m →
      let c = ideal setting n in
      IsTrue (is_live c.world) →
      ideal setting (suc n) ≡ requested guarded setting.program m q (ask c.world q) c → Tells (at m) (step setting.program.program (at m)) (resume setting.program m) (Requests q) →
      then_run (step setting.program.program (at m)) (exec setting.program.program more) ≡ EndedRun end events → Comes_to (c.events ++ events) end
  follows_request more n true m q end events follows within live next told h =
      let c = ideal setting n in
      let owed : (ideal setting (suc n)).place ≡ Owed m (ask c.world q).response = ap (λ (d : IdealState). d.place) next in
      let so : (ideal setting (suc n)).events ≡ c.events ++ (ask c.world q).events = ap (λ (d : IdealState). d.events) next in
      let taken : ideal setting (suc (suc n)) ≡ owed_next setting.program m (ask c.world q).response (ideal setting (suc n)) = ap (λ p. next_by p setting.program (ideal setting (suc n))) owed in
      follows_after more (suc (suc n)) (resume setting.program m (ask c.world q).response) m c.events (ask c.world q).events end events follows (back_from m (ask c.world q).response within)
      (ap (λ (d : IdealState). d.place) taken) (ap (λ (d : IdealState). d.events) taken ∙ so) (told c.world live).0 h
  follows_request more n false m q end events follows within live next told h =
      let c = ideal setting n in
      follows_after more (suc n) (resume setting.program m (ask c.world q).response) m c.events (ask c.world q).events end events follows (back_from m (ask c.world q).response within)
      (ap (λ (d : IdealState). d.place) next) (ap (λ (d : IdealState). d.events) next) (told c.world live).0 h

  follows_wants : (more n : ℕ) (wanted : Wants) (m : Standing) (end : SourceEnd) (events : List Event) → Follows more → Stays setting.program m → StayOn setting.program wanted →
      let c = ideal setting n in
      IsTrue (is_live c.world) →
      ideal setting (suc n) ≡ here_next wanted setting.program m c → Tells (at m) (step setting.program.program (at m)) (resume setting.program m) wanted →
      then_run (step setting.program.program (at m)) (exec setting.program.program more) ≡ EndedRun end events → Comes_to (c.events ++ events) end
  follows_wants more n (Runs next) m end events follows within on live is told h =
      let run : preceded [] (exec setting.program.program more (at next)) ≡ EndedRun end events = sym (ap (λ s. then_run s (exec setting.program.program more)) told) ∙ h in
      let same : (ideal setting (suc n)).events ≡ (ideal setting n).events = ap (λ (d : IdealState). d.events) is in
      subst (λ es. Comes_to (es ++ events) end) same (follows (suc n) next end events (ap (λ (d : IdealState). d.place) is) on (not_preceded (exec setting.program.program more (at next)) end events run))
  follows_wants more n (Dies words trap line) m end events follows within on live is told h =
      let run : EndedRun (TrapEnd trap line) [] ≡ EndedRun end events = sym (ap (λ s. then_run s (exec setting.program.program more)) told) ∙ h in
      let same : TrapEnd trap line ≡ end = cc in
      let none : [] ≡ events = cc in
      let all : (ideal setting (suc n)).events ≡ (ideal setting n).events ++ events =
      ap (λ (d : IdealState). d.events) is ∙ sym (append-nil (ideal setting n).events) ∙ ap (λ es. (ideal setting n).events ++ es) none in
      ended_at (suc n) ((ideal setting n).events ++ events) end (ap (λ (d : IdealState). d.place) is ∙ ap Ended same) all
  follows_wants more n (Requests q) m end events follows within on live is told h = follows_request more n (is_guarded q) m q end events follows within live is told h
  follows_wants more n (Lost words) m end events follows within on live is told h =
      let run : NoWay ≡ EndedRun end events = sym (ap (λ s. then_run s (exec setting.program.program more)) told) ∙ h in
      absurd (cc)

  pub follows_on : (more : ℕ) → Follows more
  follows_on zero n m end events place within h = absurd (cc)
  follows_on (suc more) n m end events place within h =
      let c = ideal setting n in
      let next : ideal setting (suc n) ≡ here_next (wants setting.program m) setting.program m c = ap (λ p. next_by p setting.program c) place in
      follows_wants more n (wants setting.program m) m end events (follows_on more) within (on_from m within) (live_here n m place) next (told_at m within) h

  -- what the program means the ideal run gives
  pub ideal_whole : (events : List Event) (end : SourceEnd) → Middle setting.program.program setting.input setting.limits events end → Comes_to events end
  ideal_whole events end means = follows_on means.0 0 (started_standing setting.program.program setting.limits) end events refl (starts_within setting.program setting.limits sites) means.1
