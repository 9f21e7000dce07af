-- The trailing side beside the ideal run.
use Rattle.std.proofs.Common.{◌≡◌, ℕ, suc, ◌+◌, List, [], ◌∷◌, ◌++◌, length, refl, sym, ap, ap₂, ◌∙◌, subst, arith, length-append, append-nil, append_assoc}
use Rattle.srmt_base.specs.declared.side.Side.TheVariants.{Trail}
use Rattle.srmt_base.specs.declared.trap.SourceEnd.{SourceEnd}
use Rattle.mid_code.specs.Classes.{SharedProgram}
use Rattle.world.specs.Standing.{Standing}
use Rattle.mid_code.specs.Pairs.{HasSites}
use Rattle.word_stream.specs.declared.request.Request.{Request}
use Rattle.word_stream.specs.declared.request.Response.{Response}
use Rattle.word_stream.specs.Exchange.{response_words, checks_of}
use Rattle.word_stream.proofs.Spelled.{no_words}
use Rattle.world.specs.World.{ask, Setting}
use Rattle.world.specs.Requests.{Wants, Runs, Dies, Requests, Lost, wants, Resumed, Back, Over, resume}
use Rattle.world.specs.Ideal.{Here, Owed, Ended as PlaceEnded, IdealState, place_by, words_owed, owed_next, ideal}
use Rattle.verdicts.specs.declared.thread_end.ThreadEnd.TheVariants.{PeerEnded}
use Rattle.machine.specs.Side.{SideState, Meet, Plain, Got, Closed, Failed, Outcome, Went, Ended, StepGives}
use Rattle.machine.specs.Trailing.{trail_next}
use Rattle.machine.specs.Meets.{next_of, CanMeet}
use Rattle.pair_core.specs.History.{Past, word_met, grown}
use Rattle.pair_core.specs.Fit.{IsPrefix}
use Rattle.pair_core.specs.Laws.{end_as}
use Rattle.pair_core.proofs.Pasts.{same_state}
use Rattle.pair_core.proofs.Prefixes.{prefix_trans, next_of_two}
use Rattle.pair_core.proofs.Groups.{Stands, next_line, trail_side, never_dies, never_lost}
use Rattle.pair_core.proofs.Steps.{trail_goes, trail_runs_takes}
use Rattle.pair_core.proofs.Exchanges.{checks_some, trail_checks, trail_checks_takes, trail_closed, trail_acks_back, trail_acks_over, trail_acks_takes, trail_ends, trail_ends_takes}
use Rattle.pair_core.proofs.Ideals.{answered_state, next_runs, next_asks, next_twice, next_owed, grows, stands_owed, stands_point, asked_words}

-- what a history shows to the other side
pub record Tells (past : Past) (at : Outcome) (took sent : List ℕ) : Type 0 where
  pub at_so : past.at ≡ at
  pub took_so : past.took ≡ took
  pub sent_so : past.sent ≡ sent

tells_on : (program : SharedProgram) (past : Past) (s s' : SideState) (meet : Meet) (took sent : List ℕ) (gives : StepGives) (at' : Outcome) (took' sent' : List ℕ) →
    Tells past (Went s) took sent → past.at ≡ Went s' → trail_next program s past.world meet ≡ gives →
    gives.outcome ≡ at' → took ++ word_met meet ≡ took' → sent ++ gives.sent ≡ sent' →
    Tells (grown past meet (next_of Trail program s' past.world meet)) at' took' sent'
tells_on program past s s' meet took sent gives at' took' sent' tells at law d e f =
    let made : trail_next program s' past.world meet ≡ gives = ap (λ x. trail_next program x past.world meet) (same_state past s' s at tells.at_so) ∙ law in
    record {
      at_so = ap (λ x. x.outcome) made ∙ d;
      took_so = ap (λ x. x ++ word_met meet) tells.took_so ∙ e;
      sent_so = ap₂ (λ x y. x ++ y.sent) tells.sent_so made ∙ f;
    }

-- where the trailing side can be beside a state of the ideal run
pub data TrailAt (program : SharedProgram) (c : IdealState) (quit : List ℕ → Type 0) (past : Past) : Type 0 where
  -- at the first instruction of the group
  TrailStarts : (m : Standing) → c.place ≡ Here m → Tells past (Went (trail_side program m 0)) c.words c.echoes → TrailAt program c quit past
  -- it has checked some words of its request, and checks another
  TrailChecks : (m : Standing) (q : Request) (done : List ℕ) (x : ℕ) (rest : List ℕ) → c.place ≡ Here m → wants program m ≡ Requests q → checks_of q ≡ done ++ x ∷ rest →
      Tells past (Went (trail_side program m (length done))) (c.words ++ done) c.echoes → TrailAt program c quit past
  -- all were right, and are to be acknowledged
  TrailAcks : (m : Standing) (q : Request) → c.place ≡ Here m → wants program m ≡ Requests q →
      Tells past (Went (trail_side program m (length (checks_of q)))) (c.words ++ checks_of q) c.echoes → TrailAt program c quit past
  -- the request ends the run
  TrailEnding : (m : Standing) (q : Request) (r : Response) (end : SourceEnd) → c.place ≡ Owed m r → wants program m ≡ Requests q → resume program m r ≡ Over end →
      Tells past (Went (trail_side program m (suc (length (checks_of q))))) c.words c.echoes → TrailAt program c quit past
  -- it has ended as the ideal run has
  TrailEnded : (end : SourceEnd) → c.place ≡ PlaceEnded end → Tells past (Ended (end_as end)) c.words c.echoes → TrailAt program c quit past
  -- it was to take a word, and none will come: this is known of what it took
  TrailGone : (m : Standing) (q : Request) (done : List ℕ) (x : ℕ) (rest : List ℕ) → c.place ≡ Here m → wants program m ≡ Requests q → checks_of q ≡ done ++ x ∷ rest →
      Tells past (Ended PeerEnded) (c.words ++ done) c.echoes → quit past.took → TrailAt program c quit past

-- what is known can be put another way
pub trail_as : (program : SharedProgram) (c : IdealState) (quit other : List ℕ → Type 0) (past : Past) → ((took : List ℕ) → quit took → other took) → TrailAt program c quit past → TrailAt program c other past
trail_as program c quit other past f (TrailStarts m here tells) = TrailStarts m here tells
trail_as program c quit other past f (TrailChecks m q done x rest here h checks tells) = TrailChecks m q done x rest here h checks tells
trail_as program c quit other past f (TrailAcks m q here h tells) = TrailAcks m q here h tells
trail_as program c quit other past f (TrailEnding m q r end owed h over tells) = TrailEnding m q r end owed h over tells
trail_as program c quit other past f (TrailEnded end ended tells) = TrailEnded end ended tells
trail_as program c quit other past f (TrailGone m q done x rest here h checks tells gone) = TrailGone m q done x rest here h checks tells (f past.took gone)

module _ (setting : Setting) (sites : HasSites setting.program) (quit : List ℕ → Type 0) where
  abbrev TrailGoes : Past → Type 0
  TrailGoes past = (j : ℕ) × TrailAt setting.program (ideal setting j) quit past

  -- a word that the trailing side takes is the next of the ideal run
  abbrev pub TrailMeets : Past → Meet → Type 0
  TrailMeets past Plain = Unit {0}
  TrailMeets past (Got word) = (k : ℕ) × IsPrefix (past.took ++ word ∷ []) (ideal setting k).words
  TrailMeets past Closed = quit (past.took ++ [])
  TrailMeets past (Failed written) = Unit {0}

  pub next_word : (i k : ℕ) (xs rest : List ℕ) (x y : ℕ) → IsPrefix (xs ++ x ∷ []) (ideal setting k).words → (ideal setting i).words ≡ xs ++ y ∷ rest → x ≡ y
  next_word i k xs rest x y p e =
      let all = (ideal setting (i + k)).words in
      let first : IsPrefix (xs ++ x ∷ []) all = prefix_trans _ _ _ p (grows setting sites k (i + k) (omega arith)).words in
      let second : IsPrefix (xs ++ y ∷ rest) all = subst (λ t. IsPrefix t all) e (grows setting sites i (i + k) (omega arith)).words in
      next_of_two xs rest all x y first second

  module _ (i : ℕ) (past : Past) (s : SideState) (at : past.at ≡ Went s) where
    abbrev c : IdealState
    c = ideal setting i

    abbrev after : Meet → Past
    after meet = grown past meet (next_of Trail setting.program s past.world meet)

    can_there : (s₀ : SideState) (took sent : List ℕ) (meet : Meet) → Tells past (Went s₀) took sent → CanMeet Trail setting.program s past.world meet → CanMeet Trail setting.program s₀ past.world meet
    can_there s₀ took sent meet tells can =
        subst (λ x. CanMeet Trail setting.program x past.world meet) (same_state past s s₀ at tells.at_so) can

    -- a word that is right
    checked : (m : Standing) (q : Request) (done : List ℕ) (x : ℕ) (rest : List ℕ) → c.place ≡ Here m → wants setting.program m ≡ Requests q → checks_of q ≡ done ++ x ∷ rest →
        Tells past (Went (trail_side setting.program m (length done))) (c.words ++ done) c.echoes → TrailGoes (after (Got x))
    checked m q done x [] here h checks tells =
        let stands = stands_point setting sites i m here in
        let took : (c.words ++ done) ++ x ∷ [] ≡ c.words ++ checks_of q = append_assoc c.words done (x ∷ []) ∙ ap (λ t. c.words ++ t) (sym checks) in
        let place : suc (length done) ≡ length (checks_of q) = omega (arith, ap length checks, length-append done (x ∷ [])) in (
          i,
          TrailAcks m q here h
              (tells_on setting.program past _ s (Got x) _ _ _ _ _ _ tells at (trail_checks setting.program m stands q h past.world done x [] checks) (ap (λ k. Went (trail_side setting.program m k)) place) took (append-nil _)),
        )
    checked m q done x (y ∷ rest) here h checks tells =
        let stands = stands_point setting sites i m here in
        let more : checks_of q ≡ (done ++ x ∷ []) ++ y ∷ rest = checks ∙ sym (append_assoc done (x ∷ []) (y ∷ rest)) in
        let place : suc (length done) ≡ length (done ++ x ∷ []) = omega (arith, length-append done (x ∷ [])) in (
          i,
          TrailChecks m q (done ++ x ∷ []) y rest here h more
              (tells_on setting.program past _ s (Got x) _ _ _ _ _ _ tells at (trail_checks setting.program m stands q h past.world done x (y ∷ rest) checks) (ap (λ k. Went (trail_side setting.program m k)) place) (append_assoc c.words done (x ∷ [])) (append-nil _)),
        )

    from_check : (m : Standing) (q : Request) (done : List ℕ) (x : ℕ) (rest : List ℕ) → c.place ≡ Here m → wants setting.program m ≡ Requests q → checks_of q ≡ done ++ x ∷ rest →
        Tells past (Went (trail_side setting.program m (length done))) (c.words ++ done) c.echoes →
        (meet : Meet) → CanMeet Trail setting.program (trail_side setting.program m (length done)) past.world meet → TrailMeets past meet → TrailGoes (after meet)
    from_check m q done x rest here h checks tells Plain can right =
        let stands = stands_point setting sites i m here in
        let no = trail_checks_takes setting.program m stands q h done x rest checks in absurd (cc)
    from_check m q done x rest here h checks tells (Failed written) can right =
        let stands = stands_point setting sites i m here in
        let no = trail_checks_takes setting.program m stands q h done x rest checks in let yes = can.0 in absurd (cc)
    from_check m q done x rest here h checks tells Closed can right =
        let stands = stands_point setting sites i m here in (
          i,
          TrailGone m q done x rest here h checks
              (tells_on setting.program past _ s Closed _ _ _ _ _ _ tells at (trail_closed setting.program m stands q h past.world done x rest checks) refl (append-nil _) (append-nil _)) right,
        )
    from_check m q done x rest here h checks tells (Got word) can right =
        let stands = stands_point setting sites i m here in
        let all : (ideal setting (suc i)).words ≡ (c.words ++ done) ++ x ∷ rest =
        asked_words setting sites i m q here h ∙ ap (λ t. c.words ++ t) checks ∙ sym (append_assoc c.words done (x ∷ rest)) in
        let same : word ≡ x = next_word (suc i) right.0 (c.words ++ done) rest word x (subst (λ t. IsPrefix (t ++ word ∷ []) (ideal setting right.0).words) tells.took_so right.1) all in
        subst (λ y. TrailGoes (after (Got y))) (sym same) (checked m q done x rest here h checks tells)

    from_start : (m : Standing) → c.place ≡ Here m → Tells past (Went (trail_side setting.program m 0)) c.words c.echoes →
        (x : Wants) → wants setting.program m ≡ x → (meet : Meet) → CanMeet Trail setting.program (trail_side setting.program m 0) past.world meet → TrailMeets past meet → TrailGoes (after meet)
    from_start m here tells (Runs next) h Plain can right =
        let stands = stands_point setting sites i m here in (
          suc i,
          subst (λ d. TrailAt setting.program d quit (after Plain)) (sym (next_runs setting.program c m next here h)) (TrailStarts next refl
              (tells_on setting.program past _ s Plain _ _ _ _ _ _ tells at (trail_goes setting.program m stands (next_line setting.program m stands) next past.world h) refl (append-nil _) (append-nil _))),
        )
    from_start m here tells (Runs next) h (Got word) can right =
        let stands = stands_point setting sites i m here in
        let no = trail_runs_takes setting.program m stands (next_line setting.program m stands) next h in absurd (cc)
    from_start m here tells (Runs next) h Closed can right =
        let stands = stands_point setting sites i m here in
        let no = trail_runs_takes setting.program m stands (next_line setting.program m stands) next h in absurd (cc)
    from_start m here tells (Runs next) h (Failed written) can right =
        let stands = stands_point setting sites i m here in
        let none = ap (λ g. length g.events) (trail_goes setting.program m stands (next_line setting.program m stands) next past.world h) in absurd (omega (arith, can.1, none))
    from_start m here tells (Dies words trap line) h meet can right =
        let stands = stands_point setting sites i m here in absurd (never_dies setting.program m stands (next_line setting.program m stands) words trap line h)
    from_start m here tells (Lost words) h meet can right =
        let stands = stands_point setting sites i m here in absurd (never_lost setting.program m stands (next_line setting.program m stands) words h)
    from_start m here tells (Requests q) h meet can right =
        let stands = stands_point setting sites i m here in
        let some = checks_some setting.program m stands q h in
        from_check m q [] some.0 some.1 here h some.2
        (record { at_so = tells.at_so; took_so = tells.took_so ∙ sym (append-nil c.words); sent_so = tells.sent_so }) meet can right

    acked : (m : Standing) (q : Request) → c.place ≡ Here m → wants setting.program m ≡ Requests q → Tells past (Went (trail_side setting.program m (length (checks_of q)))) (c.words ++ checks_of q) c.echoes →
        (x : Resumed) → resume setting.program m (ask c.world q).response ≡ x → TrailGoes (after Plain)
    acked m q here h tells (Back next) back =
        let stands = stands_point setting sites i m here in
        let r = (ask c.world q).response in
        let words : (c.words ++ checks_of q) ++ [] ≡ (c.words ++ checks_of q) ++ response_words q r = ap (λ t. (c.words ++ checks_of q) ++ t) (sym (no_words q r)) in
        let place : (answered_state setting.program m q c).place ≡ Here next = ap place_by back in (
          suc (suc i),
          subst (λ d. TrailAt setting.program d quit (after Plain)) (sym (next_twice setting.program c m q here stands h)) (TrailStarts next place
              (tells_on setting.program past _ s Plain _ _ _ _ _ _ tells at (trail_acks_back setting.program m stands q h past.world r next back) refl words refl)),
        )
    acked m q here h tells (Over end) over =
        let stands = stands_point setting sites i m here in
        let r = (ask c.world q).response in (
          suc i,
          subst (λ d. TrailAt setting.program d quit (after Plain)) (sym (next_asks setting.program c m q here stands h)) (TrailEnding m q r end refl h over
              (tells_on setting.program past _ s Plain _ _ _ _ _ _ tells at (trail_acks_over setting.program m stands q h past.world r end over) refl (append-nil _) refl)),
        )

    from_acks : (m : Standing) (q : Request) → c.place ≡ Here m → wants setting.program m ≡ Requests q → Tells past (Went (trail_side setting.program m (length (checks_of q)))) (c.words ++ checks_of q) c.echoes →
        (meet : Meet) → CanMeet Trail setting.program (trail_side setting.program m (length (checks_of q))) past.world meet → TrailGoes (after meet)
    from_acks m q here h tells Plain can = acked m q here h tells (resume setting.program m (ask c.world q).response) refl
    from_acks m q here h tells (Got word) can =
        let stands = stands_point setting sites i m here in
        let no = trail_acks_takes setting.program m stands q h in absurd (cc)
    from_acks m q here h tells Closed can =
        let stands = stands_point setting sites i m here in
        let no = trail_acks_takes setting.program m stands q h in absurd (cc)
    from_acks m q here h tells (Failed written) can =
        let stands = stands_point setting sites i m here in
        let no_event : (x : Resumed) → resume setting.program m (ask c.world q).response ≡ x → length (trail_next setting.program (trail_side setting.program m (length (checks_of q))) past.world Plain).events ≡ 0 = none m q stands h in
        absurd (omega (arith, can.1, no_event (resume setting.program m (ask c.world q).response) refl))
      where
        none : (m : Standing) (q : Request) → Stands setting.program m → (h : wants setting.program m ≡ Requests q) → (x : Resumed) → resume setting.program m (ask c.world q).response ≡ x → length (trail_next setting.program (trail_side setting.program m (length (checks_of q))) past.world Plain).events ≡ 0
        none m q stands h (Back next) back = ap (λ g. length g.events) (trail_acks_back setting.program m stands q h past.world _ next back)
        none m q stands h (Over end) over = ap (λ g. length g.events) (trail_acks_over setting.program m stands q h past.world _ end over)

    from_ending : (m : Standing) (q : Request) (r : Response) (end : SourceEnd) → c.place ≡ Owed m r → wants setting.program m ≡ Requests q → resume setting.program m r ≡ Over end →
        Tells past (Went (trail_side setting.program m (suc (length (checks_of q))))) c.words c.echoes →
        (meet : Meet) → CanMeet Trail setting.program (trail_side setting.program m (suc (length (checks_of q)))) past.world meet → TrailGoes (after meet)
    from_ending m q r end owed h over tells Plain can =
        let stands = stands_owed setting sites i m r owed in
        let place : (owed_next setting.program m r c).place ≡ PlaceEnded end = ap place_by over in
        let words : c.words ++ [] ≡ c.words ++ words_owed (wants setting.program m) r = ap (λ t. c.words ++ t) (sym (ap (λ x. words_owed x r) h ∙ no_words q r)) in (
          suc i,
          subst (λ d. TrailAt setting.program d quit (after Plain)) (sym (next_owed setting.program c m r owed)) (TrailEnded end place
              (tells_on setting.program past _ s Plain _ _ _ _ _ _ tells at (trail_ends setting.program m stands q h past.world r end over) refl words (append-nil _))),
        )
    from_ending m q r end owed h over tells (Got word) can =
        let no = trail_ends_takes setting.program m (stands_owed setting sites i m r owed) q h r end over in absurd (cc)
    from_ending m q r end owed h over tells Closed can =
        let no = trail_ends_takes setting.program m (stands_owed setting sites i m r owed) q h r end over in absurd (cc)
    from_ending m q r end owed h over tells (Failed written) can =
        let none = ap (λ g. length g.events) (trail_ends setting.program m (stands_owed setting sites i m r owed) q h past.world r end over) in absurd (omega (arith, can.1, none))

    pub trail_step : TrailAt setting.program (ideal setting i) quit past → (meet : Meet) → CanMeet Trail setting.program s past.world meet → TrailMeets past meet → TrailGoes (after meet)
    trail_step (TrailStarts m here tells) meet can right = from_start m here tells (wants setting.program m) refl meet (can_there _ _ _ meet tells can) right
    trail_step (TrailChecks m q done x rest here h checks tells) meet can right = from_check m q done x rest here h checks tells meet (can_there _ _ _ meet tells can) right
    trail_step (TrailAcks m q here h tells) meet can right = from_acks m q here h tells meet (can_there _ _ _ meet tells can)
    trail_step (TrailEnding m q r end owed h over tells) meet can right = from_ending m q r end owed h over tells meet (can_there _ _ _ meet tells can)
    trail_step (TrailEnded end ended tells) meet can right = let both : Went s ≡ Ended (end_as end) = sym at ∙ tells.at_so in absurd (cc)
    trail_step (TrailGone m q done x rest here h checks tells gone) meet can right = let both : Went s ≡ Ended PeerEnded = sym at ∙ tells.at_so in absurd (cc)
