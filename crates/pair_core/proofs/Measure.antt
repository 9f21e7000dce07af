-- Each counted step leaves less to go.
use Rattle.std.proofs.Common.{◌≡◌, ℕ, zero, suc, ◌+◌, ◌-◌, ◌*◌, ◌<◌, ◌≤◌, Bool, false, List, [], ◌∷◌, ◌++◌, length, Option, Some, None, slice_get, option_and_then, refl, sym, ap, ◌∙◌, subst, subst₂, arith, length-append, append_assoc}
use Rattle.std.proofs.lemmas.Option.{slice_get_within}
use Rattle.srmt_base.specs.declared.side.Side.{Side}
use Rattle.srmt_base.specs.declared.side.Side.TheVariants.{Lead, Trail}
use Rattle.srmt_base.specs.declared.trap.SourceEnd.{SourceEnd}
use Rattle.mid_code.specs.Classes.{SharedProgram}
use Rattle.mid_code.specs.declared.version.VersionLine.{VersionLine}
use Rattle.mid_code.specs.declared.version.Version.{Version}
use Rattle.world.specs.Standing.{Standing}
use Rattle.mid_code.specs.Pairs.{HasSites}
use Rattle.mid_code.specs.Versions.{leading, version_at}
use Rattle.word_stream.specs.declared.request.Request.{Request}
use Rattle.word_stream.specs.declared.request.Response.{Response}
use Rattle.word_stream.specs.Exchange.{checks_of, acks_of}
use Rattle.word_stream.proofs.Spelled.{no_words}
use Rattle.world.specs.World.{WorldState, ask, Setting}
use Rattle.world.specs.Requests.{Wants, Runs, Dies, Requests, Lost, wants, Resumed, Back, Over, resume}
use Rattle.world.specs.Ideal.{ideal}
use Rattle.verdicts.specs.declared.thread_end.ThreadEnd.TheVariants.{PeerEnded, WriteFault}
use Rattle.machine.specs.Side.{SideState, Meet, Plain, Got, Closed, Failed, Outcome, Went, Ended, StepGives}
use Rattle.machine.specs.Steps.{versions_of, side_op, takes_at}
use Rattle.machine.specs.Meets.{MeetsBy, next_of, CanMeet}
use Rattle.pair_core.specs.History.{Past}
use Rattle.pair_core.specs.Duo.{DuoState}
use Rattle.pair_core.specs.Laws.{end_as}
use Rattle.pair_core.proofs.Pasts.{same_state}
use Rattle.pair_core.proofs.Groups.{Stands, next_line, group_place, lead_side, trail_side, never_dies, never_lost}
use Rattle.pair_core.proofs.Steps.{gave, IsPresent, lead_goes, trail_goes, lead_runs_takes, trail_runs_takes, lead_runs_here, trail_runs_here, runs_function, lead_runs_place, trail_runs_place}
use Rattle.pair_core.proofs.Exchanges.{acks_few, checks_few, checks_some, lead_asks, lead_asks_takes, lead_hears_last, lead_hears_more, lead_hears_takes, lead_acts_back, lead_acts_over, lead_acts_takes, lead_fails, trail_checks, trail_checks_takes, trail_closed, trail_acks_back, trail_acks_over, trail_acks_takes, trail_ends, trail_ends_takes, lead_ask_here, lead_await_here, lead_act_here, trail_check_here, trail_ack_here, trail_end_here, back_function, lead_back_place, trail_back_place}
use Rattle.pair_core.proofs.Ideals.{stands_point, stands_owed, asked_words, asked_echoes}
use Rattle.pair_core.proofs.Lead.{LeadAt, LeadStarts, LeadAwaits, LeadActs, LeadEnded, LeadFailed, LeadMeets, next_echo}
use Rattle.pair_core.proofs.Trail.{TrailAt, TrailStarts, TrailChecks, TrailAcks, TrailEnding, TrailEnded, TrailGone, TrailMeets, next_word}

-- how many instructions a version has
abbrev pub long_of : Option Version → ℕ
long_of None = 0
long_of (Some v) = length v.code

abbrev pub version_long : List Version → ℕ → ℕ
version_long versions zero = 0
version_long versions (suc before) = long_of (slice_get versions before)

-- how much a side has to go: the places of its version, 19 for each, less what it has heard
abbrev pub side_left : SharedProgram → Side → Outcome → ℕ
side_left program side (Went s) = 19 * (version_long (versions_of side program) s.at.machine.top.function - s.at.machine.top.place) - length s.heard
side_left program side (Ended end) = 0

abbrev pub duo_left : SharedProgram → DuoState → ℕ
duo_left program duo = side_left program Lead duo.lead + side_left program Trail duo.trail

within_one : (o : Option Version) (place : ℕ) (l : VersionLine) → option_and_then (λ v. slice_get v.code place) o ≡ Some l → place < long_of o
within_one None place l h = absurd (cc)
within_one (Some v) place l h = slice_get_within v.code place l h

within_long : (versions : List Version) (function place : ℕ) (l : VersionLine) → version_at versions function place ≡ Some l → place < version_long versions function
within_long versions zero place l h = absurd (cc)
within_long versions (suc before) place l h = within_one (slice_get versions before) place l h

less_on : (long p q h k : ℕ) → p < long → h < 19 → p < q → 19 * (long - q) - k < 19 * (long - p) - h
less_on long p q h k within few on = omega arith

less_heard : (long p h k : ℕ) → p < long → k < 19 → h < k → 19 * (long - p) - k < 19 * (long - p) - h
less_heard long p h k within few on = omega arith

less_over : (long p h : ℕ) → p < long → h < 19 → 0 < 19 * (long - p) - h
less_over long p h within few = omega arith

module _ (program : SharedProgram) (side : Side) (s : SideState) (here : IsPresent side program s) (few : length s.heard < 19) where
  within : s.at.machine.top.place < version_long (versions_of side program) s.at.machine.top.function
  within = within_long (versions_of side program) s.at.machine.top.function s.at.machine.top.place here.0 here.1

  -- it goes on to a later place
  pub lower_on : (t : SideState) → t.at.machine.top.function ≡ s.at.machine.top.function → s.at.machine.top.place < t.at.machine.top.place → side_left program side (Went t) < side_left program side (Went s)
  lower_on t same on =
      subst (λ f. 19 * (version_long (versions_of side program) f - t.at.machine.top.place) - length t.heard < side_left program side (Went s)) (sym same)
      (less_on (version_long (versions_of side program) s.at.machine.top.function) s.at.machine.top.place t.at.machine.top.place (length s.heard) (length t.heard) within few on)

  pub lower_over : 0 < side_left program side (Went s)
  lower_over = less_over (version_long (versions_of side program) s.at.machine.top.function) s.at.machine.top.place (length s.heard) within few

-- a step leaves less to go, and sends few words
pub record LowerBy (program : SharedProgram) (side : Side) (s : SideState) (gives : StepGives) : Type 0 where
  pub less : side_left program side gives.outcome < side_left program side (Went s)
  pub few : length gives.sent ≤ 18

abbrev pub Lower : SharedProgram → Side → SideState → WorldState → Meet → Type 0
Lower program side s w meet = LowerBy program side s (next_of side program s w meet)

-- a step that takes no word and writes nothing meets nothing
only_plain : (taking : Bool) (count : ℕ) (meet : Meet) → taking ≡ false → count ≡ 0 → MeetsBy taking count meet → meet ≡ Plain
only_plain taking count Plain not_taking none can = refl
only_plain taking count (Got word) not_taking none can = absurd (cc)
only_plain taking count Closed not_taking none can = absurd (cc)
only_plain taking count (Failed written) not_taking none can = absurd (omega (arith, can.1))

by_law : (program : SharedProgram) (side : Side) (s : SideState) (w : WorldState) (meet : Meet) (gives : StepGives) → next_of side program s w meet ≡ gives → length gives.sent ≤ 18 → side_left program side gives.outcome < side_left program side (Went s) → Lower program side s w meet
by_law program side s w meet gives law few less = subst (LowerBy program side s) (sym law) (record { less = less; few = few })

by_plain : (program : SharedProgram) (side : Side) (s : SideState) (w : WorldState) (meet : Meet) (gives : StepGives) → takes_at (side_op side program s) ≡ false → next_of side program s w Plain ≡ gives → length gives.events ≡ 0 → CanMeet side program s w meet → length gives.sent ≤ 18 → side_left program side gives.outcome < side_left program side (Went s) → Lower program side s w meet
by_plain program side s w meet gives not_taking law none can few less =
    let count : length (next_of side program s w Plain).events ≡ 0 = ap (λ g. length g.events) law ∙ none in
    let plain : meet ≡ Plain = only_plain (takes_at (side_op side program s)) (length (next_of side program s w Plain).events) meet not_taking count can in
    subst (λ x. Lower program side s w x) (sym plain) (by_law program side s w Plain gives law few less)

-- the steps of a group
module _ (program : SharedProgram) (m : Standing) (stands : Stands program m) (w : WorldState) where
  lead_start : (x : Wants) → wants program m ≡ x → (meet : Meet) → CanMeet Lead program (lead_side program m 0 []) w meet → Lower program Lead (lead_side program m 0 []) w meet
  lead_start (Runs next) h meet can =
      let n = next_line program m stands in
      by_plain program Lead (lead_side program m 0 []) w meet (gave (Went (lead_side program next 0 [])) [] w []) (lead_runs_takes program m stands n next h) (lead_goes program m stands n next w h) refl can (omega arith)
      (lower_on program Lead (lead_side program m 0 []) (lead_runs_here program m stands n next h) (omega arith) (lead_side program next 0 []) (runs_function program m stands n next h) (omega (arith, lead_runs_place program m stands n next h)))
  lead_start (Dies words trap line) h meet can = absurd (never_dies program m stands (next_line program m stands) words trap line h)
  lead_start (Lost words) h meet can = absurd (never_lost program m stands (next_line program m stands) words h)
  lead_start (Requests q) h meet can =
      by_plain program Lead (lead_side program m 0 []) w meet (gave (Went (lead_side program m 1 [])) (checks_of q) w []) (lead_asks_takes program m stands q h) (lead_asks program m stands q h w) refl can (omega (arith, checks_few program m stands q h))
      (lower_on program Lead (lead_side program m 0 []) (lead_ask_here program m stands q h) (omega arith) (lead_side program m 1 []) refl (omega arith))

  trail_check : (q : Request) → (h : wants program m ≡ Requests q) → (done : List ℕ) (x : ℕ) (rest : List ℕ) → checks_of q ≡ done ++ x ∷ rest → (meet : Meet) → CanMeet Trail program (trail_side program m (length done)) w meet → ((word : ℕ) → meet ≡ Got word → word ≡ x) → Lower program Trail (trail_side program m (length done)) w meet
  trail_check q h done x rest checks Plain can right = let no = trail_checks_takes program m stands q h done x rest checks in absurd (cc)
  trail_check q h done x rest checks (Failed written) can right = let no = trail_checks_takes program m stands q h done x rest checks in let yes = can.0 in absurd (cc)
  trail_check q h done x rest checks Closed can right =
      by_law program Trail (trail_side program m (length done)) w Closed (gave (Ended PeerEnded) [] w []) (trail_closed program m stands q h w done x rest checks) (omega arith)
      (lower_over program Trail (trail_side program m (length done)) (trail_check_here program m stands q h done x rest checks) (omega arith))
  trail_check q h done x rest checks (Got word) can right =
      subst (λ y. Lower program Trail (trail_side program m (length done)) w (Got y)) (sym (right word refl))
      (by_law program Trail (trail_side program m (length done)) w (Got x) (gave (Went (trail_side program m (suc (length done)))) [] w []) (trail_checks program m stands q h w done x rest checks) (omega arith)
      (lower_on program Trail (trail_side program m (length done)) (trail_check_here program m stands q h done x rest checks) (omega arith) (trail_side program m (suc (length done))) refl (omega arith)))

  trail_start : (x : Wants) → wants program m ≡ x → (meet : Meet) → CanMeet Trail program (trail_side program m 0) w meet → ((q : Request) (y : ℕ) (rest : List ℕ) (word : ℕ) → wants program m ≡ Requests q → checks_of q ≡ y ∷ rest → meet ≡ Got word → word ≡ y) → Lower program Trail (trail_side program m 0) w meet
  trail_start (Runs next) h meet can right =
      let n = next_line program m stands in
      by_plain program Trail (trail_side program m 0) w meet (gave (Went (trail_side program next 0)) [] w []) (trail_runs_takes program m stands n next h) (trail_goes program m stands n next w h) refl can (omega arith)
      (lower_on program Trail (trail_side program m 0) (trail_runs_here program m stands n next h) (omega arith) (trail_side program next 0) (runs_function program m stands n next h) (omega (arith, trail_runs_place program m stands n next h)))
  trail_start (Dies words trap line) h meet can right = absurd (never_dies program m stands (next_line program m stands) words trap line h)
  trail_start (Lost words) h meet can right = absurd (never_lost program m stands (next_line program m stands) words h)
  trail_start (Requests q) h meet can right =
      let some = checks_some program m stands q h in
      trail_check q h [] some.0 some.1 some.2 meet can (λ word got. right q some.0 some.1 word h some.2 got)

  module _ (q : Request) (h : wants program m ≡ Requests q) where
    lead_hear : (heard : List ℕ) (x : ℕ) (rest : List ℕ) → acks_of q ≡ heard ++ x ∷ rest → Lower program Lead (lead_side program m 1 heard) w (Got x)
    lead_hear heard x [] acks =
        let few : length heard < 19 = omega (arith, acks_few program m stands q h, ap length acks, length-append heard (x ∷ [])) in
        by_law program Lead (lead_side program m 1 heard) w (Got x) (gave (Went (lead_side program m 2 [])) [] w []) (lead_hears_last program m stands q h w heard x acks) (omega arith)
        (lower_on program Lead (lead_side program m 1 heard) (lead_await_here program m stands q h heard) few (lead_side program m 2 []) refl (omega arith))
    lead_hear heard x (y ∷ rest) acks =
        let few : length (heard ++ x ∷ []) < 19 = omega (arith, acks_few program m stands q h, ap length acks, length-append heard (x ∷ y ∷ rest), length-append heard (x ∷ [])) in
        let more : length heard < length (heard ++ x ∷ []) = omega (arith, length-append heard (x ∷ [])) in
        let few_now : length heard < 19 = omega arith in
        by_law program Lead (lead_side program m 1 heard) w (Got x) (gave (Went (lead_side program m 1 (heard ++ x ∷ []))) [] w []) (lead_hears_more program m stands q h w heard x y rest acks) (omega arith)
        (less_heard (version_long (versions_of Lead program) m.machine.top.function) (group_place leading program m + 1) (length heard) (length (heard ++ x ∷ []))
        (within program Lead (lead_side program m 1 heard) (lead_await_here program m stands q h heard) few_now) few more)

    lead_await : (heard : List ℕ) (x : ℕ) (rest : List ℕ) → acks_of q ≡ heard ++ x ∷ rest → (meet : Meet) → CanMeet Lead program (lead_side program m 1 heard) w meet → (meet ≡ Closed → ⊥) → ((word : ℕ) → meet ≡ Got word → word ≡ x) → Lower program Lead (lead_side program m 1 heard) w meet
    lead_await heard x rest acks Plain can no_close right = let no = lead_hears_takes program m stands q h heard in absurd (cc)
    lead_await heard x rest acks (Failed written) can no_close right = let no = lead_hears_takes program m stands q h heard in let yes = can.0 in absurd (cc)
    lead_await heard x rest acks Closed can no_close right = absurd (no_close refl)
    lead_await heard x rest acks (Got word) can no_close right = subst (λ y. Lower program Lead (lead_side program m 1 heard) w (Got y)) (sym (right word refl)) (lead_hear heard x rest acks)

    lead_acts_on : (x : Resumed) → resume program m (ask w q).response ≡ x → Lower program Lead (lead_side program m 2 []) w Plain
    lead_acts_on (Back next) back =
        by_law program Lead (lead_side program m 2 []) w Plain _ (lead_acts_back program m stands q h w next back) (omega (arith, ap length (no_words q (ask w q).response)))
        (lower_on program Lead (lead_side program m 2 []) (lead_act_here program m stands q h) (omega arith) (lead_side program next 0 []) (back_function program m stands q h _ next back) (omega (arith, lead_back_place program m stands q h _ next back)))
    lead_acts_on (Over end) over =
        by_law program Lead (lead_side program m 2 []) w Plain _ (lead_acts_over program m stands q h w end over) (omega (arith, ap length (no_words q (ask w q).response)))
        (lower_over program Lead (lead_side program m 2 []) (lead_act_here program m stands q h) (omega arith))

    lead_act : (meet : Meet) → CanMeet Lead program (lead_side program m 2 []) w meet → Lower program Lead (lead_side program m 2 []) w meet
    lead_act Plain can = lead_acts_on (resume program m (ask w q).response) refl
    lead_act (Failed written) can =
        by_law program Lead (lead_side program m 2 []) w (Failed written) _ (lead_fails program m stands q h w written) (omega arith)
        (lower_over program Lead (lead_side program m 2 []) (lead_act_here program m stands q h) (omega arith))
    lead_act (Got word) can = let no = lead_acts_takes program m stands q h in absurd (cc)
    lead_act Closed can = let no = lead_acts_takes program m stands q h in absurd (cc)

    trail_acks_on : (r : Response) (x : Resumed) → resume program m r ≡ x → (meet : Meet) → CanMeet Trail program (trail_side program m (length (checks_of q))) w meet → Lower program Trail (trail_side program m (length (checks_of q))) w meet
    trail_acks_on r (Back next) back meet can =
        by_plain program Trail (trail_side program m (length (checks_of q))) w meet _ (trail_acks_takes program m stands q h) (trail_acks_back program m stands q h w r next back) refl can (omega (arith, acks_few program m stands q h))
        (lower_on program Trail (trail_side program m (length (checks_of q))) (trail_ack_here program m stands q h) (omega arith) (trail_side program next 0) (back_function program m stands q h r next back) (omega (arith, trail_back_place program m stands q h r next back)))
    trail_acks_on r (Over end) over meet can =
        by_plain program Trail (trail_side program m (length (checks_of q))) w meet _ (trail_acks_takes program m stands q h) (trail_acks_over program m stands q h w r end over) refl can (omega (arith, acks_few program m stands q h))
        (lower_on program Trail (trail_side program m (length (checks_of q))) (trail_ack_here program m stands q h) (omega arith) (trail_side program m (suc (length (checks_of q)))) refl (omega arith))

    trail_end : (r : Response) (end : SourceEnd) → resume program m r ≡ Over end → (meet : Meet) → CanMeet Trail program (trail_side program m (suc (length (checks_of q)))) w meet → Lower program Trail (trail_side program m (suc (length (checks_of q)))) w meet
    trail_end r end over meet can =
        by_plain program Trail (trail_side program m (suc (length (checks_of q)))) w meet _ (trail_ends_takes program m stands q h r end over) (trail_ends program m stands q h w r end over) refl can (omega arith)
        (lower_over program Trail (trail_side program m (suc (length (checks_of q)))) (trail_end_here program m stands q h r end over) (omega arith))

-- the steps of a side beside the ideal run
module _ (setting : Setting) (sites : HasSites setting.program) (i : ℕ) (past : Past) (s : SideState) (at : past.at ≡ Went s) where
  module _ (meet : Meet) where
    -- what holds where the side is known to stand holds of it
    lower_there : (side : Side) (s₀ : SideState) (w : WorldState) → past.at ≡ Went s₀ → past.world ≡ w → CanMeet side setting.program s past.world meet → (CanMeet side setting.program s₀ w meet → Lower setting.program side s₀ w meet) → Lower setting.program side s past.world meet
    lower_there side s₀ w at₀ world can less =
        let same = same_state past s₀ s at₀ at in
        subst₂ (λ x y. Lower setting.program side x y meet) same (sym world) (less (subst₂ (λ x y. CanMeet side setting.program x y meet) (sym same) world can))

    pub lead_lowers : LeadAt setting.program (ideal setting i) past → CanMeet Lead setting.program s past.world meet → LeadMeets setting sites past meet → Lower setting.program Lead s past.world meet
    lead_lowers (LeadStarts m here shows) can right =
        lower_there Lead _ _ shows.at_so shows.world_so can (lead_start setting.program m (stands_point setting sites i m here) _ (wants setting.program m) refl meet)
    lead_lowers (LeadAwaits m q heard x rest here h acks shows) can right =
        lower_there Lead _ _ shows.at_so shows.world_so can (λ can'. lead_await setting.program m stands _ q h heard x rest acks meet can' (closes meet right) (next meet right))
      where
        stands : Stands setting.program m
        stands = stands_point setting sites i m here

        closes : (mt : Meet) → LeadMeets setting sites past mt → mt ≡ Closed → ⊥
        closes Plain r e = cc
        closes (Got word) r e = cc
        closes Closed r e = r
        closes (Failed written) r e = cc

        all : (ideal setting (suc i)).echoes ≡ past.took ++ x ∷ rest
        all = asked_echoes setting sites i m q here h ∙ ap (λ t. (ideal setting i).echoes ++ t) acks ∙ sym (append_assoc (ideal setting i).echoes heard (x ∷ rest)) ∙ ap (λ t. t ++ x ∷ rest) (sym shows.took_so)

        next : (mt : Meet) → LeadMeets setting sites past mt → (word : ℕ) → mt ≡ Got word → word ≡ x
        next Plain r word e = absurd (cc)
        next (Got other) r word e = let same : other ≡ word = cc in sym same ∙ next_echo setting sites (suc i) r.0 past.took rest other x r.1 all
        next Closed r word e = absurd r
        next (Failed written) r word e = absurd (cc)
    lead_lowers (LeadActs m q here h shows) can right =
        lower_there Lead _ _ shows.at_so shows.world_so can (lead_act setting.program m (stands_point setting sites i m here) _ q h meet)
    lead_lowers (LeadEnded end ended shows) can right = let both : Went s ≡ Ended (end_as end) = sym at ∙ shows.at_so in absurd (cc)
    lead_lowers (LeadFailed m q written here h shows) can right = let both : Went s ≡ Ended WriteFault = sym at ∙ shows.at_so in absurd (cc)

    module _ (quit : List ℕ → Type 0) where
      next_check : (xs rest : List ℕ) (x : ℕ) → xs ≡ past.took → (ideal setting (suc i)).words ≡ xs ++ x ∷ rest → (mt : Meet) → TrailMeets setting sites quit past mt → (word : ℕ) → mt ≡ Got word → word ≡ x
      next_check xs rest x took all Plain r word e = absurd (cc)
      next_check xs rest x took all (Got other) r word e =
          let same : other ≡ word = cc in
          sym same ∙ next_word setting sites quit (suc i) r.0 past.took rest other x r.1 (all ∙ ap (λ t. t ++ x ∷ rest) took)
      next_check xs rest x took all Closed r word e = absurd (cc)
      next_check xs rest x took all (Failed written) r word e = absurd (cc)

      pub trail_lowers : TrailAt setting.program (ideal setting i) quit past → CanMeet Trail setting.program s past.world meet → TrailMeets setting sites quit past meet → Lower setting.program Trail s past.world meet
      trail_lowers (TrailStarts m here tells) can right =
          lower_there Trail _ _ tells.at_so refl can
          (λ can'. trail_start setting.program m (stands_point setting sites i m here) _ (wants setting.program m) refl meet can'
          (λ q y rest word h checks got. next_check (ideal setting i).words rest y (sym tells.took_so) (asked_words setting sites i m q here h ∙ ap (λ t. (ideal setting i).words ++ t) checks) meet right word got))
      trail_lowers (TrailChecks m q done x rest here h checks tells) can right =
          lower_there Trail _ _ tells.at_so refl can
          (λ can'. trail_check setting.program m (stands_point setting sites i m here) _ q h done x rest checks meet can'
          (next_check ((ideal setting i).words ++ done) rest x (sym tells.took_so) (asked_words setting sites i m q here h ∙ ap (λ t. (ideal setting i).words ++ t) checks ∙ sym (append_assoc (ideal setting i).words done (x ∷ rest))) meet right))
      trail_lowers (TrailAcks m q here h tells) can right =
          lower_there Trail _ _ tells.at_so refl can
          (trail_acks_on setting.program m (stands_point setting sites i m here) _ q h (ask (ideal setting i).world q).response (resume setting.program m (ask (ideal setting i).world q).response) refl meet)
      trail_lowers (TrailEnding m q r end owed h over tells) can right =
          lower_there Trail _ _ tells.at_so refl can
          (trail_end setting.program m (stands_owed setting sites i m r owed) _ q h r end over meet)
      trail_lowers (TrailEnded end ended tells) can right = let both : Went s ≡ Ended (end_as end) = sym at ∙ tells.at_so in absurd (cc)
      trail_lowers (TrailGone m q done x rest here h checks tells gone) can right = let both : Went s ≡ Ended PeerEnded = sym at ∙ tells.at_so in absurd (cc)
