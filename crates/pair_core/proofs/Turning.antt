-- One event of the core, from what the code did.
use Rattle.std.proofs.Common.{◌≡◌, ℕ, zero, suc, ◌+◌, ◌<◌, ◌≤◌, Bool, true, false, List, [], ◌∷◌, ◌++◌, length, take, drop, nat_lt, Option, Some, None, refl, sym, ap, ◌∙◌, arith, length-take}
use Rattle.std.specs.Prelude.{◌&&◌, not}
use Rattle.std.proofs.lemmas.Bool.{lt-ltb, le-ltb}
use Rattle.srmt_base.specs.declared.event.Event.{Event}
use Rattle.srmt_base.specs.declared.side.Side.{Side}
use Rattle.srmt_base.specs.declared.side.Side.TheVariants.{Lead, Trail}
use Rattle.srmt_outside.specs.Count.{next_count}
use Rattle.mid_code.specs.Classes.{SharedProgram}
use Rattle.world.specs.World.{WorldState}
use Rattle.machine.specs.declared.link_call.Taken.{Taken}
use Rattle.machine.specs.declared.link_call.Taken.TheVariants.{Word, NotYet as NoWordYet, Closed as NoMore}
use Rattle.machine.specs.declared.link_call.LastCall.TheVariants.{Nothing, Room, Take}
use Rattle.machine.specs.declared.one_step.OneStep.{OneStep}
use Rattle.machine.specs.declared.stepped.Stepped.{Stepped}
use Rattle.machine.specs.declared.stepped.Stepped.TheVariants.{NotYet}
use Rattle.machine.specs.Origin.{Given}
use Rattle.machine.specs.OneStep.{made_of, sent_of, shown_of}
use Rattle.machine.specs.Link.{Shown, kept}
use Rattle.machine.specs.Side.{SideState, Meet, Plain, Got, Closed, Failed, Outcome, Went, StepGives}
use Rattle.machine.specs.Steps.{side_op, takes_at, may_send_at, step_room}
use Rattle.machine.specs.Meets.{next_of, MeetsBy}
use Rattle.machine.specs.Tried.{question, Asks, Makes, Waits, Tries}
use Rattle.machine.specs.Upset.{no_upsets}
use Rattle.pair_core.specs.Duo.{DuoState, is_over, view_of, Finds, Waits as FindsNone, Meets, finds_word, failed_by, meet_by, finds_room, finds_by, finds, put_on, stepped_of, Turned, made, turn_found, turn_at, turn_of}
use Rattle.pair_core.specs.Turns.{offered, room_left, left_by}

-- what the link of one step tells of itself after a step
pub record LinkFacts (over : Bool) (coming : List ℕ) (room : ℕ) (going : List ℕ) (after : Shown) : Type 0 where
  pub answer : (a : Taken) → after.asks ≡ 1 → after.last ≡ Take a → a ≡ offered over coming
  pub refused : after.last ≡ Room step_room false → after.sent ≡ [] → room_left over room going < step_room
  pub granted : after.last ≡ Room step_room true → step_room ≤ room_left over room going
  pub here : after.gone ≡ false

-- no word was sent where the count says so
none_counted : (row : List ℕ) (count : ℕ) → length row ≡ 18 → take count row ≡ [] → count ≡ 0
none_counted row zero long none = refl
none_counted [] (suc n) long none = absurd (cc)
none_counted (x ∷ xs) (suc n) long none = absurd (cc)

pub link_facts : (link : OneStep) (over : Bool) (coming : List ℕ) (room : ℕ) (going : List ℕ) → made_of link ≡ Given (offered over coming) (room_left over room going) false → LinkFacts over coming room going (shown_of link)
link_facts link over coming room going made =
    let give : link.give ≡ offered over coming = cc in
    let began : link.began ≡ room_left over room going = cc in
    let gone : link.gone ≡ false = cc in
    record {
      answer = λ a asks last. link.first_answer a asks last ∙ give;
      refused = λ last none.
          let count : link.count ≡ 0 = none_counted link.row link.count link.places none in
          omega (arith, link.refused_small 18 last, link.used, began, count);
      granted = λ last. omega (arith, link.granted 18 last gone, began);
      here = gone;
    }

-- how many words the link holds, and that they fit
pub sent_few : (link : OneStep) → length (sent_of link) ≤ link.began
sent_few link = omega (arith, length-take link.count link.row, link.used, link.places)

-- what is offered is what a side finds
offered_word : (over : Bool) (coming : List ℕ) (word : ℕ) → Word word ≡ offered over coming → finds_word over coming ≡ Meets (Got word) (drop 1 coming)
offered_word over (w ∷ ws) word e = let same : word ≡ w = cc in ap (λ x. Meets (Got x) ws) (sym same)
offered_word true [] word e = absurd (cc)
offered_word false [] word e = absurd (cc)

offered_closed : (over : Bool) (coming : List ℕ) → NoMore ≡ offered over coming → finds_word over coming ≡ Meets Closed coming
offered_closed over (w ∷ ws) e = absurd (cc)
offered_closed true [] e = refl
offered_closed false [] e = absurd (cc)

offered_none : (over : Bool) (coming : List ℕ) → NoWordYet ≡ offered over coming → finds_word over coming ≡ FindsNone
offered_none over (w ∷ ws) e = absurd (cc)
offered_none true [] e = absurd (cc)
offered_none false [] e = refl

-- the room that is left is the room that a side finds
crowded : (over : Bool) (room : ℕ) (going : List ℕ) → room_left over room going < step_room → (not over && nat_lt room (length going + step_room)) ≡ true
crowded true room going few = absurd (omega arith)
crowded false room going few = lt-ltb room (length going + step_room) (omega arith)

roomy : (over : Bool) (room : ℕ) (going : List ℕ) → length going ≤ room → step_room ≤ room_left over room going → (not over && nat_lt room (length going + step_room)) ≡ false
roomy true room going fits enough = refl
roomy false room going fits enough = le-ltb room (length going + step_room) (omega arith)

-- a step that waits finds that it must
waits_found : (taking sending : Bool) (at : Outcome) (over : Bool) (coming : List ℕ) (room : ℕ) (going : List ℕ) (meet : Meet) (s s' : SideState) (w w' : WorldState) (events : List Event) (before after : Shown) →
    LinkFacts over coming room going after → before.sent ≡ [] → before.asks ≡ 0 → Waits taking sending s w s' w' events before after →
    finds_by taking sending (record { at = at; coming = coming; going = going; room = room; peer_over = over }) meet ≡ FindsNone
waits_found true sending at over coming room going meet s s' w w' events before after facts none fresh h =
    let call : Take NoWordYet ≡ h.call = cc in
    offered_none over coming (facts.answer NoWordYet (h.asks.1 ∙ ap next_count fresh) (h.asks.0 ∙ sym call))
waits_found false true at over coming room going meet s s' w w' events before after facts none fresh h =
    let call : Room step_room false ≡ h.call = cc in
    ap (λ b. finds_room b meet coming) (crowded over room going (facts.refused (h.asks.0 ∙ sym call) (h.none_sent ∙ none)))
waits_found false false at over coming room going meet s s' w w' events before after facts none fresh h = absurd (let e = h.refused in cc)

-- a step that was made finds what it met
found_by : (taking sending : Bool) (at : Outcome) (over : Bool) (coming : List ℕ) (room : ℕ) (going : List ℕ) (count : ℕ) (meet : Meet) (before after : Shown) →
    LinkFacts over coming room going after → length going ≤ room → before.asks ≡ 0 → before.last ≡ Nothing → MeetsBy taking count meet → Asks before after (question taking sending meet) →
    (fails : Option ℕ) × (finds_by taking sending (record { at = at; coming = coming; going = going; room = room; peer_over = over }) (meet_by fails count) ≡ Meets meet (left_by after.last coming))
found_by true sending at over coming room going count Plain before after facts fits fresh quiet can asks = absurd (cc)
found_by true sending at over coming room going count (Got word) before after facts fits fresh quiet can asks =
    (None, offered_word over coming word (facts.answer (Word word) (asks.1 ∙ ap next_count fresh) asks.0) ∙ ap (λ c. Meets (Got word) (left_by c coming)) (sym asks.0))
found_by true sending at over coming room going count Closed before after facts fits fresh quiet can asks =
    (None, offered_closed over coming (facts.answer NoMore (asks.1 ∙ ap next_count fresh) asks.0) ∙ ap (λ c. Meets Closed (left_by c coming)) (sym asks.0))
found_by true sending at over coming room going count (Failed written) before after facts fits fresh quiet can asks = absurd (let e = can.0 in cc)
found_by false sending at over coming room going count (Got word) before after facts fits fresh quiet can asks = absurd (cc)
found_by false sending at over coming room going count Closed before after facts fits fresh quiet can asks = absurd (cc)
found_by false true at over coming room going count Plain before after facts fits fresh quiet can asks =
    (None, ap (λ b. finds_room b Plain coming) (roomy over room going fits (facts.granted asks.0)) ∙ ap (λ c. Meets Plain (left_by c coming)) (sym asks.0))
found_by false true at over coming room going count (Failed written) before after facts fits fresh quiet can asks = (
  Some written,
  ap (λ b. finds_room b (failed_by (nat_lt written count) written) coming) (roomy over room going fits (facts.granted asks.0))
      ∙ ap (λ b. Meets (failed_by b written) coming) (lt-ltb written count can.1) ∙ ap (λ c. Meets (Failed written) (left_by c coming)) (sym asks.0),
)
found_by false false at over coming room going count Plain before after facts fits fresh quiet can asks =
    (None, ap (λ c. Meets Plain (left_by c coming)) (sym (asks.0 ∙ quiet)))
found_by false false at over coming room going count (Failed written) before after facts fits fresh quiet can asks =
    (Some written, ap (λ b. Meets (failed_by b written) coming) (lt-ltb written count can.1) ∙ ap (λ c. Meets (Failed written) (left_by c coming)) (sym (asks.0 ∙ quiet)))

-- where the other side is not gone, all words are sent
all_sent : (gone : Bool) (before words after : List ℕ) → gone ≡ false → before ≡ [] → after ≡ kept gone before words → words ≡ after
all_sent gone before words after here none sent = sym (sent ∙ ap (λ g. kept g before words) here ∙ ap (λ b. b ++ words) none)

-- the state after a step that was made, by its parts
abbrev pub after_by : Side → Outcome → WorldState → List ℕ → List ℕ → DuoState → DuoState
after_by Lead outcome w sent left duo = record {
  lead = outcome;
  trail = duo.trail;
  world = w;
  words = put_on (is_over duo.trail) duo.words sent;
  acks = left;
  lead_steps = duo.lead_steps + 1;
  trail_steps = duo.trail_steps;
  words_sent = duo.words_sent + length sent;
  acks_sent = duo.acks_sent;
  applied = duo.applied;
}
after_by Trail outcome w sent left duo = record {
  lead = duo.lead;
  trail = outcome;
  world = duo.world;
  words = left;
  acks = put_on (is_over duo.lead) duo.acks sent;
  lead_steps = duo.lead_steps;
  trail_steps = duo.trail_steps + 1;
  words_sent = duo.words_sent;
  acks_sent = duo.acks_sent + length sent;
  applied = duo.applied;
}

made_by : (side : Side) (gives : StepGives) (outcome : Outcome) (w : WorldState) (sent left : List ℕ) (duo : DuoState) → gives.outcome ≡ outcome → gives.world ≡ w → gives.sent ≡ sent → made side gives left duo ≡ after_by side outcome w sent left duo
made_by Lead gives outcome w sent left duo o v s =
    ap (λ x. after_by Lead x gives.world gives.sent left duo) o ∙ ap (λ x. after_by Lead outcome x gives.sent left duo) v ∙ ap (λ x. after_by Lead outcome w x left duo) s
made_by Trail gives outcome w sent left duo o v s =
    ap (λ x. after_by Trail x gives.world gives.sent left duo) o ∙ ap (λ x. after_by Trail outcome gives.world x left duo) s

abbrev pub turned_by : DuoState → List Event → Stepped → Turned
turned_by d es a = record { state = d; events = es; stepped = a }

turned_same : (d e : DuoState) (es fs : List Event) (a b : Stepped) → d ≡ e → es ≡ fs → a ≡ b → turned_by d es a ≡ turned_by e fs b
turned_same d e es fs a b p q r = ap (λ x. turned_by x es a) p ∙ ap (λ x. turned_by e x a) q ∙ ap (λ x. turned_by e fs x) r

module _ (side : Side) (program : SharedProgram) (duo : DuoState) (s : SideState) (stands : (view_of side duo).at ≡ Went s) (before after : Shown) (facts : LinkFacts (view_of side duo).peer_over (view_of side duo).coming (view_of side duo).room (view_of side duo).going after) (none : before.sent ≡ []) (fresh : before.asks ≡ 0) (quiet : before.last ≡ Nothing) where
  turned : (fails : Option ℕ) (f : Finds) → finds side program s duo.world fails (view_of side duo) ≡ f → turn_of program no_upsets side fails duo ≡ turn_found f side program s duo
  turned fails f e = ap (λ o. turn_at o side program fails duo) stands ∙ ap (λ g. turn_found g side program s duo) e

  pub waits_turn : (s' : SideState) (w' : WorldState) (events : List Event) → Tries side program s duo.world NotYet s' w' events before after → turn_of program no_upsets side None duo ≡ record { state = duo; events = []; stepped = NotYet }
  waits_turn s' w' events tries =
      turned None FindsNone (waits_found _ _ (view_of side duo).at (view_of side duo).peer_over (view_of side duo).coming (view_of side duo).room (view_of side duo).going Plain s s' duo.world w' events before after facts none fresh tries)

  pub made_turn : (fits : length (view_of side duo).going ≤ (view_of side duo).room) (outcome : Outcome) (w' : WorldState) (events : List Event) →
      Makes (takes_at (side_op side program s)) (may_send_at (side_op side program s)) (next_of side program s duo.world) outcome w' events before after →
      (fails : Option ℕ) × (turn_of program no_upsets side fails duo ≡ record { state = after_by side outcome w' after.sent (left_by after.last (view_of side duo).coming) duo; events = events; stepped = stepped_of outcome })
  made_turn fits outcome w' events makes =
      let gives = next_of side program s duo.world makes.meet in
      let found = found_by (takes_at (side_op side program s)) (may_send_at (side_op side program s)) (view_of side duo).at (view_of side duo).peer_over (view_of side duo).coming (view_of side duo).room (view_of side duo).going (length (next_of side program s duo.world Plain).events) makes.meet before after facts fits fresh quiet makes.can_meet makes.asks in
      let sent : gives.sent ≡ after.sent = all_sent after.gone before.sent gives.sent after.sent facts.here none makes.sent in
      let state = made_by side gives outcome w' after.sent (left_by after.last (view_of side duo).coming) duo makes.outcome_is makes.world_is sent in (
        found.0,
        turned found.0 (Meets makes.meet (left_by after.last (view_of side duo).coming)) found.1
            ∙ turned_same (made side gives (left_by after.last (view_of side duo).coming) duo) _ gives.events events (stepped_of gives.outcome) (stepped_of outcome) state makes.events_are (ap stepped_of makes.outcome_is),
      )
