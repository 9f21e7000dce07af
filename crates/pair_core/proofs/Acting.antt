-- One event of each side, from the fields of the core and what the code did with them.
use Rattle.std.proofs.Common.{◌≡◌, ℕ, ◌+◌, ◌-◌, ◌≤◌, ◌⊎◌, inl, inr, Bool, true, false, List, [], length, min, Option, Some, None, refl, sym, ap, ◌∙◌, subst, arith}
use Rattle.std.specs.Option.{is_some}
use Rattle.srmt_base.specs.declared.event.Event.{Event}
use Rattle.srmt_base.specs.declared.side.Side.TheVariants.{Lead, Trail}
use Rattle.mid_code.specs.Classes.{SharedProgram}
use Rattle.world.specs.World.{WorldState}
use Rattle.machine.specs.declared.link_call.Taken.{Taken}
use Rattle.machine.specs.declared.link_call.LastCall.TheVariants.{Nothing}
use Rattle.machine.specs.declared.one_step.OneStep.{OneStep}
use Rattle.verdicts.specs.declared.thread_end.ThreadEnd.{ThreadEnd}
use Rattle.machine.specs.declared.stepped.Stepped.{Stepped}
use Rattle.machine.specs.declared.stepped.Stepped.TheVariants.{Made, NotYet, MadeLast}
use Rattle.machine.specs.Origin.{Given}
use Rattle.machine.specs.OneStep.{made_of, sent_of, asks_of, last_of, shown_of, unasked}
use Rattle.machine.specs.Side.{SideState, Outcome, Went, Ended}
use Rattle.machine.specs.Link.{Shown, IsLater}
use Rattle.machine.specs.Tried.{Tries}
use Rattle.machine.specs.Upset.{no_upsets}
use Rattle.pair_core.specs.declared.duo.Duo.TheInside.{Inside}
use Rattle.pair_core.specs.Duo.{DuoState, is_over, put_on, turn_of}
use Rattle.pair_core.specs.Turns.{offered, room_left, left_by, outcome_by, end_of_step, has_waited, Turns}
use Rattle.pair_core.specs.View.{duo_of}
use Rattle.pair_core.proofs.Turning.{LinkFacts, link_facts, sent_few, after_by, turned_by, waits_turn, made_turn}

-- a link of one step that was just made for a side, and the same link after its step
pub record LinkOf (over : Bool) (coming : List ℕ) (room : ℕ) (going : List ℕ) (first link : OneStep) : Type 0 where
  pub made : made_of link ≡ Given (offered over coming) (room_left over room going) false
  pub none : sent_of first ≡ []
  pub fresh : asks_of first ≡ 0
  pub quiet : last_of first ≡ Nothing

pub link_of : (over : Bool) (coming : List ℕ) (room : ℕ) (going : List ℕ) (first link : OneStep) (give : Taken) (spare : ℕ) → give ≡ offered over coming → spare ≡ room_left over room going →
    shown_of first ≡ unasked give spare false → IsLater (shown_of first) (shown_of link) → LinkOf over coming room going first link
link_of over coming room going first link give spare g s new later = record {
  made = later.made ∙ ap (λ (x : Shown). x.made) new ∙ ap (λ x. Given x spare false) g ∙ ap (λ x. Given (offered over coming) x false) s;
  none = ap (λ (x : Shown). x.sent) new;
  fresh = ap (λ (x : Shown). x.asks) new;
  quiet = ap (λ (x : Shown). x.last) new;
}

-- what it has sent has places
pub room_enough : (over : Bool) (coming : List ℕ) (room : ℕ) (going : List ℕ) (first link : OneStep) → LinkOf over coming room going first link → length going ≤ room → (over ≡ true) ⊎ (length going + length (sent_of link) ≤ room)
room_enough true coming room going first link of fits = inl refl
room_enough false coming room going first link of fits =
    let made = of.made in
    let began : link.began ≡ min 18 (room - length going) = cc in
    inr (omega (arith, sent_few link, began))

is_over_by : (o : Option ThreadEnd) (s : SideState) → is_over (outcome_by o s) ≡ is_some o
is_over_by None s = refl
is_over_by (Some end) s = refl

-- the state after a leading step, by the code's fields
abbrev pub lead_state : Inside → Option ThreadEnd → SideState → WorldState → List ℕ → List ℕ → ℕ → DuoState
lead_state a end m w words acks count =
    record (duo_of a) { lead = outcome_by end m; world = w; words = words; acks = acks; lead_steps = a.lead_steps + 1; words_sent = a.words_sent + count }

abbrev pub trail_state : Inside → Option ThreadEnd → SideState → List ℕ → List ℕ → ℕ → DuoState
trail_state a end m words acks count =
    record (duo_of a) { trail = outcome_by end m; words = words; acks = acks; trail_steps = a.trail_steps + 1; acks_sent = a.acks_sent + count }

-- the state after a step that waits, by the code's fields
abbrev pub stayed_lead : Inside → SideState → WorldState → DuoState
stayed_lead a m w = record (duo_of a) { lead = outcome_by a.lead_over m; world = w }

abbrev pub stayed_trail : Inside → SideState → DuoState
stayed_trail a m = record (duo_of a) { trail = outcome_by a.trail_over m }

pub waited : (stepped : Stepped) → has_waited stepped ≡ true → stepped ≡ NotYet
waited Made h = absurd (cc)
waited NotYet h = refl
waited (MadeLast end) h = absurd (cc)

module _ (program : SharedProgram) (a : Inside) (before : DuoState) (is : duo_of a ≡ before) (over : Bool) (first link : OneStep) (stepped : Stepped) (m : SideState) where
  module _ (none : a.lead_over ≡ None) (peer : over ≡ is_some a.trail_over) (of : LinkOf over a.acks 4096 a.words first link) (w : WorldState) (events : List Event) (tries : Tries Lead program a.lead a.world stepped m w events (shown_of first) (shown_of link)) where
    lead_peer : over ≡ is_over (outcome_by a.trail_over a.trail)
    lead_peer = peer ∙ sym (is_over_by a.trail_over a.trail)

    lead_facts : LinkFacts (is_over (outcome_by a.trail_over a.trail)) a.acks 4096 a.words (shown_of link)
    lead_facts = subst (λ (b : Bool). LinkFacts b a.acks 4096 a.words (shown_of link)) lead_peer (link_facts link over a.acks 4096 a.words of.made)

    lead_went : (outcome_by a.lead_over a.lead) ≡ Went a.lead
    lead_went = ap (λ o. outcome_by o a.lead) none

    pub lead_waits : has_waited stepped ≡ true → Turns program no_upsets Lead None before before NotYet []
    lead_waits h = let e = waited stepped h in subst (λ (d : DuoState). Turns program no_upsets Lead None d d NotYet []) is
        (waits_turn Lead program (duo_of a) a.lead lead_went (shown_of first) (shown_of link) lead_facts of.none of.fresh of.quiet m w events (subst (λ (t : Stepped). Tries Lead program a.lead a.world t m w events (shown_of first) (shown_of link)) e tries))

    lead_tries : (h : has_waited stepped ≡ true) → Tries Lead program a.lead a.world NotYet m w events (shown_of first) (shown_of link)
    lead_tries h = subst (λ (t : Stepped). Tries Lead program a.lead a.world t m w events (shown_of first) (shown_of link)) (waited stepped h) tries

    pub lead_stays : has_waited stepped ≡ true → Turns program no_upsets Lead None before (stayed_lead a m w) NotYet events
    lead_stays h =
        let same : before ≡ stayed_lead a m w = sym is ∙ ap (λ x. stayed_lead a x a.world) (sym (lead_tries h).same_side) ∙ ap (stayed_lead a m) (sym (lead_tries h).same_world) in
        lead_waits h ∙ ap (λ d. turned_by d [] NotYet) same ∙ ap (λ es. turned_by (stayed_lead a m w) es NotYet) (sym (lead_tries h).no_event)

    module _ (fits : length a.words ≤ 4096) (end : Option ThreadEnd) (words acks : List ℕ) (count : ℕ) (end_is : end ≡ end_of_step stepped) (acks_are : acks ≡ left_by (last_of link) a.acks) (words_are : words ≡ put_on over a.words (sent_of link)) (count_is : count ≡ length (sent_of link)) where
      lead_done_by : (outcome : Outcome) → outcome ≡ outcome_by end m →
          (fails : Option ℕ) × (turn_of program no_upsets Lead fails (duo_of a) ≡ turned_by (after_by Lead outcome w (sent_of link) (left_by (last_of link) a.acks) (duo_of a)) events stepped) →
          (fails : Option ℕ) × Turns program no_upsets Lead fails before (lead_state a end m w words acks count) stepped events
      lead_done_by outcome o turn =
          let first_end = ap (λ x. record { lead = x; trail = outcome_by a.trail_over a.trail; world = w; words = put_on (is_over (outcome_by a.trail_over a.trail)) a.words (sent_of link); acks = left_by (last_of link) a.acks; lead_steps = a.lead_steps + 1; trail_steps = a.trail_steps; words_sent = a.words_sent + length (sent_of link); acks_sent = a.acks_sent; applied = false }) o in
          let same_words : put_on (is_over (outcome_by a.trail_over a.trail)) a.words (sent_of link) ≡ words = ap (λ b. put_on b a.words (sent_of link)) (sym lead_peer) ∙ sym words_are in
          let state : after_by Lead outcome w (sent_of link) (left_by (last_of link) a.acks) (duo_of a) ≡ lead_state a end m w words acks count =
          first_end ∙ ap (λ x. lead_state a end m w x (left_by (last_of link) a.acks) (length (sent_of link))) same_words ∙ ap (λ x. lead_state a end m w words x (length (sent_of link))) (sym acks_are) ∙ ap (lead_state a end m w words acks) (sym count_is) in
          (turn.0, ap (turn_of program no_upsets Lead turn.0) (sym is) ∙ turn.1 ∙ ap (λ d. turned_by d events stepped) state)

      lead_steps_to : (t : Stepped) → stepped ≡ t → has_waited t ≡ false → Tries Lead program a.lead a.world t m w events (shown_of first) (shown_of link) →
          (fails : Option ℕ) × Turns program no_upsets Lead fails before (lead_state a end m w words acks count) stepped events
      lead_steps_to Made e went makes =
          let turn = made_turn Lead program (duo_of a) a.lead lead_went (shown_of first) (shown_of link) lead_facts of.none of.fresh of.quiet fits (Went m) w events makes in
          lead_done_by (Went m) (ap (λ x. outcome_by (end_of_step x) m) (sym e) ∙ ap (λ x. outcome_by x m) (sym end_is))
          (turn.0, turn.1 ∙ ap (turned_by (after_by Lead (Went m) w (sent_of link) (left_by (last_of link) a.acks) (duo_of a)) events) (sym e))
      lead_steps_to NotYet e went makes = absurd (cc)
      lead_steps_to (MadeLast last) e went makes =
          let turn = made_turn Lead program (duo_of a) a.lead lead_went (shown_of first) (shown_of link) lead_facts of.none of.fresh of.quiet fits (Ended last) w events makes in
          lead_done_by (Ended last) (ap (λ x. outcome_by (end_of_step x) m) (sym e) ∙ ap (λ x. outcome_by x m) (sym end_is))
          (turn.0, turn.1 ∙ ap (turned_by (after_by Lead (Ended last) w (sent_of link) (left_by (last_of link) a.acks) (duo_of a)) events) (sym e))

      pub lead_done : has_waited stepped ≡ false → (fails : Option ℕ) × Turns program no_upsets Lead fails before (lead_state a end m w words acks count) stepped events
      lead_done went = lead_steps_to stepped refl went tries

  module _ (none : a.trail_over ≡ None) (peer : over ≡ is_some a.lead_over) (of : LinkOf over a.words 64 a.acks first link) (tries : Tries Trail program a.trail a.world stepped m a.world [] (shown_of first) (shown_of link)) where
    trail_peer : over ≡ is_over (outcome_by a.lead_over a.lead)
    trail_peer = peer ∙ sym (is_over_by a.lead_over a.lead)

    trail_facts : LinkFacts (is_over (outcome_by a.lead_over a.lead)) a.words 64 a.acks (shown_of link)
    trail_facts = subst (λ (b : Bool). LinkFacts b a.words 64 a.acks (shown_of link)) trail_peer (link_facts link over a.words 64 a.acks of.made)

    trail_went : (outcome_by a.trail_over a.trail) ≡ Went a.trail
    trail_went = ap (λ o. outcome_by o a.trail) none

    pub trail_waits : has_waited stepped ≡ true → Turns program no_upsets Trail None before before NotYet []
    trail_waits h = let e = waited stepped h in subst (λ (d : DuoState). Turns program no_upsets Trail None d d NotYet []) is
        (waits_turn Trail program (duo_of a) a.trail trail_went (shown_of first) (shown_of link) trail_facts of.none of.fresh of.quiet m a.world [] (subst (λ (t : Stepped). Tries Trail program a.trail a.world t m a.world [] (shown_of first) (shown_of link)) e tries))

    pub trail_stays : has_waited stepped ≡ true → Turns program no_upsets Trail None before (stayed_trail a m) NotYet []
    trail_stays h =
        let waits = subst (λ (t : Stepped). Tries Trail program a.trail a.world t m a.world [] (shown_of first) (shown_of link)) (waited stepped h) tries in
        trail_waits h ∙ ap (λ d. turned_by d [] NotYet) (sym is ∙ ap (stayed_trail a) (sym waits.same_side))

    module _ (fits : length a.acks ≤ 64) (end : Option ThreadEnd) (words acks : List ℕ) (count : ℕ) (end_is : end ≡ end_of_step stepped) (words_are : words ≡ left_by (last_of link) a.words) (acks_are : acks ≡ put_on over a.acks (sent_of link)) (count_is : count ≡ length (sent_of link)) where
      trail_done_by : (outcome : Outcome) → outcome ≡ outcome_by end m →
          (fails : Option ℕ) × (turn_of program no_upsets Trail fails (duo_of a) ≡ turned_by (after_by Trail outcome a.world (sent_of link) (left_by (last_of link) a.words) (duo_of a)) [] stepped) →
          (fails : Option ℕ) × Turns program no_upsets Trail fails before (trail_state a end m words acks count) stepped []
      trail_done_by outcome o turn =
          let first_end = ap (λ x. record { lead = outcome_by a.lead_over a.lead; trail = x; world = a.world; words = left_by (last_of link) a.words; acks = put_on (is_over (outcome_by a.lead_over a.lead)) a.acks (sent_of link); lead_steps = a.lead_steps; trail_steps = a.trail_steps + 1; words_sent = a.words_sent; acks_sent = a.acks_sent + length (sent_of link); applied = false }) o in
          let same_acks : put_on (is_over (outcome_by a.lead_over a.lead)) a.acks (sent_of link) ≡ acks = ap (λ b. put_on b a.acks (sent_of link)) (sym trail_peer) ∙ sym acks_are in
          let state : after_by Trail outcome a.world (sent_of link) (left_by (last_of link) a.words) (duo_of a) ≡ trail_state a end m words acks count =
          first_end ∙ ap (λ x. trail_state a end m (left_by (last_of link) a.words) x (length (sent_of link))) same_acks ∙ ap (λ x. trail_state a end m x acks (length (sent_of link))) (sym words_are) ∙ ap (trail_state a end m words acks) (sym count_is) in
          (turn.0, ap (turn_of program no_upsets Trail turn.0) (sym is) ∙ turn.1 ∙ ap (λ d. turned_by d [] stepped) state)

      trail_steps_to : (t : Stepped) → stepped ≡ t → has_waited t ≡ false → Tries Trail program a.trail a.world t m a.world [] (shown_of first) (shown_of link) →
          (fails : Option ℕ) × Turns program no_upsets Trail fails before (trail_state a end m words acks count) stepped []
      trail_steps_to Made e went makes =
          let turn = made_turn Trail program (duo_of a) a.trail trail_went (shown_of first) (shown_of link) trail_facts of.none of.fresh of.quiet fits (Went m) a.world [] makes in
          trail_done_by (Went m) (ap (λ x. outcome_by (end_of_step x) m) (sym e) ∙ ap (λ x. outcome_by x m) (sym end_is))
          (turn.0, turn.1 ∙ ap (turned_by (after_by Trail (Went m) a.world (sent_of link) (left_by (last_of link) a.words) (duo_of a)) []) (sym e))
      trail_steps_to NotYet e went makes = absurd (cc)
      trail_steps_to (MadeLast last) e went makes =
          let turn = made_turn Trail program (duo_of a) a.trail trail_went (shown_of first) (shown_of link) trail_facts of.none of.fresh of.quiet fits (Ended last) a.world [] makes in
          trail_done_by (Ended last) (ap (λ x. outcome_by (end_of_step x) m) (sym e) ∙ ap (λ x. outcome_by x m) (sym end_is))
          (turn.0, turn.1 ∙ ap (turned_by (after_by Trail (Ended last) a.world (sent_of link) (left_by (last_of link) a.words) (duo_of a)) []) (sym e))

      pub trail_done : has_waited stepped ≡ false → (fails : Option ℕ) × Turns program no_upsets Trail fails before (trail_state a end m words acks count) stepped []
      trail_done went = trail_steps_to stepped refl went tries
