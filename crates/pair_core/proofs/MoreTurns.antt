-- Quiet steps of a side are events of the core, each of which it makes.
use Rattle.std.proofs.Common.{◌≡◌, ◌≢◌, ℕ, zero, suc, ◌+◌, ◌<◌, ◌≤◌, Bool, true, false, List, [], ◌++◌, Option, Some, None, refl, sym, ap, ap₂, ◌∙◌, subst, arith, append-nil}
use Rattle.std.specs.Option.{is_some}
use Rattle.srmt_base.specs.declared.event.Event.{Event}
use Rattle.srmt_base.specs.declared.side.Side.{Side}
use Rattle.srmt_base.specs.declared.side.Side.TheVariants.{Lead, Trail}
use Rattle.mid_code.specs.Classes.{SharedProgram}
use Rattle.mid_code.specs.Pairs.{HasSites}
use Rattle.world.specs.World.{Setting}
use Rattle.verdicts.specs.declared.thread_end.ThreadEnd.{ThreadEnd}
use Rattle.machine.specs.declared.stepped.Stepped.{Stepped}
use Rattle.machine.specs.declared.stepped.Stepped.TheVariants.{Made, NotYet, MadeLast}
use Rattle.machine.specs.Side.{SideState, Plain, StepGives, Outcome, Went, Ended}
use Rattle.machine.specs.Steps.{side_op, takes_at, may_send_at, quiet}
use Rattle.machine.specs.Meets.{next_of}
use Rattle.machine.specs.Quiet.{IsQuiet, QuietSteps}
use Rattle.machine.specs.Upset.{no_upsets}
use Rattle.pair_core.specs.Duo.{DuoState, View, view_of, is_over, put_on, Meets, finds_by, finds, stepped_of, made, Turned, turn_found, turn_at, turn_of, Reached}
use Rattle.pair_core.specs.Turns.{outcome_by, Turns, MoreTurns, TurnsOn}
use Rattle.pair_core.specs.InTurn.{BothOver, next_turn}
use Rattle.pair_core.specs.declared.duo.Duo.TheInside.{Inside}
use Rattle.pair_core.specs.View.{duo_of}
use Rattle.pair_core.proofs.Measure.{duo_left}
use Rattle.pair_core.proofs.Lowering.{reached_lowers}
use Rattle.pair_core.proofs.Alternating.{turns_left, turns_reach, turns_lower, idle_few_at}

-- how many steps of a side were counted
abbrev pub steps_of : Side → DuoState → ℕ
steps_of Lead duo = duo.lead_steps
steps_of Trail duo = duo.trail_steps

-- the state where a side stands here after so many steps
abbrev pub with_side : Side → SideState → ℕ → DuoState → DuoState
with_side Lead s steps duo = record duo { lead = Went s; lead_steps = steps }
with_side Trail s steps duo = record duo { trail = Went s; trail_steps = steps }

none_put : (over : Bool) (way : List ℕ) → put_on over way [] ≡ way
none_put true way = refl
none_put false way = append-nil way

-- a quiet step that is counted changes where the side stands alone
made_quiet : (side : Side) (next : SideState) (duo : DuoState) → made side (quiet duo.world (Went next)) (view_of side duo).coming duo ≡ with_side side next (steps_of side duo + 1) duo
made_quiet Lead next duo =
    let none : duo.words_sent + 0 ≡ duo.words_sent = omega arith in
    ap₂ (λ words sent. record duo { lead = Went next; words = words; lead_steps = duo.lead_steps + 1; words_sent = sent }) (none_put (is_over duo.trail) duo.words) none
made_quiet Trail next duo =
    let none : duo.acks_sent + 0 ≡ duo.acks_sent = omega arith in
    ap₂ (λ acks sent. record duo { trail = Went next; acks = acks; trail_steps = duo.trail_steps + 1; acks_sent = sent }) (none_put (is_over duo.lead) duo.acks) none

abbrev turned : DuoState → Turned
turned duo = record { state = duo; events = []; stepped = Made }

module _ (program : SharedProgram) (side : Side) where
  finds_quiet : (taking sending : Bool) (view : View) → taking ≡ false → sending ≡ false → finds_by taking sending view Plain ≡ Meets Plain view.coming
  finds_quiet true sending view t s = absurd (cc)
  finds_quiet false true view t s = absurd (cc)
  finds_quiet false false view t s = refl

  -- one of them
  one_turn : (duo : DuoState) (s next : SideState) → (view_of side duo).at ≡ Went s → IsQuiet side program s next →
      Turns program no_upsets side None duo (with_side side next (steps_of side duo + 1) duo) Made []
  one_turn duo s next at q =
      let found : finds side program s duo.world None (view_of side duo) ≡ Meets Plain (view_of side duo).coming =
      finds_quiet (takes_at (side_op side program s)) (may_send_at (side_op side program s)) (view_of side duo) q.takes_none q.sends_none in
      let left = (view_of side duo).coming in
      let gives : next_of side program s duo.world Plain ≡ quiet duo.world (Went next) = q.gives duo.world Plain in
      ap (λ o. turn_at o side program None duo) at ∙ ap (λ f. turn_found f side program s duo) found
      ∙ ap (λ (g : StepGives). record { state = made side g left duo; events = g.events; stepped = stepped_of g.outcome }) gives
      ∙ ap turned (made_quiet side next duo)

  stands : (s : SideState) (steps : ℕ) (duo : DuoState) → (view_of side (with_side side s steps duo)).at ≡ Went s
  stands s steps duo = stands_on side
    where
      stands_on : (side : Side) → (view_of side (with_side side s steps duo)).at ≡ Went s
      stands_on Lead = refl
      stands_on Trail = refl

  -- counted on
  counted : (s next : SideState) (n : ℕ) (duo : DuoState) → with_side side next (steps_of side (with_side side s (steps_of side duo + n) duo) + 1) (with_side side s (steps_of side duo + n) duo) ≡ with_side side next (steps_of side duo + suc n) duo
  counted s next n duo = counted_on side
    where
      counted_on : (side : Side) → with_side side next (steps_of side (with_side side s (steps_of side duo + n) duo) + 1) (with_side side s (steps_of side duo + n) duo) ≡ with_side side next (steps_of side duo + suc n) duo
      counted_on Lead = let e : duo.lead_steps + n + 1 ≡ duo.lead_steps + suc n = omega arith in ap (λ steps. with_side Lead next steps duo) e
      counted_on Trail = let e : duo.trail_steps + n + 1 ≡ duo.trail_steps + suc n = omega arith in ap (λ steps. with_side Trail next steps duo) e

  same_side : (duo : DuoState) (s : SideState) → (view_of side duo).at ≡ Went s → with_side side s (steps_of side duo + 0) duo ≡ duo
  same_side duo s = same_on side
    where
      same_on : (side : Side) → (view_of side duo).at ≡ Went s → with_side side s (steps_of side duo + 0) duo ≡ duo
      same_on Lead at = let e : duo.lead_steps + 0 ≡ duo.lead_steps = omega arith in ap₂ (λ o steps. record duo { lead = o; lead_steps = steps }) (sym at) e
      same_on Trail at = let e : duo.trail_steps + 0 ≡ duo.trail_steps = omega arith in ap₂ (λ o steps. record duo { trail = o; trail_steps = steps }) (sym at) e

  -- and so many
  pub more_turns : (n : ℕ) (duo : DuoState) (s after : SideState) → (view_of side duo).at ≡ Went s → QuietSteps side program n s after →
      MoreTurns program no_upsets side n duo (with_side side after (steps_of side duo + n) duo)
  more_turns zero duo s after at same = ap (λ x. with_side side x (steps_of side duo + 0) duo) same ∙ same_side duo s at
  more_turns (suc n) duo s after at steps =
      let middle = with_side side steps.0 (steps_of side duo + n) duo in
      let last = one_turn middle steps.0 after (stands steps.0 (steps_of side duo + n) duo) steps.2 in
      (middle, more_turns n duo s steps.0 at steps.1, subst (λ d. Turns program no_upsets side None middle d Made []) (counted steps.0 after n duo) last)

  -- a step that was made is one of a side that had not ended
  had_not_ended : (duo after : DuoState) → Turns program no_upsets side None duo after Made [] → (s : SideState) × ((view_of side duo).at ≡ Went s)
  had_not_ended duo after turns = by_outcome (view_of side duo).at refl
    where
      by_outcome : (o : Outcome) → (view_of side duo).at ≡ o → (s : SideState) × ((view_of side duo).at ≡ Went s)
      by_outcome (Went s) at = (s, at)
      by_outcome (Ended end) at =
          let ended : turn_of program no_upsets side None duo ≡ record { state = duo; events = []; stepped = MadeLast end } = ap (λ o. turn_at o side program None duo) at in
          let clash : MadeLast end ≡ Made = ap (λ (t : Turned). t.stepped) (sym ended ∙ turns) in
          absurd (cc)

module _ (setting : Setting) (side : Side) where
  -- some schedule leads there too
  pub more_reached : (n : ℕ) (duo after : DuoState) (events : List Event) → Reached setting no_upsets duo events → MoreTurns setting.program no_upsets side n duo after →
      Reached setting no_upsets after events
  more_reached zero duo after events reached same = subst (λ d. Reached setting no_upsets d events) (sym same) reached
  more_reached (suc n) duo after events reached more =
      let so_far = more_reached n duo more.0 events reached more.1 in
      subst (Reached setting no_upsets after) (append-nil events)
      (turns_reach setting more.0 events so_far side None after Made [] more.2)

  -- and less is to go, whoever's turn it is
  pub more_lower : (n : ℕ) (duo after : DuoState) (events : List Event) → HasSites setting.program → Reached setting no_upsets duo events → MoreTurns setting.program no_upsets side n duo after →
      (whose : Side) → turns_left setting.program whose after ≤ turns_left setting.program whose duo
  more_lower zero duo after events sites reached same whose = subst (λ d. turns_left setting.program whose d ≤ turns_left setting.program whose duo) (sym same) (omega arith)
  more_lower (suc n) duo after events sites reached more whose =
      let so_far = more_reached n duo more.0 events reached more.1 in
      let before = more_lower n duo more.0 events sites reached more.1 whose in
      let s = had_not_ended setting.program side more.0 after more.2 in
      let made_it : (turn_of setting.program no_upsets side None more.0).stepped ≢ NotYet = λ h. (let clash : Made ≡ NotYet = sym (ap (λ (t : Turned). t.stepped) more.2) ∙ h in cc) in
      let lowers = reached_lowers setting more.0 events sites so_far side None s.0 s.1 made_it in
      let less : duo_left setting.program after < duo_left setting.program more.0 = subst (λ (t : Turned). duo_left setting.program t.state < duo_left setting.program more.0) more.2 lowers in
      omega (arith, before, less, idle_few_at setting.program whose after)

-- the same by the fields of the core
not_some : (o : Option ThreadEnd) → is_some o ≡ false → o ≡ None
not_some None h = refl
not_some (Some end) h = absurd (cc)

module _ (program : SharedProgram) (a : Inside) (before : DuoState) (is : duo_of a ≡ before) (n : ℕ) (m : SideState) where
  pub lead_more : is_some a.lead_over ≡ false → QuietSteps Lead program n a.lead m → MoreTurns program no_upsets Lead n before (record (duo_of a) { lead = outcome_by a.lead_over m; lead_steps = a.lead_steps + n })
  lead_more goes steps =
      let none = not_some a.lead_over goes in
      let turns = more_turns program Lead n (duo_of a) a.lead m (ap (λ o. outcome_by o a.lead) none) steps in
      let last = ap (λ o. record (duo_of a) { lead = outcome_by o m; lead_steps = a.lead_steps + n }) (sym none) in
      subst (λ d. MoreTurns program no_upsets Lead n d (record (duo_of a) { lead = outcome_by a.lead_over m; lead_steps = a.lead_steps + n })) is
      (subst (MoreTurns program no_upsets Lead n (duo_of a)) last turns)

  pub trail_more : is_some a.trail_over ≡ false → QuietSteps Trail program n a.trail m → MoreTurns program no_upsets Trail n before (record (duo_of a) { trail = outcome_by a.trail_over m; trail_steps = a.trail_steps + n })
  trail_more goes steps =
      let none = not_some a.trail_over goes in
      let turns = more_turns program Trail n (duo_of a) a.trail m (ap (λ o. outcome_by o a.trail) none) steps in
      let last = ap (λ o. record (duo_of a) { trail = outcome_by o m; trail_steps = a.trail_steps + n }) (sym none) in
      subst (λ d. MoreTurns program no_upsets Trail n d (record (duo_of a) { trail = outcome_by a.trail_over m; trail_steps = a.trail_steps + n })) is
      (subst (MoreTurns program no_upsets Trail n (duo_of a)) last turns)

-- an event of a side with those behind it, for the loop over both sides
module _ (setting : Setting) (duo : DuoState) (events : List Event) (reached : Reached setting no_upsets duo events) (side : Side) (after : DuoState) (stepped : Stepped) (written : List Event)
    (on : TurnsOn setting.program no_upsets side duo after stepped written) where
  first_reached : Reached setting no_upsets on.first (events ++ written)
  first_reached = turns_reach setting duo events reached side on.fails on.first stepped written on.turns

  pub on_reach : Reached setting no_upsets after (events ++ written)
  on_reach = more_reached setting side on.count on.first after (events ++ written) first_reached on.more

  pub on_lower : HasSites setting.program → (BothOver duo → ⊥) → turns_left setting.program (next_turn stepped side) after < turns_left setting.program side duo
  on_lower sites going =
      let first = turns_lower setting duo events sites reached going side on.fails on.first stepped written on.turns in
      let more = more_lower setting side on.count on.first after (events ++ written) sites first_reached on.more (next_turn stepped side) in
      omega (arith, first, more)
