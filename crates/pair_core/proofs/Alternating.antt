-- Both sides in turn come to their end.
use Rattle.std.proofs.Common.{◌≡◌, ◌≢◌, ℕ, ◌+◌, ◌*◌, ◌<◌, ◌≤◌, inl, inr, List, ◌++◌, Option, None, refl, sym, ap, ◌∙◌, subst, arith}
use Rattle.srmt_base.specs.declared.event.Event.{Event}
use Rattle.srmt_base.specs.declared.side.Side.{Side}
use Rattle.srmt_base.specs.declared.side.Side.TheVariants.{Lead, Trail}
use Rattle.mid_code.specs.Classes.{SharedProgram}
use Rattle.mid_code.specs.Pairs.{HasSites}
use Rattle.world.specs.World.{Setting}
use Rattle.machine.specs.declared.stepped.Stepped.{Stepped}
use Rattle.machine.specs.declared.stepped.Stepped.TheVariants.{Made, NotYet, MadeLast}
use Rattle.machine.specs.Side.{SideState, Outcome, Went, Ended}
use Rattle.machine.proofs.Fitting.{fits_opening}
use Rattle.machine.specs.Upset.{no_upsets}
use Rattle.pair_core.specs.Duo.{DuoState, view_of, Turned, turn_at, turn_of, Reached}
use Rattle.pair_core.specs.Laws.{CanGo}
use Rattle.pair_core.specs.Turns.{DuoFits, IsCountable, Turns}
use Rattle.verdicts.specs.declared.verdict.Ran.{Ran}
use Rattle.pair_core.specs.Answer.{IsAnswer, FollowsIdeal}
use Rattle.pair_core.specs.InTurn.{other_side, next_turn, BothOver, IsRan, IsOpening}
use Rattle.pair_core.proofs.Answering.{is_answer, follows_ideal}
use Rattle.pair_core.proofs.Sounds.{sound_reached}
use Rattle.pair_core.proofs.Measure.{duo_left}
use Rattle.pair_core.proofs.Lowering.{reached_lowers}
use Rattle.pair_core.proofs.Reaching.{reached_turn, turn_waits, waits_too}
use Rattle.pair_core.proofs.Counting.{counted_reached}

-- whether a side has ended or waits
abbrev pub idle_by : Stepped → ℕ
idle_by Made = 0
idle_by NotYet = 1
idle_by (MadeLast end) = 0

abbrev pub idle_at : Outcome → Stepped → ℕ
idle_at (Went s) stepped = idle_by stepped
idle_at (Ended end) stepped = 1

abbrev pub idle : SharedProgram → Side → DuoState → ℕ
idle program side duo = idle_at (view_of side duo).at (turn_of program no_upsets side None duo).stepped

-- how much is to go where it is the turn of this side
abbrev pub turns_left : SharedProgram → Side → DuoState → ℕ
turns_left program side duo = 2 * duo_left program duo + idle program side duo

idle_made : (stepped : Stepped) → stepped ≢ NotYet → idle_by stepped ≡ 0
idle_made Made goes = refl
idle_made NotYet goes = absurd (goes refl)
idle_made (MadeLast end) goes = refl

idle_going : (o : Outcome) (stepped : Stepped) → ((s : SideState) → o ≡ Went s → idle_by stepped ≡ 0) → ((end : _) → o ≢ Ended end) → idle_at o stepped ≡ 0
idle_going (Went s) stepped none goes = none s refl
idle_going (Ended end) stepped none goes = absurd (goes end refl)

can_idle : (program : SharedProgram) (side : Side) (duo : DuoState) → CanGo program no_upsets side duo → idle program side duo ≡ 0
can_idle program side duo can = idle_going (view_of side duo).at (turn_of program no_upsets side None duo).stepped (λ s at. idle_made (turn_of program no_upsets side None duo).stepped can.goes) can.goes_on

idle_few : (stepped : Stepped) → idle_by stepped ≤ 1
idle_few Made = omega arith
idle_few NotYet = omega arith
idle_few (MadeLast end) = omega arith

idle_most : (o : Outcome) (stepped : Stepped) → idle_at o stepped ≤ 1
idle_most (Went s) stepped = idle_few stepped
idle_most (Ended end) stepped = omega arith

pub idle_few_at : (program : SharedProgram) (side : Side) (duo : DuoState) → idle program side duo ≤ 1
idle_few_at program side duo = idle_most (view_of side duo).at (turn_of program no_upsets side None duo).stepped

module _ (setting : Setting) (duo : DuoState) (events : List Event) (sites : HasSites setting.program) (reached : Reached setting no_upsets duo events) (going : BothOver duo → ⊥) where
  -- where one side cannot go the other can
  other_goes : (side : Side) → (CanGo setting.program no_upsets side duo → ⊥) → CanGo setting.program no_upsets (other_side side) duo
  other_goes Lead cannot =
      elim (sound_reached setting duo events sites reached).ends_well.goes as (λ _. CanGo setting.program no_upsets Trail duo) [
        | inl can ↦ absurd (cannot can)
        | inr (inl can) ↦ can
        | inr (inr both) ↦ absurd (going both)
      ]
  other_goes Trail cannot =
      elim (sound_reached setting duo events sites reached).ends_well.goes as (λ _. CanGo setting.program no_upsets Lead duo) [
        | inl can ↦ can
        | inr (inl can) ↦ absurd (cannot can)
        | inr (inr both) ↦ absurd (going both)
      ]

  module _ (side : Side) (fails : Option ℕ) where
    abbrev turned : Turned
    turned = turn_of setting.program no_upsets side fails duo

    -- the side could not go, and it is the other's turn
    passed_on : (stepped : Stepped) → turned.state ≡ duo → next_turn stepped side ≡ other_side side → (CanGo setting.program no_upsets side duo → ⊥) → idle setting.program side duo ≡ 1 → turns_left setting.program (next_turn stepped side) turned.state < turns_left setting.program side duo
    passed_on stepped same next cannot one =
        let none = can_idle setting.program (other_side side) duo (other_goes side cannot) in
        let state : turns_left setting.program (next_turn stepped side) turned.state ≡ turns_left setting.program (other_side side) duo = ap (λ x. turns_left setting.program x turned.state) next ∙ ap (turns_left setting.program (other_side side)) same in
        subst (λ n. n < turns_left setting.program side duo) (sym state) (less_idle (duo_left setting.program duo) _ _ none one)
      where
        less_idle : (left a b : ℕ) → a ≡ 0 → b ≡ 1 → 2 * left + a < 2 * left + b
        less_idle left a b e f = omega arith

    -- the side made a step
    went_on : (s : SideState) → (view_of side duo).at ≡ Went s → turned.stepped ≢ NotYet → turns_left setting.program (next_turn turned.stepped side) turned.state < turns_left setting.program side duo
    went_on s at goes =
        less_left _ _ _ _ (reached_lowers setting duo events sites reached side fails s at goes) (idle_few_at setting.program (next_turn turned.stepped side) turned.state)
      where
        less_left : (n l a b : ℕ) → n < l → a ≤ 1 → 2 * n + a < 2 * l + b
        less_left n l a b less few = omega arith

    by_stepped : (s : SideState) → (view_of side duo).at ≡ Went s → (stepped : Stepped) → turned.stepped ≡ stepped → turns_left setting.program (next_turn turned.stepped side) turned.state < turns_left setting.program side duo
    by_stepped s at Made e = went_on s at (λ h. let clash : Made ≡ NotYet = sym e ∙ h in cc)
    by_stepped s at (MadeLast end) e = went_on s at (λ h. let clash : MadeLast end ≡ NotYet = sym e ∙ h in cc)
    by_stepped s at NotYet e =
        let waits = waits_too setting.program side fails None duo e in
        passed_on turned.stepped (turn_waits setting.program side fails duo e).0 (ap (λ x. next_turn x side) e) (λ can. can.goes waits)
        (ap (λ o. idle_at o (turn_of setting.program no_upsets side None duo).stepped) at ∙ ap idle_by waits)

    by_outcome : (o : Outcome) → (view_of side duo).at ≡ o → turns_left setting.program (next_turn turned.stepped side) turned.state < turns_left setting.program side duo
    by_outcome (Went s) at = by_stepped s at turned.stepped refl
    by_outcome (Ended end) at =
        let same : turned ≡ turn_at (Ended end) side setting.program fails duo = ap (λ o. turn_at o side setting.program fails duo) at in
        passed_on turned.stepped (ap (λ t. t.state) same) (ap (λ t. next_turn t.stepped side) same) (λ can. can.goes_on end at)
        (ap (λ o. idle_at o (turn_of setting.program no_upsets side None duo).stepped) at)

    pub turn_lowers : turns_left setting.program (next_turn turned.stepped side) turned.state < turns_left setting.program side duo
    turn_lowers = by_outcome (view_of side duo).at refl

-- the same, by what an event of the code leads to
pub turns_lower : (setting : Setting) (duo : DuoState) (events : List Event) → HasSites setting.program → Reached setting no_upsets duo events → (BothOver duo → ⊥) →
    (side : Side) (fails : Option ℕ) (after : DuoState) (stepped : Stepped) (more : List Event) → Turns setting.program no_upsets side fails duo after stepped more → turns_left setting.program (next_turn stepped side) after < turns_left setting.program side duo
turns_lower setting duo events sites reached going side fails after stepped more turns =
    subst (λ t. turns_left setting.program (next_turn t.stepped side) t.state < turns_left setting.program side duo) turns (turn_lowers setting duo events sites reached going side fails)

pub turns_reach : (setting : Setting) (duo : DuoState) (events : List Event) → Reached setting no_upsets duo events →
    (side : Side) (fails : Option ℕ) (after : DuoState) (stepped : Stepped) (more : List Event) → Turns setting.program no_upsets side fails duo after stepped more → Reached setting no_upsets after (events ++ more)
turns_reach setting duo events reached side fails after stepped more turns =
    subst (λ t. Reached setting no_upsets t.state (events ++ t.events)) turns (reached_turn setting duo events reached side fails)

pub countable : (setting : Setting) (duo : DuoState) (events : List Event) → HasSites setting.program → Reached setting no_upsets duo events → IsCountable duo
countable setting duo events sites reached =
    let c = counted_reached setting sites duo events reached in
    record {
      lead = omega (arith, c.steps);
      trail = omega (arith, c.steps);
      words = omega (arith, c.steps, c.words);
      acks = omega (arith, c.steps, c.acks);
    }

-- the answer where both have ended
pub answered_so : (setting : Setting) (duo : DuoState) (events : List Event) → HasSites setting.program → Reached setting no_upsets duo events → (ran : Ran) → IsRan duo ran →
    IsAnswer setting no_upsets events ran × FollowsIdeal setting events ran
answered_so setting duo events sites reached ran is =
    subst (λ r. IsAnswer setting no_upsets events r × FollowsIdeal setting events r) (sym is.4)
    (is_answer setting duo events sites reached is.0 is.1 is.2 is.3, follows_ideal setting duo events sites reached is.0 is.1 is.2 is.3)

pub opening_fits : (program : SharedProgram) (duo : DuoState) → HasSites program → IsOpening program duo → DuoFits program duo
opening_fits program duo sites opening =
    subst (DuoFits program) (sym opening.2) (record { lead = fits_opening Lead program opening.1 sites; trail = fits_opening Trail program opening.1 sites; world = refl })
