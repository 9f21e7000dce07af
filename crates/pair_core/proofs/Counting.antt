-- How many steps and words a run can count.
use Rattle.std.proofs.Common.{◌≡◌, ℕ, zero, suc, ◌+◌, ◌-◌, ◌*◌, ◌^◌, ◌<◌, ◌≤◌, List, [], ◌∷◌, ◌++◌, length, Option, Some, None, slice_get, option_and_then, refl, sym, ap, ◌∙◌, subst, arith, inl, inr}
use Rattle.std.proofs.lemmas.Bool.{cases_lt}
use Rattle.srmt_base.specs.declared.event.Event.{Event}
use Rattle.srmt_base.specs.declared.side.Side.{Side}
use Rattle.srmt_base.specs.declared.side.Side.TheVariants.{Lead, Trail}
use Rattle.mid_code.specs.Classes.{SharedProgram}
use Rattle.mid_code.specs.declared.version.Version.{Version}
use Rattle.mid_code.specs.declared.version.VersionLine.{VersionLine}
use Rattle.mid_code.specs.Pairs.{HasSites}
use Rattle.world.specs.Standing.{started_standing}
use Rattle.mid_code.proofs.Values.{one_within}
use Rattle.world.specs.World.{Setting}
use Rattle.machine.specs.Side.{SideState, Plain, Outcome, Went, Ended}
use Rattle.machine.specs.Steps.{versions_of, side_op, takes_at}
use Rattle.machine.specs.Meets.{next_of, CanMeet}
use Rattle.machine.proofs.Placed.{placed}
use Rattle.machine.specs.Upset.{no_upsets}
use Rattle.pair_core.specs.Duo.{DuoState, opening_duo, view_of, Finds, Waits, Meets, finds, turn_found, turn_at, turn_of, Entry, Scheduled, run_on, scheduled, Reached}
use Rattle.pair_core.proofs.Finding.{IsFound, found, alike}
use Rattle.pair_core.proofs.Duos.{Good, Quits, good_opening, good_turn, lead_meets, trail_meets, can_trail}
use Rattle.pair_core.proofs.Measure.{long_of, version_long, side_left, duo_left, LowerBy, lead_lowers, trail_lowers}

-- so many steps can be counted in all
abbrev pub step_bound : ℕ
step_bound = 2 ^ 27

-- how many steps and words were counted, beside what is left
pub record Counted (program : SharedProgram) (duo : DuoState) : Type 0 where
  pub steps : duo.lead_steps + duo.trail_steps + duo_left program duo ≤ step_bound
  pub words : duo.words_sent ≤ 18 * duo.lead_steps
  pub acks : duo.acks_sent ≤ 18 * duo.trail_steps

lead_sum : (a b n l r k bound : ℕ) → l ≡ k → n < k → a + b + (l + r) ≤ bound → a + 1 + b + (n + r) ≤ bound
lead_sum a b n l r k bound e less c = omega arith

trail_sum : (a b n l r k bound : ℕ) → r ≡ k → n < k → a + b + (l + r) ≤ bound → a + (b + 1) + (l + n) ≤ bound
trail_sum a b n l r k bound e less c = omega arith

more_words : (w a n : ℕ) → w ≤ 18 * a → n ≤ 18 → w + n ≤ 18 * (a + 1)
more_words w a n h few = omega arith

module _ (setting : Setting) (sites : HasSites setting.program) (duo : DuoState) (events : List Event) (g : Good setting duo events) (c : Counted setting.program duo) where
  lead_counted : (s : SideState) → duo.lead ≡ Went s → (f : Finds) → IsFound (takes_at (side_op Lead setting.program s)) (length (next_of Lead setting.program s duo.world Plain).events) (view_of Lead duo) f → Counted setting.program (turn_found f Lead setting.program s duo).state
  lead_counted s at Waits h = c
  lead_counted s at (Meets meet left) h =
      let own = lead_lowers setting sites g.i g.lead s (sym g.is_lead ∙ at) meet g.lead_at (subst (λ w. CanMeet Lead setting.program s w meet) g.is_world h.0) (lead_meets setting sites duo events g s at meet left h.0 h.1 h.2) in
      let lower : LowerBy setting.program Lead s (next_of Lead setting.program s duo.world meet) = subst (λ w. LowerBy setting.program Lead s (next_of Lead setting.program s w meet)) (sym g.is_world) own in
      record {
        steps = lead_sum duo.lead_steps duo.trail_steps _ _ (side_left setting.program Trail duo.trail) _ step_bound (ap (side_left setting.program Lead) at) lower.less c.steps;
        words = more_words duo.words_sent duo.lead_steps _ c.words lower.few;
        acks = c.acks;
      }

  trail_counted : (s : SideState) → duo.trail ≡ Went s → (f : Finds) → IsFound (takes_at (side_op Trail setting.program s)) (length (next_of Trail setting.program s duo.world Plain).events) (view_of Trail duo) f → Counted setting.program (turn_found f Trail setting.program s duo).state
  trail_counted s at Waits h = c
  trail_counted s at (Meets meet left) h =
      let own = trail_lowers setting sites g.j g.trail s (sym g.is_trail ∙ at) meet (Quits g.lead) g.trail_at (can_trail setting sites duo events g s at meet left h.0 h.1 h.2) (trail_meets setting sites duo events g s at meet left h.0 h.1 h.2) in
      let same = alike setting.program s duo.world g.trail.world meet in
      let less : side_left setting.program Trail (next_of Trail setting.program s duo.world meet).outcome < side_left setting.program Trail (Went s) = subst (λ o. side_left setting.program Trail o < side_left setting.program Trail (Went s)) (sym same.outcome) own.less in
      let few : length (next_of Trail setting.program s duo.world meet).sent ≤ 18 = subst (λ t. length t ≤ 18) (sym same.sent) own.few in
      record {
        steps = trail_sum duo.lead_steps duo.trail_steps _ (side_left setting.program Lead duo.lead) _ _ step_bound (ap (side_left setting.program Trail) at) less c.steps;
        words = c.words;
        acks = more_words duo.acks_sent duo.trail_steps _ c.acks few;
      }

  lead_turned : (fails : Option ℕ) (o : Outcome) → duo.lead ≡ o → Counted setting.program (turn_at o Lead setting.program fails duo).state
  lead_turned fails (Went s) at = lead_counted s at (finds Lead setting.program s duo.world fails (view_of Lead duo)) (found Lead setting.program s duo.world fails (view_of Lead duo))
  lead_turned fails (Ended end) at = c

  trail_turned : (fails : Option ℕ) (o : Outcome) → duo.trail ≡ o → Counted setting.program (turn_at o Trail setting.program fails duo).state
  trail_turned fails (Went s) at = trail_counted s at (finds Trail setting.program s duo.world fails (view_of Trail duo)) (found Trail setting.program s duo.world fails (view_of Trail duo))
  trail_turned fails (Ended end) at = c

  turn_counted : (side : Side) (fails : Option ℕ) → Counted setting.program (turn_of setting.program no_upsets side fails duo).state
  turn_counted Lead fails = lead_turned fails duo.lead refl
  turn_counted Trail fails = trail_turned fails duo.trail refl

-- no version is long
module _ (side : Side) (program : SharedProgram) (sites : HasSites program) where
  short_one : (function : ℕ) (o : Option Version) → ((place : ℕ) (l : VersionLine) → option_and_then (λ v. slice_get v.code place) o ≡ Some l → place < 2 ^ 21) → long_of o ≤ 2 ^ 21
  short_one function None small = omega arith
  short_one function (Some v) small =
      elim (cases_lt 0 (length v.code)) as (λ _. length v.code ≤ 2 ^ 21) [
        | inl some ↦
            let last : length v.code - 1 < length v.code = omega arith in
            let one = one_within v.code (length v.code - 1) last in
            omega (arith, small (length v.code - 1) one.0 one.1)
        | inr none ↦ omega arith
      ]

  short_version : (function : ℕ) → version_long (versions_of side program) function ≤ 2 ^ 21
  short_version zero = omega arith
  short_version (suc before) =
      short_one (suc before) (slice_get (versions_of side program) before) (λ place l at. (placed side program (suc before) place l sites at).small)

module _ (setting : Setting) (sites : HasSites setting.program) where
  counted_opening : Counted setting.program (opening_duo setting)
  counted_opening = record {
    steps = omega (arith, short_version Lead setting.program sites (started_standing setting.program.program setting.limits).machine.top.function, short_version Trail setting.program sites (started_standing setting.program.program setting.limits).machine.top.function);
    words = omega arith;
    acks = omega arith;
  }

  counted_run : (entries : List Entry) (sofar : Scheduled) → Good setting sofar.duo sofar.events → Counted setting.program sofar.duo → Counted setting.program (run_on setting.program no_upsets sofar entries).duo
  counted_run [] sofar g c = c
  counted_run (entry ∷ entries) sofar g c =
      counted_run entries (record { duo = (turn_of setting.program no_upsets entry.side entry.fails sofar.duo).state; events = sofar.events ++ (turn_of setting.program no_upsets entry.side entry.fails sofar.duo).events })
      (good_turn setting sites sofar.duo sofar.events g entry.side entry.fails)
      (turn_counted setting sites sofar.duo sofar.events g c entry.side entry.fails)

  pub counted_scheduled : (entries : List Entry) → Counted setting.program (scheduled setting no_upsets entries).duo
  counted_scheduled entries = counted_run entries (record { duo = opening_duo setting; events = [] }) (good_opening setting sites) counted_opening

  pub counted_reached : (duo : DuoState) (events : List Event) → Reached setting no_upsets duo events → Counted setting.program duo
  counted_reached duo events reached = subst (λ x. Counted setting.program x.duo) reached.1 (counted_scheduled reached.0)
