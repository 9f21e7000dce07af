-- Whether a run keeps addresses is decided by going over it once.
use Rattle.std.proofs.Common.{◌≡◌, ℕ, zero, suc, ◌+◌, ◌<◌, List, [], ◌++◌, true, refl, sym, ap, ◌∙◌, subst, arith}
use Rattle.std.proofs.lemmas.Bool.{and_parts, and_from}
use Rattle.srmt_base.specs.declared.event.Event.{Event}
use Rattle.srmt_base.specs.declared.limits.Limits.{Limits}
use Rattle.mid_code.specs.declared.program.MidProgram.{MidProgram}
use Rattle.mid_code.specs.Bounds.{left_to_go}
use Rattle.mid_code.specs.Start.{started_machine}
use Rattle.mid_code.specs.Meaning.{State, Step, On, Ends, Stuck, Run, Running, Ended, NoWay, if_on, step, preceded, then_run, exec, started}
use Rattle.mid_code.specs.Keeps.{Write, writes_after, keeps_next, keeps_for, writes_in}
use Rattle.mid_code.specs.Laws.{CanRun, DecidesKeeping}
use Rattle.mid_code.proofs.RunsEnd.{made_and_left}
use Rattle.mid_code.proofs.StartFits.{fits_started}

-- a run after earlier events goes on where it does without them
running_behind : (before : List Event) (r : Run) (t : State) (events : List Event) → preceded before r ≡ Running t events →
    (seen : List Event) × (r ≡ Running t seen)
running_behind before (Running m seen) t events e = let same : m ≡ t = cc in (seen, ap (λ x. Running x seen) same)
running_behind before (Ended end seen) t events e = absurd (cc)
running_behind before NoWay t events e = absurd (cc)

module _ (program : MidProgram) where
  -- what each moment of the run from a state keeps
  abbrev Keeps : List Write → State → Type 0
  Keeps writes s = (steps : ℕ) (t : State) (events : List Event) → exec program steps s ≡ Running t events → keeps_next program (writes_in program steps writes s) t ≡ true

  -- going over so many steps tests each moment before
  kept_step : (steps more : ℕ) (writes after : List Write) (u : Step) (t : State) (events : List Event) →
      ((next : State) (seen : List Event) → keeps_for program more after next ≡ true → exec program steps next ≡ Running t seen →
      keeps_next program (writes_in program steps after next) t ≡ true) →
      if_on u true (keeps_for program more after) ≡ true → then_run u (exec program steps) ≡ Running t events →
      keeps_next program (if_on u writes (writes_in program steps after)) t ≡ true
  kept_step steps more writes after (On next es) t events rest h e =
      let behind = running_behind es (exec program steps next) t events e in
      rest next behind.0 h behind.1
  kept_step steps more writes after (Ends end es) t events rest h e = absurd (cc)
  kept_step steps more writes after Stuck t events rest h e = absurd (cc)

  kept_at : (steps more : ℕ) (writes : List Write) (s t : State) (events : List Event) → steps < more → keeps_for program more writes s ≡ true →
      exec program steps s ≡ Running t events → keeps_next program (writes_in program steps writes s) t ≡ true
  kept_at steps zero writes s t events within h e = absurd (omega (arith, within))
  kept_at zero (suc more) writes s t events within h e =
      let same : s ≡ t = cc in
      subst (λ x. keeps_next program writes x ≡ true) same
      (and_parts (keeps_next program writes s) (if_on (step program s) true (keeps_for program more (writes_after program writes s))) h).0
  kept_at (suc steps) (suc more) writes s t events within h e =
      let after = writes_after program writes s in
      let both = and_parts (keeps_next program writes s) (if_on (step program s) true (keeps_for program more after)) h in
      kept_step steps more writes after (step program s) t events
      (λ next seen k f. kept_at steps more after next t seen (omega (arith, within)) k f) both.1 e

  -- and where each moment keeps addresses, going over any number of steps finds that
  rest_kept : (writes after : List Write) (s : State) (more : ℕ) (u : Step) → step program s ≡ u → writes_after program writes s ≡ after →
      ((next : State) → Keeps after next → keeps_for program more after next ≡ true) → Keeps writes s → if_on u true (keeps_for program more after) ≡ true
  rest_kept writes after s more (On next es) is wrote rest all = rest next later where
    later : Keeps after next
    later steps t events e =
        let made : exec program (suc steps) s ≡ Running t (es ++ events) = ap (λ v. then_run v (exec program steps)) is ∙ ap (preceded es) e in
        let found = all (suc steps) t (es ++ events) made in
        let writes_are : writes_in program (suc steps) writes s ≡ writes_in program steps after next =
        ap (λ v. if_on v writes (writes_in program steps (writes_after program writes s))) is ∙ ap (λ ws. writes_in program steps ws next) wrote in
        ap (λ ws. keeps_next program ws t) (sym writes_are) ∙ found
  rest_kept writes after s more (Ends end es) is wrote rest all = refl
  rest_kept writes after s more Stuck is wrote rest all = refl

  kept_for : (more : ℕ) (writes : List Write) (s : State) → Keeps writes s → keeps_for program more writes s ≡ true
  kept_for zero writes s all = refl
  kept_for (suc more) writes s all =
      let after = writes_after program writes s in
      and_from (keeps_next program writes s) (if_on (step program s) true (keeps_for program more after)) (all 0 s [] refl)
      (rest_kept writes after s more (step program s) refl refl (λ next later. kept_for more after next later) all)

pub decides_keeping : (program : MidProgram) (input : List ℕ) (limits : Limits) → CanRun program input limits → DecidesKeeping program input limits
decides_keeping program input limits can =
    let start = started program input limits in
    let most = left_to_go program (started_machine program limits) + 1 in (
      λ h steps t events e.
          let made = made_and_left program can.valid steps start t events (fits_started program input limits can.valid can.fit can.bytes) e in
          kept_at program steps most [] start t events (omega (arith, made)) h e,
      λ all. kept_for program most [] start all,
    )
