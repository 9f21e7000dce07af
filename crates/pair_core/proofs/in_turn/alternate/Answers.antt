use Rattle.std.proofs.Common.{◌<◌, false, [], ◌++◌, sym, ap, ◌∙◌, subst}
use Rattle.srmt_outside.proofs.Told.{Appends-nothing, Appends-both}
use Rattle.world.specs.World.{setting_of}
use Rattle.machine.specs.Upset.{no_upsets}
use Rattle.pair_core.proofs.Alternating.{turns_left, countable, answered_so, opening_fits}
use Rattle.pair_core.proofs.MoreTurns.{on_lower, on_reach}
use Rattle.pair_core.proofs.Reaching.{reached_opening}
use Rattle.verdicts.specs.declared.verdict.Ran.{Ran}
use Rattle.machine.specs.Side.{Outcome}
use Rattle.pair_core.specs.Duo.{DuoState, Reached}
use Rattle.pair_core.specs.Faults.{has_failed, faults_turned, faults_told}
use Rattle.pair_core.proofs.Counts.{counted_on, told_count}
use Rattle.pair_core.proofs.in_turn.alternate.Goals as goal

pub returns-in-Some-clause-answer : goal.returns-in-Some-clause-answer
returns-in-Some-clause-answer g c = λ input limits opening.
    let so_far = c.loop-ran.invariant.reached input limits opening in
    let answer = answered_so (setting_of c.args.pair.now input limits) c.loop-ran.duo so_far.0 c.classed-classed.ensures.sites so_far.2 c.in-Some.ran c.in-Some.ensures in
    (so_far.0, so_far.1, answer.0, answer.1)

pub loop-ran-init : goal.loop-ran-init
loop-ran-init g c = record {
  reached = λ input limits opening. ([], Appends-nothing _, subst (λ d. Reached (setting_of c.args.pair.now input limits) no_upsets d []) (sym opening) (reached_opening (setting_of c.args.pair.now input limits)));
  fits = opening_fits c.args.pair.now c.args.duo.now c.classed-classed.ensures.sites c.requires;
  faults = ap (λ (d : DuoState). faults_turned false (has_failed d.lead) (g.O.Outlet.faults c.args.outlet.now)) (sym c.requires.2);
}

pub turn-side-requires-clause-countable : goal.turn-side-requires-clause-countable
turn-side-requires-clause-countable g c =
    let opening = c.requires in
    let so_far = c.loop-ran.invariant.reached opening.0 opening.1 opening.2 in
    countable (setting_of c.args.pair.now opening.0 opening.1) c.loop-ran.duo so_far.0 c.classed-classed.ensures.sites so_far.2

pub loop-ran-smaller : goal.loop-ran-smaller
loop-ran-smaller g c =
    let opening = c.requires in
    let so_far = c.loop-ran.invariant.reached opening.0 opening.1 opening.2 in
    let turn = c.turn-side.ensures.turns in
    subst (λ s. turns_left c.args.pair.now s c.turn-side.new.duo < turns_left c.args.pair.now c.loop-ran.side c.loop-ran.duo) (sym turn.4)
    (on_lower (setting_of c.args.pair.now opening.0 opening.1) c.loop-ran.duo so_far.0 so_far.2 c.loop-ran.side c.turn-side.new.duo turn.0 turn.1 turn.2 c.classed-classed.ensures.sites c.in_default.ensures)

pub loop-ran-preserved : goal.loop-ran-preserved
loop-ran-preserved g c =
    let turn = c.turn-side.ensures.turns in
    record {
      reached = λ input limits opening.
          let so_far = c.loop-ran.invariant.reached input limits opening in (
            so_far.0 ++ turn.1,
            Appends-both _ _ _ so_far.0 turn.1 so_far.1 turn.3,
            on_reach (setting_of c.args.pair.now input limits) c.loop-ran.duo so_far.0 so_far.2 c.loop-ran.side c.turn-side.new.duo turn.0 turn.1 turn.2,
          );
      fits = c.turn-side.ensures.fits;
      faults = counted_on c.loop-ran.duo.lead c.turn-side.new.duo.lead _ _ _ c.loop-ran.invariant.faults c.turn-side.ensures.faults;
    }

pub returns-in-Some-clause-faults : goal.returns-in-Some-clause-faults
returns-in-Some-clause-faults g c =
    let is = c.in-Some.ensures in
    let faults = g.O.Outlet.faults c.args.outlet.now in
    c.loop-ran.invariant.faults ∙ ap (λ (o : Outcome). faults_turned false (has_failed o) faults) is.2 ∙ told_count is.0 is.1 faults ∙ ap (λ (r : Ran). faults_told r.verdict faults) (sym is.4)
