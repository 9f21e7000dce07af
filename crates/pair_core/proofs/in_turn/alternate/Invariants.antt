use Rattle.std.proofs.Common.{◌≡◌, false, List, ℕ}
use Rattle.srmt_base.specs.declared.event.Event.{Event}
use Rattle.srmt_base.specs.declared.limits.Limits.{Limits}
use Rattle.srmt_outside.specs.Told.{Appends}
use Rattle.world.specs.World.{setting_of}
use Rattle.machine.specs.Upset.{no_upsets}
use Rattle.pair_core.specs.Duo.{opening_duo, Reached}
use Rattle.pair_core.specs.Faults.{has_failed, faults_turned}
use Rattle.pair_core.specs.Turns.{DuoFits}
use Rattle.pair_core.proofs.Alternating.{turns_left}
use Rattle.pair_core.proofs.in_turn.alternate.Given as goal

abbrev pub invariant-loop-ran : goal.invariant-loop-ran
invariant-loop-ran g l = record {
  reached : (input : List ℕ) (limits : Limits) → l.fn.duo ≡ opening_duo (setting_of l.fn.pair input limits) → (events : List Event) × Appends (g.O.Outlet.events l.fn.outlet) (g.O.Outlet.events l.outlet) events × Reached (setting_of l.fn.pair input limits) no_upsets l.duo events;
  fits : DuoFits l.fn.pair l.duo;
  faults : g.O.Outlet.faults l.outlet ≡ faults_turned false (has_failed l.duo.lead) (g.O.Outlet.faults l.fn.outlet);
}

abbrev pub decreases-loop-ran : goal.decreases-loop-ran
decreases-loop-ran g l = turns_left l.fn.pair l.side l.duo
