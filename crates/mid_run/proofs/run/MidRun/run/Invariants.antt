use Rattle.std.proofs.Common.{◌≡◌, List}
use Rattle.srmt_base.specs.declared.event.Event.{Event}
use Rattle.srmt_outside.specs.Told.{Appends}
use Rattle.mid_run.specs.Progress.{FitsIn, Runs}
use Rattle.mid_run.proofs.StepsRun.{to_go}
use Rattle.mid_run.proofs.run.MidRun.run.Given as goal

abbrev pub invariant-loop-end : goal.invariant-loop-end
invariant-loop-end g l = record {
  runs : (events : List Event) × Runs l.program l.fn.self events l.self × Appends (g.O.Outlet.events l.fn.outlet) (g.O.Outlet.events l.outlet) events;
  fits : FitsIn l.program l.self;
  faults : g.O.Outlet.faults l.outlet ≡ g.O.Outlet.faults l.fn.outlet;
}

abbrev pub decreases-loop-end : goal.decreases-loop-end
decreases-loop-end g l = to_go l.program l.self
