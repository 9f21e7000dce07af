use Rattle.std.proofs.Common.{◌≡◌, take}
use Rattle.srmt_outside.specs.Told.{Appends}
use Rattle.srmt_outside.proofs.tests.write_all.Given as goal

abbrev pub invariant-loop-event : goal.invariant-loop-event
invariant-loop-event g l = record {
  told : Appends (g.O.Outlet.events l.initial.outlet) (g.O.Outlet.events l.outlet) (take l.event-index l.events);
  stands : g.O.Outlet.faults l.outlet ≡ g.O.Outlet.faults l.initial.outlet;
}
