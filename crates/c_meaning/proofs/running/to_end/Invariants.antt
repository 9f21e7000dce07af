use Rattle.std.proofs.Common.{◌≡◌, ◌+◌, ◌<◌}
use Rattle.c_meaning.specs.Ending.{rest_from}
use Rattle.c_meaning.specs.Runs.{IsSound, turns_of}
use Rattle.c_meaning.proofs.Endings.{SoFar}
use Rattle.c_meaning.proofs.running.to_end.Given as goal

abbrev pub invariant-loop : goal.invariant-loop
invariant-loop g l = record {
  so_far : SoFar l.program (rest_from l.program l.fn.run) (turns_of l.fn.run.world.budgets) l.run (g.O.Outlet.events l.fn.outlet) (g.O.Outlet.events l.outlet);
  sound : IsSound l.program l.run;
  turns : turns_of l.run.world.budgets + l.counter < l.turns;
  faults : g.O.Outlet.faults l.outlet ≡ g.O.Outlet.faults l.fn.outlet;
}
