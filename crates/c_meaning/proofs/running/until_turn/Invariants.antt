use Rattle.std.proofs.Common.{◌≡◌}
use Rattle.c_meaning.specs.Ending.{rest_from}
use Rattle.c_meaning.specs.Runs.{IsSound, turns_of, work_left}
use Rattle.c_meaning.proofs.Endings.{SoFar}
use Rattle.c_meaning.proofs.running.until_turn.Given as goal

abbrev pub invariant-loop-end : goal.invariant-loop-end
invariant-loop-end g l = record {
  so_far : SoFar l.program (rest_from l.program l.fn.run) (turns_of l.fn.run.world.budgets) l.run (g.O.Outlet.events l.fn.outlet) (g.O.Outlet.events l.outlet);
  sound : IsSound l.program l.run;
  turns : turns_of l.run.world.budgets ≡ turns_of l.fn.run.world.budgets;
  faults : g.O.Outlet.faults l.outlet ≡ g.O.Outlet.faults l.fn.outlet;
}

abbrev pub decreases-loop-end : goal.decreases-loop-end
decreases-loop-end g l = work_left l.program l.run
