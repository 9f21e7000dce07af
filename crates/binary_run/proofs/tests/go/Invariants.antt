use Rattle.std.proofs.Common.{◌≤◌}
use Rattle.binary_run.specs.Fits.{IsDue, FitsBinary}
use Rattle.binary_run.proofs.tests.go.Given as goal

abbrev pub invariant-loop : goal.invariant-loop
invariant-loop g l = record {
  fits : FitsBinary l.program l.run;
  due : IsDue l.run.next;
  within : l.at ≤ 0;
}
