use Rattle.binary_run.specs.Fits.{FitsBinary}
use Rattle.binary_run.proofs.tests.play.Given as goal

abbrev pub invariant-loop-turn : goal.invariant-loop-turn
invariant-loop-turn l = FitsBinary l.program l.run
