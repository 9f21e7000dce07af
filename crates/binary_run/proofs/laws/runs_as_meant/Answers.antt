use Rattle.binary_run.proofs.MeantRuns.{runs_meant}
use Rattle.binary_run.proofs.laws.runs_as_meant.Goals as goal

pub returns : goal.returns
returns c program = runs_meant program
