use Rattle.running_laws.proofs.CanRun.{can_run}
use Rattle.running_laws.proofs.laws.typed_programs_can_run.Goals as goal

pub returns : goal.returns
returns c = λ main binary program items numbers h. can_run main binary program items numbers h
