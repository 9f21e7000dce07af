use Rattle.std.proofs.Common.{sym, subst}
use Rattle.frames.specs.Kept.{TakesResult}
use Rattle.binary_run.specs.Binary.{BinaryState}
use Rattle.binary_run.proofs.CodeSteps.{takes_result}
use Rattle.binary_run.proofs.binary.BinaryRun.leave.Goals as goal

pub leave-requires-clause-caller : goal.leave-requires-clause-caller
leave-requires-clause-caller c =
    subst (λ (s : BinaryState). TakesResult s.machine.top.into s.machine.below) (sym c.self.view_is)
    (takes_result c.args.program.now c.args.self.now c.requires.valid c.requires.fits c.requires.next)
