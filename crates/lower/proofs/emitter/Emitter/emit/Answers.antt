use Rattle.lower.proofs.Steps.{memory, exits}
use Rattle.lower.proofs.Emitted.{told-one}
use Rattle.lower.proofs.emitter.Emitter.emit.Goals as goal

pub returns-in_err-emit : goal.returns-in_err-emit
returns-in_err-emit c = λ rows. memory (exits c.from_residual.result _ c.from_residual.ensures.1)

pub returns : goal.returns
returns c = λ rows. told-one c.args.mid c.in_ok-emit.ensures
