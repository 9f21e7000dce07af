use Rattle.lower.proofs.Emitted.{no-code}
use Rattle.lower.proofs.emitter.Emitter.register.Goals as goal

pub returns : goal.returns
returns c = λ rows. no-code (c.register.ensures rows)
