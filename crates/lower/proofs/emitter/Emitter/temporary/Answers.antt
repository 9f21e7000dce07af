use Rattle.lower.proofs.Emitted.{no-code}
use Rattle.lower.proofs.emitter.Emitter.temporary.Goals as goal

pub returns : goal.returns
returns c = λ rows. no-code (c.temporary.ensures rows)
