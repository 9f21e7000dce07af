use Rattle.lower.proofs.Emitted.{settled}
use Rattle.lower.proofs.emitter.Emitter.settle.Goals as goal

pub returns : goal.returns
returns c = λ rows. settled c.settle.ensures.homes c.settle.ensures.kinds c.settle.ensures.temporaries c.settle.ensures.types
