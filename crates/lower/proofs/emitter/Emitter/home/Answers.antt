use Rattle.lower.proofs.Emitted.{home-known}
use Rattle.lower.proofs.emitter.Emitter.home.Goals as goal

pub returns : goal.returns
returns c = λ rows. home-known c.home.ensures
