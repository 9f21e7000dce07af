use Rattle.mid_code.proofs.KeepingDecided.{decides_keeping}
use Rattle.mid_code.proofs.laws.keeping_is_decided.Goals as goal

pub returns : goal.returns
returns c = decides_keeping
