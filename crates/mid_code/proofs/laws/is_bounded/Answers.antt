use Rattle.mid_code.proofs.RunsEnd.{short}
use Rattle.mid_code.proofs.laws.is_bounded.Goals as goal

pub returns : goal.returns
returns c = short
