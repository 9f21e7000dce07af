use Rattle.mid_code.proofs.AllShared.{everything_closed}
use Rattle.mid_code.proofs.code_laws.everything_can_be_shared.Goals as goal

pub returns : goal.returns
returns c = everything_closed
