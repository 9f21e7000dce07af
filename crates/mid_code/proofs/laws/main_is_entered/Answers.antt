use Rattle.mid_code.proofs.StartFits.{enters_main}
use Rattle.mid_code.proofs.laws.main_is_entered.Goals as goal

pub returns : goal.returns
returns c = enters_main
