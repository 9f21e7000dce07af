use Rattle.srmt_base.proofs.Conversions.{converts}
use Rattle.srmt_base.proofs.laws.conversions_are_those_of_c.Goals as goal

pub returns : goal.returns
returns c = converts
