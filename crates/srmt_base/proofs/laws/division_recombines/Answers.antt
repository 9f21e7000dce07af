use Rattle.srmt_base.proofs.Division.{recombines}
use Rattle.srmt_base.proofs.laws.division_recombines.Goals as goal

pub returns : goal.returns
returns c = recombines
