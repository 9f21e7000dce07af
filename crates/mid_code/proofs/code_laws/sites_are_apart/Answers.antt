use Rattle.mid_code.proofs.OneSiteEach.{one_of_each}
use Rattle.mid_code.proofs.code_laws.sites_are_apart.Goals as goal

pub returns : goal.returns
returns c = one_of_each
