use Rattle.std.proofs.Common.{arith}
use Rattle.mid_code.proofs.code_laws.wrappers_have_sites.Goals as goal

pub returns : goal.returns
returns c = λ p full more sites. omega (arith, full, more, sites.limit)
