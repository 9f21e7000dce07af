use Rattle.std.proofs.Common.{length, arith}
use Rattle.parsed_laws.proofs.UnitTokens.{derived_short}
use Rattle.parsed_laws.proofs.laws.parsed_units_are_short.Goals as goal

pub returns : goal.returns
returns c = λ shift tokens src unit lexed h. derived_short shift tokens src unit lexed h (length src) (omega arith)
