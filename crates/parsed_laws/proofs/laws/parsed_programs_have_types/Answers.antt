use Rattle.parsed_laws.proofs.UnitsHave.{bytes_have}
use Rattle.parsed_laws.proofs.laws.parsed_programs_have_types.Goals as goal

pub returns : goal.returns
returns c = λ main binary program h. bytes_have main binary program h
