use Rattle.parsed_laws.proofs.UnitNumbers.{bytes_run}
use Rattle.parsed_laws.proofs.laws.parsed_programs_can_run.Goals as goal

pub returns : goal.returns
returns c = λ main binary program bytes others h. bytes_run main binary program bytes others h
