use Rattle.parsed_laws.proofs.UnitNumbers.{derived_fits}
use Rattle.parsed_laws.proofs.laws.parsed_units_have_numbers.Goals as goal

pub returns : goal.returns
returns c = λ shift tokens src unit bytes lexed h. derived_fits shift tokens src unit bytes lexed h
