use Rattle.parsed_laws.proofs.UnitsHave.{derived_has}
use Rattle.parsed_laws.proofs.laws.parsed_units_have_items.Goals as goal

pub returns : goal.returns
returns c = λ shift tokens src unit h. derived_has shift tokens src unit h
