use Rattle.parsed_laws.proofs.UnitNumbers.{bytes_run}
use Rattle.parsed_laws.proofs.ValuesGiven.{start_holds, expressions_give, calls_give}
use Rattle.parsed_laws.proofs.laws.parsed_programs_give_values.Goals as goal

pub returns-clause-start : goal.returns-clause-start
returns-clause-start c = λ main binary program bytes others h. start_holds program (bytes_run main binary program bytes others h)

pub returns-clause-expressions : goal.returns-clause-expressions
returns-clause-expressions c = λ main binary program bytes others h. expressions_give program (bytes_run main binary program bytes others h)

pub returns-clause-calls : goal.returns-clause-calls
returns-clause-calls c = λ main binary program bytes others h. calls_give program (bytes_run main binary program bytes others h)
