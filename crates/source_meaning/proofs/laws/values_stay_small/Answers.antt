use Rattle.source_meaning.proofs.ValueExpressions.{value_makes}
use Rattle.source_meaning.proofs.ValueStatements.{calls_make}
use Rattle.source_meaning.proofs.ValueStart.{starts_with_values}
use Rattle.source_meaning.proofs.laws.values_stay_small.Goals as goal

pub returns-clause-start : goal.returns-clause-start
returns-clause-start c = λ program input limits h k small. starts_with_values program input limits h k small

pub returns-clause-expressions : goal.returns-clause-expressions
returns-clause-expressions c = λ s e names calls h. value_makes s names calls e h

pub returns-clause-calls : goal.returns-clause-calls
returns-clause-calls c = λ program fit most line number arguments small. calls_make program fit most line number arguments small
