use Rattle.c_parser.proofs.LevelOperators.{operators_are}
use Rattle.c_parser.proofs.law.operators_of_levels.Goals as goal

pub returns : goal.returns
returns c = λ tokens. operators_are tokens
