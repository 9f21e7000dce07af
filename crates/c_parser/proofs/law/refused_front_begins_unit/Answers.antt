use Rattle.c_parser.proofs.ParseLaws.{refused_begins}
use Rattle.c_parser.proofs.law.refused_front_begins_unit.Goals as goal

pub returns : goal.returns
returns c = λ tokens src refusal h. refused_begins tokens src refusal h
