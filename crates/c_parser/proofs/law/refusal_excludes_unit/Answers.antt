use Rattle.c_parser.proofs.ParseLaws.{refuses_no_unit}
use Rattle.c_parser.proofs.law.refusal_excludes_unit.Goals as goal

pub returns : goal.returns
returns c = λ tokens src refusal u h none d. refuses_no_unit tokens src refusal u h none d
