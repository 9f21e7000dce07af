use Rattle.c_parser.proofs.UnitLaws.{one_unit_of}
use Rattle.c_parser.proofs.law.one_unit.Goals as goal

pub returns : goal.returns
returns c = λ tokens src a b h k. one_unit_of src tokens a b h k
