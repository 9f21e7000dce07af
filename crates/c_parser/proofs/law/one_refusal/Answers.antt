use Rattle.c_parser.proofs.ParseLaws.{one_refusal_of}
use Rattle.c_parser.proofs.law.one_refusal.Goals as goal

pub returns : goal.returns
returns c = λ tokens src a b h k. one_refusal_of tokens src a b h k
