use Rattle.c_parser.proofs.ParseLaws.{answers_found, answers_refused}
use Rattle.c_parser.proofs.parser.parse.Goals as goal

pub returns-clause-found : goal.returns-clause-found
returns-clause-found c = λ unit k. answers_found c.args.tokens.now c.args.src.now c.answer.result c.answer.ensures unit k

pub returns-clause-refused : goal.returns-clause-refused
returns-clause-refused c = λ refusal k. answers_refused c.args.tokens.now c.args.src.now c.answer.result c.answer.ensures refusal k
