use Rattle.srmtrun.proofs.Spelling.{no_number, other_number}
use Rattle.srmtrun.proofs.words.number_of.Goals as goal

pub returns-in-Ok-clause-none : goal.returns-in-Ok-clause-none
returns-in-Ok-clause-none c = rw c.then_some.ensures (other_number c.args.word.now c.parse.result c.in-Ok.number c.is_decimal.result c.in-Ok.is c.parse.ensures.value.0 c.is_decimal.ensures)

pub returns-in-Err-clause-none : goal.returns-in-Err-clause-none
returns-in-Err-clause-none c = no_number c.args.word.now c.parse.result _ c.in-Err.is c.parse.ensures.value.0
