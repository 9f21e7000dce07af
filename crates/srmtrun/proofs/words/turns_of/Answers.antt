use Rattle.std.proofs.Common.{arith}
use Rattle.srmtrun.proofs.Spelling.{other_turns}
use Rattle.srmtrun.proofs.words.turns_of.Goals as goal

pub returns-in-Some-clause-none : goal.returns-in-Some-clause-none
returns-in-Some-clause-none c = rw c.then_some.ensures (other_turns c.args.word.now c.in-Some.number c.is_turns.result c.in-Some.ensures.some (omega arith) c.is_turns.ensures)
