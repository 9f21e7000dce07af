use Rattle.std.proofs.Common.{ap, codes, ◌++◌}
use Rattle.std.specs.Prelude.{decimal}
use Rattle.answers.proofs.Writing.{then, spelled}
use Rattle.answers.proofs.pen.Pen.end.Goals as goal

pub returns-in-Exit-clause-wrote : goal.returns-in-Exit-clause-wrote
returns-in-Exit-clause-wrote g c = rw c.in-Exit.is (spelled (ap (λ n. codes "exit " ++ decimal n) c.from.ensures) (then c.text.ensures.wrote c.number.ensures.wrote))

pub returns-in-Trap-clause-wrote : goal.returns-in-Trap-clause-wrote
returns-in-Trap-clause-wrote g c = rw c.in-Trap.is (then c.text-in-Trap.ensures.wrote c.trap.ensures.wrote)

pub returns-in-Mismatch-clause-wrote : goal.returns-in-Mismatch-clause-wrote
returns-in-Mismatch-clause-wrote g c = rw c.in-Mismatch.is (then c.text-in-Mismatch.ensures.wrote c.words.ensures.wrote)

pub returns-in-Echo-clause-wrote : goal.returns-in-Echo-clause-wrote
returns-in-Echo-clause-wrote g c = rw c.in-Echo.is (then c.text-in-Echo.ensures.wrote c.words-in-Echo.ensures.wrote)
