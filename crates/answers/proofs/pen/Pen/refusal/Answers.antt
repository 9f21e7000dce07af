use Rattle.std.proofs.Common.{codes}
use Rattle.answers.specs.Refusals.{fault_text}
use Rattle.answers.proofs.Writing.{then, spelled}
use Rattle.answers.proofs.pen.Pen.refusal.Goals as goal

pub returns-in-Lex-clause-wrote : goal.returns-in-Lex-clause-wrote
returns-in-Lex-clause-wrote g c =
    rw c.in-Lex.is (spelled (λ i. fault_text (codes "lex ") c.in-Lex.file (c.lex_fault-place.ensures.name i) (c.lex_fault-place.ensures.place i)) c.fault.ensures.wrote)

pub returns-in-Parse-clause-wrote : goal.returns-in-Parse-clause-wrote
returns-in-Parse-clause-wrote g c =
    rw c.in-Parse.is (spelled (λ i. fault_text (codes "parse ") c.in-Parse.file (c.parse_fault-place.ensures.name i) (c.parse_fault-place.ensures.place i)) c.fault-in-Parse.ensures.wrote)

pub returns-in-Typing-clause-wrote : goal.returns-in-Typing-clause-wrote
returns-in-Typing-clause-wrote g c = rw c.in-Typing.is (then c.text-in-Typing.ensures.wrote c.typing.ensures.wrote)
