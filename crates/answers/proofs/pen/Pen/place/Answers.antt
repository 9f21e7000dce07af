use Rattle.answers.proofs.Wording.{main_place, binary_place}
use Rattle.answers.proofs.Writing.{then, spelled}
use Rattle.answers.proofs.pen.Pen.place.Goals as goal

pub returns-then-line-le-BINARY_LINES-clause-wrote : goal.returns-then-line-le-BINARY_LINES-clause-wrote
returns-then-line-le-BINARY_LINES-clause-wrote g c = spelled (main_place _ _ c.if-line-le-BINARY_LINES.true c.from.ensures) (then c.text.ensures.wrote c.number.ensures.wrote)

pub returns-else-line-le-BINARY_LINES-clause-wrote : goal.returns-else-line-le-BINARY_LINES-clause-wrote
returns-else-line-le-BINARY_LINES-clause-wrote g c = spelled (binary_place _ _ c.if-line-le-BINARY_LINES.false c.from-else-line-le-BINARY_LINES.ensures) (then c.text-else-line-le-BINARY_LINES.ensures.wrote c.number-else-line-le-BINARY_LINES.ensures.wrote)
