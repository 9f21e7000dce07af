use Rattle.std.proofs.Common.{◌++◌, codes, ap}
use Rattle.std.specs.Prelude.{decimal}
use Rattle.answers.specs.Texts.{place_text}
use Rattle.answers.proofs.Writing.{then, spelled}
use Rattle.answers.proofs.pen.Pen.broken.Goals as goal

pub returns-clause-wrote : goal.returns-clause-wrote
returns-clause-wrote g c =
    spelled (ap (λ n. codes "Mismatch " ++ decimal n ++ codes " at " ++ place_text c.args.line) c.from.ensures)
    (then (then (then c.text.ensures.wrote c.number.ensures.wrote) c.text-2.ensures.wrote) c.place.ensures.wrote)
