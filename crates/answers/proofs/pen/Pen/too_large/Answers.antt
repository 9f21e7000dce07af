use Rattle.std.proofs.Common.{◌++◌, codes, ap, List, ℕ}
use Rattle.answers.specs.Texts.{place_text}
use Rattle.answers.proofs.Writing.{then, spelled}
use Rattle.answers.proofs.pen.Pen.too_large.Goals as goal

pub returns-clause-wrote : goal.returns-clause-wrote
returns-clause-wrote g c =
    spelled (ap (λ (n : List ℕ). codes "TooLarge " ++ n ++ codes " at " ++ place_text c.args.line) c.size_name.ensures)
    (then (then (then c.text.ensures.wrote c.text-2.ensures.wrote) c.text-3.ensures.wrote) c.place.ensures.wrote)
