use Rattle.std.proofs.Common.{◌++◌, codes, List, ℕ}
use Rattle.std.specs.Prelude.{decimal}
use Rattle.answers.proofs.Writing.{then, spelled}
use Rattle.answers.proofs.pen.Pen.fault.Goals as goal

pub returns-clause-wrote : goal.returns-clause-wrote
returns-clause-wrote g c =
    spelled (λ i. c.args.layer.now ++ c.file_name.ensures i ++ codes " " ++ c.args.name.now ++ codes " at " ++ decimal (c.from.ensures i))
    (then (then (then (then (then c.text.ensures.wrote c.text-2.ensures.wrote) c.text-3.ensures.wrote) c.text-4.ensures.wrote) c.text-5.ensures.wrote) c.number.ensures.wrote)
