use Rattle.answers.proofs.Writing.{then}
use Rattle.answers.proofs.pen.Pen.report.Goals as goal

pub returns-in-Mismatch-clause-wrote : goal.returns-in-Mismatch-clause-wrote
returns-in-Mismatch-clause-wrote g c = rw c.in-Mismatch.is (then c.text.ensures.wrote c.words.ensures.wrote)

pub returns-in-Echo-clause-wrote : goal.returns-in-Echo-clause-wrote
returns-in-Echo-clause-wrote g c = rw c.in-Echo.is (then c.text-in-Echo.ensures.wrote c.words-in-Echo.ensures.wrote)

pub returns-in-Parted-clause-wrote : goal.returns-in-Parted-clause-wrote
returns-in-Parted-clause-wrote g c = rw c.in-Parted.is (then (then (then c.text-in-Parted.ensures.wrote c.end.ensures.wrote) c.text-in-Parted-2.ensures.wrote) c.end-in-Parted.ensures.wrote)
