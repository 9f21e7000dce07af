use Rattle.std.proofs.Common.{ap, ◌++◌, List, ℕ}
use Rattle.std.specs.Prelude.{codes}
use Rattle.answers.specs.Texts.{place_text}
use Rattle.answers.proofs.Writing.{then, spelled}
use Rattle.answers.proofs.pen.Pen.trap.Goals as goal

pub returns-clause-wrote : goal.returns-clause-wrote
returns-clause-wrote g c = spelled (ap (λ (n : List ℕ). n ++ codes " at " ++ place_text c.args.line) c.trap_name.ensures) (then (then c.text.ensures.wrote c.text-2.ensures.wrote) c.place.ensures.wrote)
