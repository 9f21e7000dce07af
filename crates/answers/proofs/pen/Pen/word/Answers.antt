use Rattle.std.proofs.Common.{◌∙◌}
use Rattle.answers.proofs.Wording.{word_from}
use Rattle.answers.proofs.Writing.{then, spelled}
use Rattle.answers.proofs.pen.Pen.word.Goals as goal

pub returns-clause-wrote : goal.returns-clause-wrote
returns-clause-wrote g c = spelled (word_from _ _ _ c.kind.result _ c.kind_name.ensures c.kind.ensures (c.from.ensures ∙ c.site.ensures) c.value.ensures.exact) (then (then (then (then c.text.ensures.wrote c.text-2.ensures.wrote) c.number.ensures.wrote) c.text-3.ensures.wrote) c.number-2.ensures.wrote)
