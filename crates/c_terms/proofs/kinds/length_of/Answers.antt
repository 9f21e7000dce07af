use Rattle.c_known.specs.Gives.{IsSame}
use Rattle.c_known.proofs.Binding.{answers-give}
use Rattle.typing_rules.specs.Checking.{ruled_by}
use Rattle.typing_rules.specs.DeclaratorRules as rule
use Rattle.c_terms.proofs.kinds.length_of.Goals as goal

pub returns : goal.returns
returns c w mw = answers-give IsSame c.args.known.now c.length_of.result (ruled_by c.args.at.lengths (rule.length_of w.value)) (c.length_of.ensures w mw)
