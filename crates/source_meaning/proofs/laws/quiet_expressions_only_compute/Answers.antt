use Rattle.source_meaning.proofs.QuietLemmas.{quiet_value}
use Rattle.source_meaning.proofs.laws.quiet_expressions_only_compute.Goals as goal

pub returns : goal.returns
returns c = λ s e h. quiet_value s e h
