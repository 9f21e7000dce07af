use Rattle.source_meaning.proofs.EventStatements.{few_events}
use Rattle.source_meaning.proofs.laws.events_are_few.Goals as goal

pub returns : goal.returns
returns c = λ program input limits short fit. few_events program input limits short fit
