use Rattle.source_meaning.proofs.EventStatements.{few_events}
use Rattle.parsed_laws.proofs.FewEvents.{short_functions}
use Rattle.parsed_laws.proofs.laws.parsed_programs_have_few_events.Goals as goal

pub returns-clause-short : goal.returns-clause-short
returns-clause-short c = λ main binary program fits others h. short_functions main binary program fits others h

pub returns-clause-few : goal.returns-clause-few
returns-clause-few c = λ main binary program fits others h input limits turns.
    few_events program input limits (short_functions main binary program fits others h) turns
