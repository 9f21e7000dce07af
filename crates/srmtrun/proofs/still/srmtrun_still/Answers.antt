use Rattle.srmtrun.proofs.Clauses.{told_answers, typed_answers, untyped_answers, meant_answers}
use Rattle.srmtrun.proofs.still.srmtrun_still.Goals as goal

pub returns-clause-told : goal.returns-clause-told
returns-clause-told g c = rw c.finish.ensures.answer (λ command bytes form taken runs e within is.
    told_answers _ (g.F.Files.contents c.args.files.now) _ _ _ _ _ _ _ c.answer-answer.ensures.usage.0 c.answer-answer.ensures.help.0 c.answer-answer.ensures.version.0 c.answer-answer.ensures.serves command taken runs bytes form e within is)

pub returns-clause-meant : goal.returns-clause-meant
returns-clause-meant g c = rw c.finish.ensures.answer (λ command main input binary program taken how told given has.
    meant_answers _ (g.F.Files.contents c.args.files.now) _ _ _ _ _ _ _ c.answer-answer.ensures.usage.0 c.answer-answer.ensures.help.0 c.answer-answer.ensures.version.0 c.answer-answer.ensures.serves command taken main binary told input program how given has)

pub returns-clause-typed : goal.returns-clause-typed
returns-clause-typed g c = rw c.finish.ensures.answer (λ command main binary program taken how told has.
    typed_answers _ (g.F.Files.contents c.args.files.now) _ _ _ _ _ _ _ c.answer-answer.ensures.usage.0 c.answer-answer.ensures.help.0 c.answer-answer.ensures.version.0 c.answer-answer.ensures.serves command taken main binary told program how has)

pub returns-clause-untyped : goal.returns-clause-untyped
returns-clause-untyped g c = rw c.finish.ensures.answer (λ command main binary cause taken every told refuses.
    untyped_answers _ (g.F.Files.contents c.args.files.now) _ _ _ _ _ _ _ c.answer-answer.ensures.usage.0 c.answer-answer.ensures.help.0 c.answer-answer.ensures.version.0 c.answer-answer.ensures.serves command taken main binary told cause every refuses)

pub returns-clause-asks : goal.returns-clause-asks
returns-clause-asks g c = rw c.finish.ensures.answer (λ named.
    let n = c.answer-answer.ensures.serves named in
    record { command = n.command; taken = n.taken; holds = n.holds.1 })
