use Rattle.srmtrun.specs.Words.{texts}
use Rattle.srmtrun.specs.Reading.{said_of}
use Rattle.srmtrun.proofs.Spelling.{is_command, if_none_then}
use Rattle.srmtrun.proofs.words.read_command.Goals as goal

pub returns-in-Some-clause-none : goal.returns-in-Some-clause-none
returns-in-Some-clause-none c = if_none_then c.command.result
    (λ none command taken. none command (is_command (texts c.args.words.now) (said_of c.in-Some.said) c.in-Some.ensures.some command taken)) c.command.ensures.none
