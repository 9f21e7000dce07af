use Rattle.srmtrun.specs.declared.words.Question.TheVariants.{Help, Version}
use Rattle.srmt_outside.specs.Count.{Rose}
use Rattle.srmtrun.specs.Reading.{command_of}
use Rattle.srmtrun.proofs.Serving.{serves_no_help, serves_no_version}
use Rattle.srmtrun.proofs.Spelling.{turns_within}
use Rattle.srmtrun.proofs.still.answer.Goals as goal

pub returns-in-None-read_command-clause-help : goal.returns-in-None-read_command-clause-help
returns-in-None-read_command-clause-help g c = (λ e. absurd (cc), λ asked. absurd (c.in-None.ensures.none Help asked))

pub returns-in-None-read_command-clause-version : goal.returns-in-None-read_command-clause-version
returns-in-None-read_command-clause-version g c = (λ e. absurd (cc), λ asked. absurd (c.in-None.ensures.none Version asked))

pub returns-in-Some-clause-help : goal.returns-in-Some-clause-help
returns-in-Some-clause-help g c = (
  λ e. absurd (serves_no_help (command_of c.in-Some.command) (g.F.Files.contents c.args.files.now) (g.O.Outlet.events c.args.outlet.now) (g.O.Outlet.events c.serve.new.outlet)
      (Rose (g.F.Files.faults c.args.files.now) (g.F.Files.faults c.serve.new.files)) (Rose (g.O.Outlet.faults c.args.outlet.now) (g.O.Outlet.faults c.serve.new.outlet)) c.serve.result c.serve.ensures.serves e),
  λ asked. absurd (c.in-None.ensures.none Help asked),
)

pub returns-in-Some-clause-version : goal.returns-in-Some-clause-version
returns-in-Some-clause-version g c = (
  λ e. absurd (serves_no_version (command_of c.in-Some.command) (g.F.Files.contents c.args.files.now) (g.O.Outlet.events c.args.outlet.now) (g.O.Outlet.events c.serve.new.outlet)
      (Rose (g.F.Files.faults c.args.files.now) (g.F.Files.faults c.serve.new.files)) (Rose (g.O.Outlet.faults c.args.outlet.now) (g.O.Outlet.faults c.serve.new.outlet)) c.serve.result c.serve.ensures.serves e),
  λ asked. absurd (c.in-None.ensures.none Version asked),
)

pub serve-requires-clause-turns : goal.serve-requires-clause-turns
serve-requires-clause-turns g c = turns_within _ (command_of c.in-Some.command) c.in-Some.ensures.some
