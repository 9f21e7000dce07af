use Rattle.std.specs.Prelude.{option_map}
use Rattle.srmt_outside.specs.Count.{Rose}
use Rattle.srmtrun.specs.Answer.{answer_from}
use Rattle.srmtrun.specs.Reading.{command_of}
use Rattle.srmtrun.specs.Reads.{files_of}
use Rattle.srmtrun.proofs.Meaning.{sources_serve, sources_ask}
use Rattle.srmtrun.proofs.reference.reference.Goals as goal

pub returns-clause-serves : goal.returns-clause-serves
returns-clause-serves g c =
    let answers = rw c.limits_with.ensures at c.run_sources.ensures.answers in
    sources_serve (g.F.Files.contents c.args.files.now) (command_of c.args.command) (g.O.Outlet.events c.args.outlet.now) (g.O.Outlet.events c.run_sources.new.outlet)
    (Rose (g.F.Files.faults c.args.files.now) (g.F.Files.faults c.load_sources.new.files)) (Rose (g.O.Outlet.faults c.args.outlet.now) (g.O.Outlet.faults c.run_sources.new.outlet)) c.requires.mode
    c.in_ok-sources.sources.main.items (option_map (λ bytes. bytes.items) c.in_ok-sources.sources.binary) c.in_ok-sources.sources.input.items
    c.in_ok-sources.ensures.ok c.in_ok-sources.ensures.input (answer_from c.run_sources.result) answers

pub returns-clause-asks : goal.returns-clause-asks
returns-clause-asks g c =
    sources_ask (g.F.Files.contents c.args.files.now) (g.F.Files.asked c.args.files.now) (g.F.Files.asked c.load_sources.new.files) (files_of (command_of c.args.command)) c.in_ok-sources.ensures.asks
    c.in_ok-sources.sources.main.items (option_map (λ bytes. bytes.items) c.in_ok-sources.sources.binary) c.in_ok-sources.sources.input.items
    c.limits_with.result (g.O.Outlet.events c.args.outlet.now) (g.O.Outlet.events c.run_sources.new.outlet) (Rose (g.O.Outlet.faults c.args.outlet.now) (g.O.Outlet.faults c.run_sources.new.outlet))
    (answer_from c.run_sources.result) c.run_sources.ensures.answers
