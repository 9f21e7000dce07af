use Rattle.std.proofs.Common.{refl, subst}
use Rattle.srmt_outside.specs.Count.{Rose}
use Rattle.srmtrun.specs.declared.words.Mode.TheVariants.{Single, Alternate}
use Rattle.srmtrun.specs.Words.{Command}
use Rattle.srmtrun.specs.Reading.{command_of}
use Rattle.srmtrun.specs.Reads.{files_of}
use Rattle.srmtrun.specs.Still.{AsksFor}
use Rattle.srmtrun.specs.Parts.{Serves}
use Rattle.srmtrun.proofs.Asking.{run_alone}
use Rattle.srmtrun.proofs.still.serve.Goals as goal

pub returns-in-Single-clause-serves : goal.returns-in-Single-clause-serves
returns-in-Single-clause-serves g c =
    subst (λ (k : Command). Serves k (g.F.Files.contents c.args.files.now) (g.O.Outlet.events c.args.outlet.now) (g.O.Outlet.events c.serve_single.new.outlet) (Rose (g.F.Files.faults c.args.files.now) (g.F.Files.faults c.serve_single.new.files)) (Rose (g.O.Outlet.faults c.args.outlet.now) (g.O.Outlet.faults c.serve_single.new.outlet)) c.serve_single.result) (run_alone (command_of c.args.command) Single c.in-Single.is refl c.requires.options) c.serve_single.ensures.serves

pub returns-in-Single-clause-asks : goal.returns-in-Single-clause-asks
returns-in-Single-clause-asks g c =
    subst (λ (k : Command). AsksFor (g.F.Files.contents c.args.files.now) (g.F.Files.asked c.args.files.now) (g.F.Files.asked c.serve_single.new.files) (files_of k) c.serve_single.result) (run_alone (command_of c.args.command) Single c.in-Single.is refl c.requires.options) c.serve_single.ensures.asks

pub returns-in-Alternate-clause-serves : goal.returns-in-Alternate-clause-serves
returns-in-Alternate-clause-serves g c =
    subst (λ (k : Command). Serves k (g.F.Files.contents c.args.files.now) (g.O.Outlet.events c.args.outlet.now) (g.O.Outlet.events c.serve_both.new.outlet) (Rose (g.F.Files.faults c.args.files.now) (g.F.Files.faults c.serve_both.new.files)) (Rose (g.O.Outlet.faults c.args.outlet.now) (g.O.Outlet.faults c.serve_both.new.outlet)) c.serve_both.result) (run_alone (command_of c.args.command) Alternate c.in-Alternate.is refl c.requires.options) c.serve_both.ensures.serves

pub returns-in-Alternate-clause-asks : goal.returns-in-Alternate-clause-asks
returns-in-Alternate-clause-asks g c =
    subst (λ (k : Command). AsksFor (g.F.Files.contents c.args.files.now) (g.F.Files.asked c.args.files.now) (g.F.Files.asked c.serve_both.new.files) (files_of k) c.serve_both.result) (run_alone (command_of c.args.command) Alternate c.in-Alternate.is refl c.requires.options) c.serve_both.ensures.asks

pub returns-in-Check-clause-serves : goal.returns-in-Check-clause-serves
returns-in-Check-clause-serves g c = c.serve_check.ensures.serves (g.O.Outlet.events c.args.outlet.now) (g.O.Outlet.faults c.args.outlet.now) (g.O.Outlet.faults c.args.outlet.now)
