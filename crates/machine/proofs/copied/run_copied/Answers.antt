use Rattle.std.proofs.Common.{sym, subst}
use Rattle.machine.specs.Side.{SideState}
use Rattle.machine.specs.Fits.{SideFits}
use Rattle.machine.specs.Quiet.{QuietSteps}
use Rattle.machine.specs.View.{side_of}
use Rattle.machine.proofs.Copying.{with_machine, can_copy_all, quiet_steps, none_quiet}
use Rattle.machine.proofs.copied.run_copied.Goals as goal

pub run_copied-requires : goal.run_copied-requires
run_copied-requires c =
    let s = side_of c.m.inside in
    record { can = can_copy_all c.args.side c.args.pair.now c.classed-pair.ensures.sites s (subst (SideFits c.args.side c.args.pair.now) (sym c.m.view_is) c.requires.fits) }

pub returns-clause-steps : goal.returns-clause-steps
returns-clause-steps c =
    let s = side_of c.m.inside in
    let fits = subst (SideFits c.args.side c.args.pair.now) (sym c.m.view_is) c.requires.fits in
    let after = c.run_copied.new.self.machine in
    let ran = quiet_steps c.args.side c.args.pair.now c.classed-pair.ensures.sites c.run_copied.result s after fits c.run_copied.ensures.copies in
    subst (λ (x : SideState). QuietSteps c.args.side c.args.pair.now c.run_copied.result x (with_machine s after)) c.m.view_is ran.0

pub returns-clause-fits : goal.returns-clause-fits
returns-clause-fits c =
    let s = side_of c.m.inside in
    let fits = subst (SideFits c.args.side c.args.pair.now) (sym c.m.view_is) c.requires.fits in
    (quiet_steps c.args.side c.args.pair.now c.classed-pair.ensures.sites c.run_copied.result s c.run_copied.new.self.machine fits c.run_copied.ensures.copies).1

pub returns-clause-whole : goal.returns-clause-whole
returns-clause-whole c few =
    let s = side_of c.m.inside in
    let fits = subst (SideFits c.args.side c.args.pair.now) (sym c.m.view_is) c.requires.fits in
    let after = c.run_copied.new.self.machine in
    let ran = quiet_steps c.args.side c.args.pair.now c.classed-pair.ensures.sites c.run_copied.result s after fits c.run_copied.ensures.copies in
    none_quiet c.args.side c.args.pair.now c.classed-pair.ensures.sites (with_machine s after) ran.1 (c.run_copied.ensures.whole few)
