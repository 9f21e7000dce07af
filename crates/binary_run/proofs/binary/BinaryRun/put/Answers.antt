use Rattle.std.proofs.Common.{sym, subst}
use Rattle.binary_run.specs.Fits.{FitsBinary}
use Rattle.binary_run.specs.View.{state_of_run}
use Rattle.binary_run.proofs.StatesFit.{fits_tried}
use Rattle.binary_run.proofs.binary.BinaryRun.put.Goals as goal

pub returns-clause-fits : goal.returns-clause-fits
returns-clause-fits c program fits =
    let here = subst (FitsBinary program) (sym c.self.view_is) fits in
    fits_tried program (state_of_run c.self.inside) c.put.new.self c.args.pointer c.args.value c.put.result here c.requires c.put.ensures.ok c.put.ensures.err
