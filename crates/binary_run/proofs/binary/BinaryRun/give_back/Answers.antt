use Rattle.std.proofs.Common.{◌≡◌, sym, subst}
use Rattle.frames.specs.Kept.{TakesResult}
use Rattle.binary_run.specs.Binary.{BinaryState, Rests}
use Rattle.binary_run.specs.Fits.{FitsBinary}
use Rattle.binary_run.specs.View.{state_of_run}
use Rattle.binary_run.proofs.StatesFit.{fits_given}
use Rattle.binary_run.proofs.CodeSteps.{given_back}
use Rattle.binary_run.proofs.binary.BinaryRun.give_back.Goals as goal

pub returns-clause-fits : goal.returns-clause-fits
returns-clause-fits c program fits =
    let b = state_of_run c.self.inside in
    let here : FitsBinary program b = subst (FitsBinary program) (sym c.self.view_is) fits in
    let rests : b.next ≡ Rests = subst (λ (s : BinaryState). s.next ≡ Rests) (sym c.self.view_is) c.requires.rests in
    let called : TakesResult b.machine.top.into b.machine.below = subst (λ (s : BinaryState). TakesResult s.machine.top.into s.machine.below) (sym c.self.view_is) c.requires.called in
    let given = fits_given program b c.args.value here rests called c.requires.small in
    let is = given_back b c.args.value c.target-target.result c.pop.new.self c.take.new.self b.machine.below c.pop.ensures.machine c.target-target.ensures c.take.ensures in
    subst (FitsBinary program) is given
