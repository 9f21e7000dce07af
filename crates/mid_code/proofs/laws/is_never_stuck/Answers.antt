use Rattle.mid_code.specs.Meaning.{started}
use Rattle.mid_code.proofs.StatesFit.{never_stuck_from}
use Rattle.mid_code.proofs.StartFits.{fits_started}
use Rattle.mid_code.proofs.laws.is_never_stuck.Goals as goal

pub returns : goal.returns
returns c = λ program input limits can steps.
    never_stuck_from program can.valid steps (started program input limits) (fits_started program input limits can.valid can.fit can.bytes)
