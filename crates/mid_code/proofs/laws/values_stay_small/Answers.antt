use Rattle.mid_code.specs.Meaning.{started}
use Rattle.mid_code.proofs.StatesFit.{fits_after}
use Rattle.mid_code.proofs.ValuesSmall.{small_by_fit}
use Rattle.mid_code.proofs.StartFits.{fits_started}
use Rattle.mid_code.proofs.laws.values_stay_small.Goals as goal

pub returns : goal.returns
returns c = λ program input limits can steps s events e.
    small_by_fit program s (fits_after program can.valid steps (started program input limits) s events (fits_started program input limits can.valid can.fit can.bytes) e)
