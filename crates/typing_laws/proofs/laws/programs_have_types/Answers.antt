use Rattle.typing_laws.proofs.UnitsSound.{programs_have}
use Rattle.typing_laws.proofs.laws.programs_have_types.Goals as goal

pub returns : goal.returns
returns c = λ main binary program items h. programs_have main binary program items h
