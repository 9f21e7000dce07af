use Rattle.mid_code.specs.Meaning.{started}
use Rattle.mid_code.proofs.OneMeaning.{one_end}
use Rattle.mid_code.proofs.laws.is_determined.Goals as goal

pub returns : goal.returns
returns c = λ program input limits es fs e f a b. one_end program (started program input limits) es fs e f a b
