use Rattle.typing_rules.proofs.UnitsExact.{typing_is_exact_of}
use Rattle.typing_rules.proofs.laws.typing_is_exact.Goals as goal

pub returns : goal.returns
returns c = λ main binary program. typing_is_exact_of main binary program
