use Rattle.typing_rules.proofs.UnitsExact.{one_typing_of}
use Rattle.typing_rules.proofs.laws.one_typing.Goals as goal

pub returns : goal.returns
returns c = λ main binary a b h k. one_typing_of main binary a b h k
