use Rattle.typing_rules.proofs.UnitsExact.{refused_has_no_typing as none_of}
use Rattle.typing_rules.proofs.laws.refused_has_no_typing.Goals as goal

pub returns : goal.returns
returns c = λ main binary refusal program e h. none_of main binary refusal program e h
