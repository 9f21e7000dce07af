use Rattle.typing_rules.proofs.TermsExact.{exact_type_named}
use Rattle.typing_rules.proofs.TermsSound.{type_named_is}
use Rattle.typing_rules.proofs.laws.named_types_are_of_language.Goals as goal

pub returns : goal.returns
returns c = λ t type before after knows h. type_named_is t type before after knows ((exact_type_named t).found type before after h)
