use Rattle.typing_rules.proofs.TermsExact.{exact_term}
use Rattle.typing_rules.proofs.TermsSound.{term_keeps}
use Rattle.typing_rules.proofs.laws.expressions_keep_types.Goals as goal

pub returns : goal.returns
returns c = λ e term before after knows h. term_keeps e term before after knows ((exact_term e).found term before after h)
