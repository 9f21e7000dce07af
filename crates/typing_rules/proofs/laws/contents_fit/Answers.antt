use Rattle.typing_rules.proofs.ContentsFit.{contents_fit_of}
use Rattle.typing_rules.proofs.laws.contents_fit.Goals as goal

pub returns : goal.returns
returns c = λ main binary program h. contents_fit_of main binary program h
