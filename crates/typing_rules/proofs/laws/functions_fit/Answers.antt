use Rattle.typing_rules.proofs.FunctionsFit.{functions_fit_of}
use Rattle.typing_rules.proofs.laws.functions_fit.Goals as goal

pub returns : goal.returns
returns c = λ main binary program h. functions_fit_of main binary program h
