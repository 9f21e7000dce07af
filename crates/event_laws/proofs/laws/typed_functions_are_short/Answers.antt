use Rattle.event_laws.proofs.FilesFew.{functions_are_short}
use Rattle.event_laws.proofs.laws.typed_functions_are_short.Goals as goal

pub returns : goal.returns
returns c = λ bound main binary program short h. functions_are_short bound main binary program short h
