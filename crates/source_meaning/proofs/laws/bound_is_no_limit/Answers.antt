use Rattle.source_meaning.proofs.BoundCalls.{bound_is_no_limit_of}
use Rattle.source_meaning.proofs.laws.bound_is_no_limit.Goals as goal

pub returns : goal.returns
returns c = λ program n m line number arguments w h k. bound_is_no_limit_of program n m line number arguments w h k
