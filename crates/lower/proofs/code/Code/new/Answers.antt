use Rattle.std.proofs.Common.{rules}
use Rattle.lower.specs.Drafts.{code_of}
use Rattle.lower.proofs.code.Code.new.Goals as goal

pub returns : goal.returns
unfolding code_of
returns c = λ leads. search rules
