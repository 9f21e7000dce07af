use Rattle.std.proofs.Common.{rules}
use Rattle.lower.proofs.loops.given.Goals as goal

pub returns-in-None : goal.returns-in-None
returns-in-None c = search rules
