use Rattle.std.proofs.Common.{sym, ◌∙◌, arith}
use Rattle.mid_code.proofs.KindLemmas.{starts_ended}
use Rattle.mid_code.proofs.rules.starts_with_kinds.Goals as goal

pub returns : goal.returns
returns c = sym (starts_ended c.args.kinds.now c.args.params.now c.loop-index.index (λ inside within. omega arith)) ∙ c.loop-index.invariant
