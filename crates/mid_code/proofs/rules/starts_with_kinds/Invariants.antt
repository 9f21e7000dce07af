use Rattle.std.proofs.Common.{◌≡◌, drop}
use Rattle.mid_code.specs.Rules.{starts_with_kinds}
use Rattle.mid_code.proofs.rules.starts_with_kinds.Given as goal

-- what is left decides
abbrev pub invariant-loop-index : goal.invariant-loop-index
invariant-loop-index l = starts_with_kinds (drop l.index l.kinds) (drop l.index l.params) ≡ starts_with_kinds l.kinds l.params
