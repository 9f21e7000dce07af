use Rattle.std.proofs.Common.{◌≡◌, drop}
use Rattle.mid_code.specs.Rules.{are_of_kinds}
use Rattle.mid_code.proofs.rules.are_of_kinds.Given as goal

-- what is left decides
abbrev pub invariant-loop-index : goal.invariant-loop-index
invariant-loop-index l = are_of_kinds l.kinds (drop l.index l.args) (drop l.index l.params) ≡ are_of_kinds l.kinds l.args l.params
