use Rattle.std.proofs.Common.{◌≡◌, ℕ, suc, ◌<◌, None}
use Rattle.mid_code.specs.Rules.{rule_broken}
use Rattle.mid_code.proofs.validity.first_in_functions.Given as goal

-- the functions before this one break no rule
abbrev pub invariant-loop-index : goal.invariant-loop-index
invariant-loop-index l = (before place : ℕ) → before < l.index → rule_broken l.program (suc before) place ≡ None
