use Rattle.std.proofs.Common.{◌≡◌, drop}
use Rattle.mid_code.specs.Fields.{present}
use Rattle.mid_code.specs.Rules.{lesser, fields_rule}
use Rattle.mid_code.proofs.rules.fields_rule.Given as goal

-- the least so far, and of what is left, is the least of all
abbrev pub invariant-loop-item : goal.invariant-loop-item
invariant-loop-item l = lesser l.least (fields_rule l.program l.function l.place (present (drop l.item-index l.row))) ≡ fields_rule l.program l.function l.place (present l.row)
