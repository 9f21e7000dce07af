use Rattle.std.proofs.Common.{◌≡◌, drop}
use Rattle.typing_rules.specs.Known as known
use Rattle.typing_rules.specs.UnitRules.{main_from}
use Rattle.c_known.specs.Views.{Knows}
use Rattle.c_program.proofs.entry.main_entity.Given as goal

-- the program begins with none of the entities so far
abbrev pub invariant-loop-number : goal.invariant-loop-number
invariant-loop-number l = (k : known.Known) → Knows l.known k → main_from 0 k.entities ≡ main_from l.number (drop l.number k.entities)
