use Rattle.std.proofs.Common.{◌≡◌, map, drop}
use Rattle.typing_rules.specs.Known as known
use Rattle.typing_rules.specs.UnitRules.{unresolved}
use Rattle.c_known.specs.Views.{Knows, use_view}
use Rattle.c_program.proofs.uses.resolve_each.Given as goal

-- the uses so far are of entities that are defined
abbrev pub invariant-loop-u : goal.invariant-loop-u
invariant-loop-u l =
    (k : known.Known) → Knows l.known k → unresolved k.entities (map use_view l.uses) ≡ unresolved k.entities (map use_view (drop l.u-index l.uses))
