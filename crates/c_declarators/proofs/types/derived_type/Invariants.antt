use Rattle.std.proofs.Common.{◌-◌, length, drop, List, false, Ok}
use Rattle.c_types.specs.Types.{Qualified}
use Rattle.c_types.specs.Table.{Extends, StandsFor}
use Rattle.typing_rules.specs.DeclaratorRules as rule
use Rattle.c_declarators.specs.Derivations.{lines_view, Derives, AreDerivations}
use Rattle.c_declarators.proofs.types.derived_type.Given as goal

abbrev pub invariant-loop-k : goal.invariant-loop-k
invariant-loop-k l = record {
  grown : Extends l.fn.types l.types;
  so_far : (es : List rule.Derivation) (u : Qualified) → AreDerivations l.fn.types l.ds es → StandsFor l.fn.types l.fn.base u
      → Derives l.types (Ok l.t) (rule.derived (lines_view l.at) false u (drop (length l.ds - l.k) es));
}
