use Rattle.std.proofs.Common.{ℕ, map, drop, Option}
use Rattle.typing_rules.specs.SourceViews.{suffix_view, all_parts}
use Rattle.c_known.specs.Views.{line_in}
use Rattle.c_declarators.specs.Trees.{IsFirst}
use Rattle.c_declarators.proofs.mark.first_among.Given as goal

-- what comes first among the rest comes first among all
abbrev pub invariant-loop-suffix : goal.invariant-loop-suffix
invariant-loop-suffix l =
    (a : Option ℕ) → IsFirst l.mark a (all_parts (map (suffix_view (line_in l.file)) (drop l.suffix-index l.suffixes)))
    → IsFirst l.mark a (all_parts (map (suffix_view (line_in l.file)) l.suffixes))
