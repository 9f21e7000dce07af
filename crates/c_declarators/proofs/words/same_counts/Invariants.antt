use Rattle.std.proofs.Common.{◌≡◌, map, drop}
use Rattle.typing_rules.specs.SourceViews.{word_of}
use Rattle.typing_rules.specs.SpecifierRules as rule
use Rattle.c_declarators.proofs.words.same_counts.Given as goal

abbrev pub invariant-loop-word : goal.invariant-loop-word
invariant-loop-word l =
    rule.same_counts (drop l.word-index l.kinds) l.naming (map word_of l.words) ≡ rule.same_counts l.kinds l.naming (map word_of l.words)
