use Rattle.std.proofs.Common.{◌≡◌, ◌+◌, ◌≤◌, map, drop}
use Rattle.typing_rules.specs.SourceViews.{word_of}
use Rattle.typing_rules.specs.SpecifierRules as rule
use Rattle.c_declarators.proofs.words.count_of.Given as goal

abbrev pub invariant-loop-s : goal.invariant-loop-s
invariant-loop-s l =
    (l.count ≤ l.s-index) × (l.count + rule.count_of l.word (map word_of (drop l.s-index l.words)) ≡ rule.count_of l.word (map word_of l.words))
