use Rattle.std.proofs.Common.{◌≡◌, map, drop}
use Rattle.typing_rules.specs.SourceViews.{word_of}
use Rattle.typing_rules.specs.SpecifierRules as rule
use Rattle.c_declarators.proofs.words.stands_in.Given as goal

abbrev pub invariant-loop-s : goal.invariant-loop-s
invariant-loop-s l = rule.stands_in l.word (map word_of (drop l.s-index l.words)) ≡ rule.stands_in l.word (map word_of l.words)
