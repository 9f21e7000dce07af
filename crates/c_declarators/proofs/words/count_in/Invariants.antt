use Rattle.std.proofs.Common.{◌≡◌, ◌+◌, ◌≤◌, drop}
use Rattle.typing_rules.specs.SpecifierRules as rule
use Rattle.c_declarators.proofs.words.count_in.Given as goal

abbrev pub invariant-loop-w : goal.invariant-loop-w
invariant-loop-w l = (l.count ≤ l.w-index) × (l.count + rule.count_of l.word (drop l.w-index l.words) ≡ rule.count_of l.word l.words)
