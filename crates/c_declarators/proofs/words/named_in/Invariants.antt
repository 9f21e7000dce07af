use Rattle.std.proofs.Common.{◌≡◌, map, drop}
use Rattle.typing_rules.specs.SourceViews.{word_of}
use Rattle.c_declarators.specs.Specifiers.{named_ref}
use Rattle.c_declarators.proofs.words.named_in.Given as goal

abbrev pub invariant-loop-naming : goal.invariant-loop-naming
invariant-loop-naming l = named_ref (map word_of l.words) (drop l.naming-index l.namings) ≡ named_ref (map word_of l.words) l.namings
