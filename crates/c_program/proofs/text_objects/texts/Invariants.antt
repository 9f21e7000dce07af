use Rattle.std.proofs.Common.{◌≡◌, take}
use Rattle.c_program.proofs.text_objects.texts.Given as goal

-- the texts so far
abbrev pub invariant-loop-text : goal.invariant-loop-text
invariant-loop-text l = l.made ≡ take l.text-index l.text-items
