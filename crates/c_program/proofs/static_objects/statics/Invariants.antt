use Rattle.c_program.proofs.StaticLists.{StaticsFrom}
use Rattle.c_program.proofs.static_objects.statics.Given as goal

-- with those of the declarations that are left the static objects so far are all
abbrev pub invariant-loop-index : goal.invariant-loop-index
invariant-loop-index l = StaticsFrom l.known l.found l.index
