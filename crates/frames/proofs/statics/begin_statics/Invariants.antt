use Rattle.std.proofs.Common.{◌≡◌, take}
use Rattle.frames.proofs.StaticRows.{objects_from}
use Rattle.frames.proofs.statics.begin_statics.Given as goal

abbrev pub invariant-loop-before : goal.invariant-loop-before
invariant-loop-before l = l.store ≡ objects_from l.first (take l.before l.statics) l.cells
