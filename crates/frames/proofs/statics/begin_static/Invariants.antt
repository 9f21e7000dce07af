use Rattle.std.proofs.Common.{◌≡◌}
use Rattle.frames.specs.Statics.{with_static}
use Rattle.frames.proofs.statics.begin_static.Given as goal

abbrev pub invariant-loop-offset : goal.invariant-loop-offset
invariant-loop-offset l = l.store ≡ with_static l.fn.store l.number l.object l.offset
