use Rattle.std.proofs.Common.{length}
use Rattle.srmtrun.specs.Words.{texts}
use Rattle.srmtrun.specs.Reading.{said_of, SaysBefore}
use Rattle.srmtrun.proofs.words.read_parts.Given as goal

abbrev pub invariant-loop-left : goal.invariant-loop-left
invariant-loop-left l = SaysBefore (texts l.words) (texts l.left) (said_of l.said)

abbrev pub decreases-loop-left : goal.decreases-loop-left
decreases-loop-left l = length l.left
