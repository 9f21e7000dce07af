use Rattle.std.proofs.Common.{length}
use Rattle.upset.proofs.Listing.{Read}
use Rattle.upset.proofs.list.whole.Given as goal

abbrev pub invariant-loop-next : goal.invariant-loop-next
invariant-loop-next l = Read l.fn.text l.list.items l.last l.rest

abbrev pub decreases-loop-next : goal.decreases-loop-next
decreases-loop-next l = length l.rest
