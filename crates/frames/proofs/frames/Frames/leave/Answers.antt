use Rattle.std.proofs.Common.{ap, arith}
use Rattle.srmt_base.specs.declared.budgets.Budget.{Budget}
use Rattle.frames.specs.Kept.{depths}
use Rattle.frames.proofs.Gone.{depth_of}
use Rattle.frames.proofs.frames.Frames.leave.Goals as goal

pub leave-requires : goal.leave-requires
leave-requires c =
    let left = ap (λ (b : Budget). b.depth) c.of-left.ensures in
    let few = depth_of c.part_of-part.result c.budgets.result in
    let all = ap depths c.budgets.ensures.budgets in
    record { room = omega (arith, left, few, all, c.budgets.ensures.room, c.budgets.ensures.bounded) }
