use Rattle.std.proofs.Common.{ap}
use Rattle.mid_code.specs.Machine.{Machine}
use Rattle.frames.proofs.Rows.{taken-rows, target_within}
use Rattle.frames.proofs.frames.Frames.take.Goals as goal

pub returns : goal.returns
returns c =
    let s = c.self.inside in
    let within = target_within s.registers.items s.objects.items s.top s.below.items c.args.register c.self.invariant.laid (rw (← c.self.view_is) at c.requires.register) in
    rw (← c.self.view_is, c.from.ensures)
    (ap (λ (m : Machine). record { machine = m; room = s.room }) (taken-rows s.registers.items s.objects.items s.top s.below.items s.budgets c.args.register c.args.value c.self.invariant.laid within))
