use Rattle.std.proofs.Common.{◌≡◌, ◌-◌, ◌≤◌, length, take, ap, ◌∙◌, arith}
use Rattle.mid_code.specs.Machine.{Machine}
use Rattle.frames.proofs.Rows.{finished-rows, opened_length}
use Rattle.frames.proofs.frames.Frames.finish.Goals as goal

pub returns : goal.returns
returns c =
    let s = c.self.inside in
    let len : c.len-len.result ≡ length s.objects.items = c.len-len.ensures ∙ s.objects.ok.0 in
    let items : c.truncate.new.self.items ≡ take (length s.objects.items - 1) s.objects.items = rw len at c.truncate.ensures.items in
    let count = opened_length s.top.floor s.top.held s.objects.items (omega (arith, c.self.invariant.laid.1)) in
    let some : 1 ≤ s.top.held = rw (← c.self.view_is, count) at c.requires.some in
    rw (← c.self.view_is, items) (ap (λ (m : Machine). record { machine = m; room = s.room }) (finished-rows s.registers.items s.objects.items s.top s.below.items s.budgets c.self.invariant.laid some))
