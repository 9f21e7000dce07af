use Rattle.std.proofs.Common.{◌≡◌, refl, arith}
use Rattle.srmt_base.specs.Objects.{live_cells}
use Rattle.cell_store.specs.Plain.{plain}
use Rattle.cell_store.proofs.Listed.{plain_begun}
use Rattle.cell_store.proofs.plain.PlainStore.add.Goals as goal

pub invariant_of-self-2 : goal.invariant_of-self-2
invariant_of-self-2 c =
    let s = c.self.inside in
    let used : c.used.result ≡ live_cells (plain 0 0 s.objects.items) = rw c.deref.ensures.value at c.used.ensures in
    rw (c.in_ok-push.ensures.items, c.from-3.ensures)
    (plain_begun s.budget s.fresh c.args.number s.objects.items _ c.self.invariant refl (omega arith) (omega (arith, c.in_ok-vec.ensures.len, c.in_ok-vec.field-0.ok.0, c.self.invariant.few)))
