use Rattle.std.proofs.Common.{◌≡◌, length, arith, ap}
use Rattle.cell_store.specs.Plain.{PlainObject}
use Rattle.cell_store.proofs.Listed.{used_more}
use Rattle.cell_store.proofs.plain.used.Goals as goal

pub overflow_add-cells : goal.overflow_add-cells
overflow_add-cells c =
    let item : length c.object-item.result.cells.items ≡ _ = ap (λ (object : PlainObject). length object.cells.items) c.object-item.is in
    omega (arith, c.requires, c.loop-object.invariant, used_more c.args.objects.now c.loop-object.object-index c.object-item.result c.loop-object-test.true, item, c.len.ensures, c.object-item.result.cells.ok.0)
