use Rattle.std.proofs.Common.{arith, Ok}
use Rattle.c_entities.specs.Views.{storage_view}
use Rattle.c_known.specs.Views.{line_in}
use Rattle.c_known.specs.Gives.{IsDone}
use Rattle.c_typing.proofs.Spine.{stands-later}
use Rattle.c_typing.proofs.Items.{items-step, items-told, items-end}
use Rattle.c_typing.proofs.item.declare_items.Goals as goal

pub loop-x-init : goal.loop-x-init
loop-x-init c new r t stands rest = rest stands

pub loop-x-preserved : goal.loop-x-preserved
loop-x-preserved c new r t stands rest =
    c.loop-x.invariant new r t stands (λ now.
    items-step IsDone (storage_view c.args.storage) t (line_in c.args.file c.args.line) (line_in c.args.file) c.args.items.now c.loop-x.x-index
    c.loop-x.known c.declare_item.new.known new r c.x-item.result (omega arith) c.x-item.is (c.in_ok-declare_item.ensures t now)
    (λ grown. rest (stands-later _ _ grown c.args.base t now)))

pub returns : goal.returns
returns c t stands =
    c.loop-x.invariant c.loop-x.known (Ok tt) t stands (λ now.
    items-end c.loop-x.known (storage_view c.args.storage) t (line_in c.args.file c.args.line) (line_in c.args.file) c.args.items.now c.loop-x.x-index (omega arith))

pub returns-in_err-declare_item : goal.returns-in_err-declare_item
returns-in_err-declare_item c t stands =
    c.loop-x.invariant c.declare_item.new.known c.from_residual.result t stands (λ now.
    items-told IsDone (storage_view c.args.storage) t (line_in c.args.file c.args.line) (line_in c.args.file) c.args.items.now c.loop-x.x-index
    c.loop-x.known c.declare_item.new.known c.declare_item.new.known c.from_residual.result c.x-item.result c.in_err-declare_item.field-0.0 (omega arith) c.x-item.is
    (c.in_err-declare_item.ensures t now) c.from_residual.ensures.1)
