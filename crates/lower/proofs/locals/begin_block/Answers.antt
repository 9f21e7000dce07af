use Rattle.std.proofs.Common.{◌+◌, drop, Ok}
use Rattle.lower.specs.Emits.{rows_of, types_of, inside_view}
use Rattle.lower.proofs.Steps.{exits}
use Rattle.lower.proofs.LocalSteps.{block_numbers, item_numbers, items-at, items-done, lists-begin, lists-stop, none-begin}
use Rattle.lower.proofs.locals.begin_block.Goals as goal

pub loop-item-preserved : goal.loop-item-preserved
loop-item-preserved c = λ new r h.
    c.loop-item.invariant new r
    (lists-begin (inside_view c.args.at) (rows_of c.args.at) c.loop-item.body c.begin_item.new.body new (item_numbers (types_of c.args.at) c.item-item.result)
    (block_numbers (types_of c.args.at) (drop (c.loop-item.item-index + 1) c.args.items.now))
    (block_numbers (types_of c.args.at) (drop c.loop-item.item-index c.args.items.now))
    (items-at (types_of c.args.at) c.args.items.now c.loop-item.item-index c.item-item.result c.loop-item-test.true c.item-item.is)
    c.in_ok-begin_item.ensures h)

pub returns-in_err-begin_item : goal.returns-in_err-begin_item
returns-in_err-begin_item c =
    c.loop-item.invariant _ _
    (lists-stop (inside_view c.args.at) (rows_of c.args.at) c.loop-item.body c.begin_item.new.body c.begin_item.new.body
    (item_numbers (types_of c.args.at) c.item-item.result)
    (block_numbers (types_of c.args.at) (drop (c.loop-item.item-index + 1) c.args.items.now))
    (block_numbers (types_of c.args.at) (drop c.loop-item.item-index c.args.items.now))
    (items-at (types_of c.args.at) c.args.items.now c.loop-item.item-index c.item-item.result c.loop-item-test.true c.item-item.is)
    (exits c.from_residual.result _ c.from_residual.ensures.1) c.in_err-begin_item.ensures)

pub returns : goal.returns
returns c =
    c.loop-item.invariant c.loop-item.body (Ok tt)
    (none-begin (inside_view c.args.at) (rows_of c.args.at) c.loop-item.body (block_numbers (types_of c.args.at) (drop c.loop-item.item-index c.args.items.now))
    (items-done (types_of c.args.at) c.args.items.now c.loop-item.item-index c.loop-item-test.false))
