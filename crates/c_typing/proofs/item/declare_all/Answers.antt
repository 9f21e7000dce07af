use Rattle.c_known.specs.Views.{line_in}
use Rattle.c_known.specs.Gives.{IsDone}
use Rattle.c_typing.proofs.Items.{all-by, all-told}
use Rattle.c_typing.proofs.item.declare_all.Goals as goal

pub returns-in_err-base : goal.returns-in_err-base
returns-in_err-base c =
    let s = c.args.known.now in
    all-told IsDone s _ c.from_residual.result (line_in c.args.file) c.args.d.now _ c.as_slice.ensures c.in_err-base.field-0.0 (c.in_err-base.ensures s.types) c.from_residual.ensures.1

pub returns : goal.returns
returns c =
    let s = c.args.known.now in
    all-by IsDone s _ c.declare_items.result (line_in c.args.file) c.args.d.now _ c.as_slice.ensures c.in_ok-base.base _ c.storage_of.result c.as_slice-2.ensures c.storage_of.ensures
    (c.in_ok-base.ensures s.types) c.declare_items.ensures
