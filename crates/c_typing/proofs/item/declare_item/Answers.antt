use Rattle.typing_rules.specs.SourceViews.{item_view}
use Rattle.c_entities.specs.Views.{storage_view}
use Rattle.c_known.specs.Views.{line_in}
use Rattle.c_known.specs.Gives.{IsDone}
use Rattle.c_declarators.specs.Derivations.{lines_view}
use Rattle.c_typing.proofs.Spine.{stands-later}
use Rattle.c_typing.proofs.Items.{item-by, item-told, parts-slice}
use Rattle.c_typing.proofs.item.declare_item.Goals as goal

pub returns-in_err-ds : goal.returns-in_err-ds
returns-in_err-ds c t stands =
    let file = c.args.file in
    item-told IsDone c.args.known.now _ _ c.from_residual.result (storage_view c.args.storage) t (line_in file c.args.line) (item_view (line_in file) c.args.x.now)
    (lines_view c.lines_of-lines.result) c.lines_of-lines.ensures c.in_err-ds.field-0.0 c.in_err-ds.ensures c.from_residual.ensures.1

pub returns : goal.returns
returns c t stands =
    let file = c.args.file in
    item-by IsDone c.args.known.now _ _ c.declare_derived.result (storage_view c.args.storage) t (line_in file c.args.line) (item_view (line_in file) c.args.x.now)
    (lines_view c.lines_of-lines.result) c.lines_of-lines.ensures c.in_ok-ds.ds c.in_ok-ds.ensures
    (λ es grown parts. c.declare_derived.ensures t es (stands-later _ _ grown c.args.base t stands) (parts-slice _ c.in_ok-ds.ds c.as_slice.result.now es c.as_slice.ensures.value parts))
