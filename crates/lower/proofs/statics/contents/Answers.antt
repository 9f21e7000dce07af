use Rattle.std.proofs.Common.{◌∙◌, ◌+◌, sym, ap, drop, slice_index_or, slice_set}
use Rattle.c_typed.specs.declared.program.StartCell.{StartCell}
use Rattle.c_typed.specs.declared.program.Start.TheVariants as start
use Rattle.c_typed.specs.StatementViews.{program_view}
use Rattle.source_meaning.specs.Start.{with_given}
use Rattle.lower.proofs.StartingObjects.{given_next}
use Rattle.lower.proofs.statics.contents.Goals as goal

-- past the end
none : StartCell
none = record { index = 0; start = start.Number 0 }

pub loop-cell-preserved : goal.loop-cell-preserved
unfolding none
loop-cell-preserved c =
    let p = program_view c.args.program.now in
    let i = c.loop-cell.cell-index in
    let old = c.loop-cell.values.items in
    let given = c.args.given.now in
    let cell = slice_index_or given i none in
    ap (λ cells. with_given p c.args.part (drop (i + 1) given) cells)
    (c.set_cell.ensures ∙ ap (λ v. slice_set old cell.index v) c.in_ok-value.ensures.value)
    ∙ sym (given_next p c.args.part given i none old c.loop-cell-test.true) ∙ c.loop-cell.invariant
