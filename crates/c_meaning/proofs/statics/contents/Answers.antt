use Rattle.std.proofs.Common.{◌∙◌, ◌+◌, length, sym, ap, subst, drop, All, slice_index_or, slice_set}
use Rattle.std.proofs.lemmas.List.{length-set}
use Rattle.std.proofs.lemmas.List.Elements.{All-set}
use Rattle.mid_code.specs.Fits.{IsValue}
use Rattle.c_typed.specs.declared.program.StartCell.{StartCell}
use Rattle.c_typed.specs.declared.program.Start.TheVariants as start
use Rattle.c_typed.specs.StatementViews.{program_view}
use Rattle.source_meaning.specs.Start.{with_given}
use Rattle.c_meaning.proofs.StartingObjects.{start_small, given_next}
use Rattle.c_meaning.proofs.statics.contents.Goals as goal

-- past the end
none : StartCell
none = record { index = 0; start = start.Number 0 }

pub start_value-value-requires-clause-small : goal.start_value-value-requires-clause-small
unfolding none
start_value-value-requires-clause-small c =
    start_small (program_view c.args.program.now) c.args.part c.args.given.now c.loop-cell.cell-index none c.requires.small c.loop-cell-test.true

pub loop-cell-preserved : goal.loop-cell-preserved
unfolding none
loop-cell-preserved c =
    let p = program_view c.args.program.now in
    let i = c.loop-cell.cell-index in
    let old = c.loop-cell.values.items in
    let given = c.args.given.now in
    let cell = slice_index_or given i none in
    record {
      contents =
          ap (λ cells. with_given p c.args.part (drop (i + 1) given) cells)
          (c.set_cell.ensures ∙ ap (λ v. slice_set old cell.index v) c.start_value-value.ensures.value)
          ∙ sym (given_next p c.args.part given i none old c.loop-cell-test.true) ∙ c.loop-cell.invariant.contents;
      small =
          subst (λ cells. All IsValue cells) (sym c.set_cell.ensures)
          (All-set IsValue old cell.index c.start_value-value.result c.start_value-value.ensures.small c.loop-cell.invariant.small);
      cells = ap length c.set_cell.ensures ∙ length-set old cell.index c.start_value-value.result ∙ c.loop-cell.invariant.cells;
    }
