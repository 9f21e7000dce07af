use Rattle.std.proofs.Common.{◌∙◌, sym, ap, Err}
use Rattle.std.proofs.lemmas.Result.{err_from_is_err_and}
use Rattle.source_meaning.specs.Places.{all_begin}
use Rattle.source_meaning.specs.Statements.{locals_of}
use Rattle.c_meaning.specs.Runs.{setting_of, types_of, world_of}
use Rattle.c_meaning.specs.TaskViews.{items_view}
use Rattle.c_meaning.proofs.LocalLives.{changes_err, begin_item, begin_item_stops, begin_items_done}
use Rattle.c_meaning.proofs.store.Stored.begin_block.Goals as goal

pub loop-item-preserved : goal.loop-item-preserved
loop-item-preserved c = record {
  rest = λ bound es.
      sym (begin_item (setting_of bound c.args.at) (types_of c.args.at.program.now) c.args.items.now c.loop-item.item-index c.item-item.result
      (world_of c.loop-item.self es) (world_of c.begin_item.new.self es) c.loop-item-test.true c.item-item.is (c.in_ok-begin_item.ensures.changes bound es))
      ∙ c.loop-item.invariant.rest bound es;
  budgets = c.begin_item.ensures.budgets ∙ c.loop-item.invariant.budgets;
}

pub returns-in_err-begin_item-clause-changes : goal.returns-in_err-begin_item-clause-changes
returns-in_err-begin_item-clause-changes c = λ bound.
    let s = setting_of bound c.args.at in
    let types = types_of c.args.at.program.now in
    let exit = err_from_is_err_and c.from_residual.result c.from_residual.ensures.1 in
    changes_err (all_begin s (locals_of (items_view types c.args.items.now))) c.args.self.now c.begin_item.new.self c.from_residual.result
    c.in_err-begin_item.field-0.0 (exit.1 ∙ ap Err exit.2)
    (λ es. sym (c.loop-item.invariant.rest bound es)
    ∙ begin_item_stops s types c.args.items.now c.loop-item.item-index c.item-item.result (world_of c.loop-item.self es) _ es c.loop-item-test.true
    c.item-item.is
    (c.in_err-begin_item.ensures.changes bound es))

pub returns-clause-changes : goal.returns-clause-changes
returns-clause-changes c = λ bound es.
    sym (c.loop-item.invariant.rest bound es)
    ∙ begin_items_done (setting_of bound c.args.at) (types_of c.args.at.program.now) c.args.items.now c.loop-item.item-index (world_of c.loop-item.self es)
    c.loop-item-test.false
