use Rattle.std.proofs.Common.{◌∙◌, sym}
use Rattle.c_meaning.specs.Runs.{setting_of, types_of, world_of}
use Rattle.c_meaning.proofs.LocalLives.{end_item, end_items_done}
use Rattle.c_meaning.proofs.store.Stored.end_block.Goals as goal

pub loop-item-preserved : goal.loop-item-preserved
loop-item-preserved c = record {
  rest = λ bound es.
      sym (end_item (setting_of bound c.args.at) (types_of c.args.at.program.now) c.loop-item.item-iterator.iter.rest.now c.next.new.self.iter.rest.now
      c.in-Some.item.now
      (world_of c.loop-item.self es) (world_of c.end_item.new.self es) c.in-Some.ensures.steps (c.end_item.ensures.leaves bound es))
      ∙ c.loop-item.invariant.rest bound es;
  budgets = c.end_item.ensures.budgets ∙ c.loop-item.invariant.budgets;
}

pub returns-clause-leaves : goal.returns-clause-leaves
returns-clause-leaves c = λ bound es.
    sym (c.loop-item.invariant.rest bound es)
    ∙ end_items_done (setting_of bound c.args.at) (types_of c.args.at.program.now) c.loop-item.item-iterator.iter.rest.now (world_of c.loop-item.self es)
    c.in-None.ensures.steps.0
