use Rattle.std.proofs.Common.{◌≡◌, ℕ, List}
use Rattle.srmt_base.specs.declared.event.Event.{Event}
use Rattle.source_meaning.specs.Places.{all_end}
use Rattle.source_meaning.specs.Statements.{locals_of}
use Rattle.c_meaning.specs.Runs.{setting_of, types_of, world_of}
use Rattle.c_meaning.specs.TaskViews.{items_view}
use Rattle.c_meaning.proofs.store.Stored.end_block.Given as goal

abbrev pub invariant-loop-item : goal.invariant-loop-item
invariant-loop-item l = record {
  rest : (bound : ℕ) (es : List Event) →
      all_end (setting_of bound l.at) (locals_of (items_view (types_of l.at.program.now) l.item-iterator.iter.rest.now)) (world_of l.self es)
      ≡ all_end (setting_of bound l.at) (locals_of (items_view (types_of l.at.program.now) l.items)) (world_of l.fn.self es);
  budgets : l.self.budgets ≡ l.fn.self.budgets;
}
