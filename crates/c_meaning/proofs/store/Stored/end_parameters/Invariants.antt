use Rattle.std.proofs.Common.{◌≡◌, ℕ, ◌-◌, List}
use Rattle.srmt_base.specs.declared.event.Event.{Event}
use Rattle.source_meaning.specs.Calls.{numbers_below}
use Rattle.source_meaning.specs.Places.{all_end}
use Rattle.c_meaning.specs.Runs.{setting_of, world_of}
use Rattle.c_meaning.proofs.store.Stored.end_parameters.Given as goal

abbrev pub invariant-loop-ended : goal.invariant-loop-ended
invariant-loop-ended l = record {
  same : (bound : ℕ) (es : List Event)
      → all_end (setting_of bound l.at) (numbers_below l.parameters) (world_of l.initial.self es)
      ≡ all_end (setting_of bound l.at) (numbers_below (l.parameters - l.ended)) (world_of l.self es);
  budgets : l.self.budgets ≡ l.initial.self.budgets;
}
