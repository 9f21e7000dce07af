use Rattle.std.proofs.Common.{◌≡◌, ℕ, List, drop}
use Rattle.srmt_base.specs.declared.event.Event.{Event}
use Rattle.source_meaning.specs.Calls.{parameters_begin}
use Rattle.c_meaning.specs.Runs.{setting_of, world_of}
use Rattle.c_meaning.proofs.store.Stored.begin_parameters.Given as goal

abbrev pub invariant-loop-number : goal.invariant-loop-number
invariant-loop-number l = record {
  same : (bound : ℕ) (es : List Event)
      → parameters_begin (setting_of bound l.at) 0 l.arguments (world_of l.initial.self es)
      ≡ parameters_begin (setting_of bound l.at) l.number (drop l.number l.arguments) (world_of l.self es);
  budgets : l.self.budgets ≡ l.initial.self.budgets;
}
