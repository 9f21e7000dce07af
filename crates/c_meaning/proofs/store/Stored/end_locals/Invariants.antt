use Rattle.std.proofs.Common.{◌≡◌, ℕ, List}
use Rattle.srmt_base.specs.declared.event.Event.{Event}
use Rattle.source_meaning.specs.Places.{all_end}
use Rattle.c_meaning.specs.Runs.{setting_of, types_of, world_of}
use Rattle.c_meaning.proofs.LocalLists.{numbers}
use Rattle.c_meaning.proofs.store.Stored.end_locals.Given as goal

abbrev pub invariant-loop-local : goal.invariant-loop-local
invariant-loop-local l = record {
  rest : (bound : ℕ) (es : List Event) →
      all_end (setting_of bound l.at) (numbers (types_of l.at.program.now) l.local-iterator.iter.rest.now) (world_of l.self es)
      ≡ all_end (setting_of bound l.at) (numbers (types_of l.at.program.now) l.locals) (world_of l.fn.self es);
  budgets : l.self.budgets ≡ l.fn.self.budgets;
}
