use Rattle.std.proofs.Common.{◌-◌, ◌∙◌, ap, arith}
use Rattle.std.proofs.lemmas.List.{get_or_default}
use Rattle.cell_store.specs.declared.table.Row.{Row}
use Rattle.cell_store.proofs.Rows.{all_below, all_above, row_of_at, row_of_apart}
use Rattle.cell_store.proofs.Halving.{halved, halved_once}
use Rattle.cell_store.proofs.table.place.Goals as goal

pub loop-low-preserved-in-Less : goal.loop-low-preserved-in-Less
loop-low-preserved-in-Less g c = record {
  below = λ k d h. all_below c.args.rows.now _ _ c.requires.2 d _ k _ _ (omega arith) (omega arith) c.in-Less.ensures.order;
  above = c.loop-low.invariant.above;
  within = omega arith;
  counted = omega arith;
  cost = halved c.loop-low.steps _ c.args.steps.now (c.loop-low.high - c.loop-low.low) _ _ c.compare.ensures.step (omega arith) (omega arith) (omega arith) c.loop-low.invariant.cost;
}

pub returns-in-Equal-clause-place : goal.returns-in-Equal-clause-place
returns-in-Equal-clause-place g c = record {
  within = omega arith;
  is = λ d. row_of_at c.args.rows.now 0 0 _ _ c.requires.2 d _ _ (omega arith) (ap (λ (row : Row). row.number) (get_or_default c.args.rows.now _ d _ (omega arith)) ∙ c.in-Equal.ensures.order);
}

pub returns-in-Equal-clause-cost : goal.returns-in-Equal-clause-cost
returns-in-Equal-clause-cost g c =
    halved_once c.loop-low.steps _ c.args.steps.now (c.loop-low.high - c.loop-low.low) _ c.compare.ensures.step (omega arith) (omega arith) c.loop-low.invariant.cost

pub loop-low-preserved : goal.loop-low-preserved
loop-low-preserved g c = record {
  below = c.loop-low.invariant.below;
  above = λ k d least within. all_above c.args.rows.now _ _ c.requires.2 d _ k _ _ least within c.in-Greater.ensures.order;
  within = omega arith;
  counted = omega arith;
  cost = halved c.loop-low.steps _ c.args.steps.now (c.loop-low.high - c.loop-low.low) _ _ c.compare.ensures.step (omega arith) (omega arith) (omega arith) c.loop-low.invariant.cost;
}

pub returns-clause-place : goal.returns-clause-place
returns-clause-place g c =
    row_of_apart c.args.rows.now c.loop-low.low c.loop-low.high c.args.number (omega arith) c.loop-low.invariant.below c.loop-low.invariant.above
