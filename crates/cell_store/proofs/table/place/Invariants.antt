use Rattle.std.proofs.Common.{ℕ, ◌+◌, ◌-◌, ◌*◌, ◌^◌, ◌<◌, ◌≤◌, max, length, get_or}
use Rattle.cell_store.specs.declared.table.Row.{Row}
use Rattle.cell_store.proofs.table.place.Given as goal

abbrev pub invariant-loop-low : goal.invariant-loop-low
invariant-loop-low g l = record {
  below : (k : ℕ) (d : Row) → k < l.low → (get_or l.rows k d).number < l.number;
  above : (k : ℕ) (d : Row) → l.high ≤ k → k < length l.rows → l.number < (get_or l.rows k d).number;
  within : l.high ≤ length l.rows;
  counted : l.initial.steps ≤ l.steps;
  cost : 2 ^ (l.steps - l.initial.steps) * max 1 (2 * (l.high - l.low)) ≤ 2 * length l.rows + 1;
}

abbrev pub decreases-loop-low : goal.decreases-loop-low
decreases-loop-low g l = l.high - l.low
