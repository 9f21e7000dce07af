-- An outlet in memory, as its clauses see it.
use Rattle.std.specs.Prelude.{ℕ, List}
use Rattle.srmt_base.specs.declared.event.Event.{Event}

pub record Recorded : Type 0 where
  -- the events that were appended, in order
  pub events : List Event
  -- how many events there is room for
  pub room : ℕ
  -- how many calls of the trait there were
  pub calls : ℕ
  -- how many of these failed
  pub faults : ℕ
  -- the numbers, from 1, of the calls that are to fail
  pub fails : List ℕ
