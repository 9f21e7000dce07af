-- The events of a request that failed.
use Rattle.std.specs.Prelude.{ℕ, ◌<◌, List, length, take, Option}
use Rattle.srmt_base.specs.declared.event.Event.{Event}
use Rattle.srmt_outside.specs.Told.{Appends}

-- so many of the events, and not all, were appended: those before the one that could not be written
pub record AppendsSome (before after : Option (List Event)) (events : List Event) : Type 0 where
  pub written : ℕ
  pub fewer : written < length events
  pub appends : Appends before after (take written events)
