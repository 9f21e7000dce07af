-- One side of a pair: where it stands, what a step of it meets, and what that step gives.
use Rattle.std.specs.Prelude.{ℕ, List, []}
use Rattle.srmt_base.specs.declared.event.Event.{Event}
use Rattle.srmt_base.specs.declared.limits.Limits.{Limits}
use Rattle.mid_code.specs.Classes.{SharedProgram}
use Rattle.world.specs.World.{WorldState}
use Rattle.world.specs.Standing.{Standing, started_standing}
use Rattle.verdicts.specs.declared.thread_end.ThreadEnd.{ThreadEnd}

-- where it stands, at places of its own version, and the words that it has taken so far at its
-- instruction: the acknowledgements that it awaits
pub record SideState : Type 0 where
  pub at : Standing
  pub heard : List ℕ

-- what a step meets: nothing, the word that it takes, that none will come, or an outlet that fails
-- after so many of the step's events
pub data Meet : Type 0 where
  Plain : Meet
  Got : (word : ℕ) → Meet
  Closed : Meet
  Failed : (written : ℕ) → Meet

-- the side goes on from here, or has ended so
pub data Outcome : Type 0 where
  Went : (next : SideState) → Outcome
  Ended : (end : ThreadEnd) → Outcome

-- what a step gives: where it leaves the side, the words that it sends, the world after it, and
-- the events that it writes
pub record StepGives : Type 0 where
  pub outcome : Outcome
  pub sent : List ℕ
  pub world : WorldState
  pub events : List Event

-- where each side begins: `main` is entered, with all registers 0
abbrev pub opening : SharedProgram → Limits → SideState
opening program limits = record { at = started_standing program.program limits; heard = [] }
