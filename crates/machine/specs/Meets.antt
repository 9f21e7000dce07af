-- One step of either side, and what it can meet.
use Rattle.std.specs.Prelude.{ℕ, ◌≡◌, ◌<◌, Bool, true, false, length}
use Rattle.srmt_base.specs.declared.side.Side.{Side}
use Rattle.srmt_base.specs.declared.side.Side.TheVariants.{Lead, Trail}
use Rattle.mid_code.specs.Classes.{SharedProgram}
use Rattle.world.specs.World.{WorldState}
use Rattle.machine.specs.Side.{SideState, Meet, Plain, Got, Closed, Failed, StepGives}
use Rattle.machine.specs.Steps.{side_op, takes_at}
use Rattle.machine.specs.Leading.{lead_next}
use Rattle.machine.specs.Trailing.{trail_next}

abbrev pub next_of : Side → SharedProgram → SideState → WorldState → Meet → StepGives
next_of Lead program s w meet = lead_next program s w meet
next_of Trail program s w meet = trail_next program s w meet

-- a step meets a word, or that none will come, exactly where it takes one; an outlet can fail
-- before any event of the step
abbrev pub MeetsBy : Bool → ℕ → Meet → Type 0
MeetsBy taking count Plain = taking ≡ false
MeetsBy taking count (Got word) = taking ≡ true
MeetsBy taking count Closed = taking ≡ true
MeetsBy taking count (Failed written) = (taking ≡ false) × (written < count)

abbrev pub CanMeet : Side → SharedProgram → SideState → WorldState → Meet → Type 0
CanMeet side program s w meet = MeetsBy (takes_at (side_op side program s)) (length (next_of side program s w Plain).events) meet
