-- Steps of a side that reach neither the other side nor the world.
use Rattle.std.specs.Prelude.{ℕ, zero, suc, ◌≡◌, false}
use Rattle.srmt_base.specs.declared.side.Side.{Side}
use Rattle.mid_code.specs.Classes.{SharedProgram}
use Rattle.world.specs.World.{WorldState}
use Rattle.machine.specs.Side.{SideState, Meet, Went}
use Rattle.machine.specs.Steps.{side_op, takes_at, may_send_at, quiet}
use Rattle.machine.specs.Meets.{next_of}

-- a step asks nothing of the link, and whatever it would meet it leaves the world as it is and the side goes on from here
pub record IsQuiet (side : Side) (program : SharedProgram) (s next : SideState) : Type 0 where
  pub takes_none : takes_at (side_op side program s) ≡ false
  pub sends_none : may_send_at (side_op side program s) ≡ false
  pub gives : (w : WorldState) (meet : Meet) → next_of side program s w meet ≡ quiet w (Went next)

-- so many such steps, one after another
abbrev pub QuietSteps : Side → SharedProgram → ℕ → SideState → SideState → Type 0
QuietSteps side program zero s after = after ≡ s
QuietSteps side program (suc n) s after = (before : SideState) × QuietSteps side program n s before × IsQuiet side program before after

-- no further step is one
abbrev pub NoneQuiet : Side → SharedProgram → SideState → Type 0
NoneQuiet side program s = (next : SideState) → IsQuiet side program s next → ⊥
