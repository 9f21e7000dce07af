-- Both sides in turn.
use Rattle.std.specs.Prelude.{◌≡◌, ℕ, List}
use Rattle.srmt_base.specs.declared.limits.Limits.{Limits}
use Rattle.srmt_base.specs.declared.side.Side.{Side}
use Rattle.srmt_base.specs.declared.side.Side.TheVariants.{Lead, Trail}
use Rattle.mid_code.specs.Classes.{SharedProgram}
use Rattle.verdicts.specs.declared.thread_end.ThreadEnd.{ThreadEnd}
use Rattle.world.specs.World.{setting_of}
use Rattle.machine.specs.declared.stepped.Stepped.{Stepped}
use Rattle.machine.specs.declared.stepped.Stepped.TheVariants.{Made, NotYet, MadeLast}
use Rattle.machine.specs.Side.{Ended}
use Rattle.verdicts.specs.declared.verdict.Ran.{Ran}
use Rattle.pair_core.specs.Fit.{IsOver}
use Rattle.pair_core.specs.Duo.{DuoState, opening_duo}
use Rattle.pair_core.specs.Answer.{ran_of}

abbrev pub other_side : Side → Side
other_side Lead = Trail
other_side Trail = Lead

-- a side goes on until it waits or has ended
abbrev pub next_turn : Stepped → Side → Side
next_turn Made side = side
next_turn NotYet side = other_side side
next_turn (MadeLast end) side = other_side side

abbrev pub BothOver : DuoState → Type 0
BothOver duo = IsOver duo.lead × IsOver duo.trail

-- the answer of a state in which both sides have ended
abbrev pub IsRan : DuoState → Ran → Type 0
IsRan duo ran = (lead : ThreadEnd) × (trail : ThreadEnd) × (duo.lead ≡ Ended lead) × (duo.trail ≡ Ended trail) × (ran ≡ ran_of lead trail duo)

-- nothing was done yet
abbrev pub IsOpening : SharedProgram → DuoState → Type 0
IsOpening program duo = (input : List ℕ) × (limits : Limits) × (duo ≡ opening_duo (setting_of program input limits))
