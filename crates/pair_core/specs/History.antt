-- The history of one side: what its counted steps have come to, whatever the other side did.
use Rattle.std.specs.Prelude.{◌≡◌, ℕ, zero, suc, Bool, false, List, [], ◌∷◌, ◌++◌}
use Rattle.srmt_base.specs.declared.event.Event.{Event}
use Rattle.srmt_base.specs.declared.side.Side.{Side}
use Rattle.mid_code.specs.Classes.{SharedProgram}
use Rattle.world.specs.World.{WorldState, opened, Setting}
use Rattle.machine.specs.Side.{SideState, Meet, Plain, Got, Closed, Failed, Outcome, Went, StepGives, opening}
use Rattle.machine.specs.Meets.{next_of, CanMeet}
use Rattle.machine.specs.Upset.{Upset, Upsets, upsets_of, struck_by, applied_by}

-- where a side is, the world as its steps left it, all that they took, sent and wrote, and whether
-- an upset was applied
pub record Past : Type 0 where
  pub at : Outcome
  pub world : WorldState
  pub took : List ℕ
  pub sent : List ℕ
  pub events : List Event
  pub applied : Bool

abbrev pub opening_past : Setting → Past
opening_past setting = record {
  at = Went (opening setting.program setting.limits);
  world = opened setting;
  took = [];
  sent = [];
  events = [];
  applied = false;
}

-- just before a step: the upsets of that step have struck
abbrev pub ready : List Upset → ℕ → Past → Past
ready [] step past = past
ready (upset ∷ upsets) step past = record past {
  at = struck_by (upset ∷ upsets) step past.at;
  applied = applied_by (upset ∷ upsets) step past.at past.applied;
}

-- the word that a step takes
abbrev pub word_met : Meet → List ℕ
word_met Plain = []
word_met (Got word) = word ∷ []
word_met Closed = []
word_met (Failed written) = []

-- one step more
abbrev pub grown : Past → Meet → StepGives → Past
grown past meet gives = record {
  at = gives.outcome;
  world = gives.world;
  took = past.took ++ word_met meet;
  sent = past.sent ++ gives.sent;
  events = past.events ++ gives.events;
  applied = past.applied;
}

-- a counted step leads from the one to the other: a step that waits is not counted, the step on
-- which the side ends is
pub record IsStep (program : SharedProgram) (side : Side) (before past : Past) : Type 0 where
  pub stood : SideState
  pub goes : before.at ≡ Went stood
  pub meet : Meet
  pub can_meet : CanMeet side program stood before.world meet
  pub grows : past ≡ grown before meet (next_of side program stood before.world meet)

-- after so many counted steps, and with these upsets, a side can have come to this
abbrev pub HasPast : Setting → Upsets → Side → ℕ → Past → Type 0
HasPast setting upsets side zero past = past ≡ opening_past setting
HasPast setting upsets side (suc steps) past =
    (before : Past) × HasPast setting upsets side steps before ×
    IsStep setting.program side (ready (upsets_of side upsets) (suc steps) before) past
