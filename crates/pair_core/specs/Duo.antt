-- Both sides in one state, and what one event of the core does to it.
use Rattle.std.specs.Prelude.{◌≡◌, ℕ, ◌+◌, Bool, true, false, ◌&&◌, not, List, [], ◌∷◌, ◌++◌, length, Option, Some, None, nat_lt}
use Rattle.srmt_base.specs.declared.event.Event.{Event}
use Rattle.srmt_base.specs.declared.side.Side.{Side}
use Rattle.srmt_base.specs.declared.side.Side.TheVariants.{Lead, Trail}
use Rattle.mid_code.specs.Classes.{SharedProgram}
use Rattle.world.specs.World.{WorldState, opened, Setting}
use Rattle.machine.specs.declared.stepped.Stepped.{Stepped}
use Rattle.machine.specs.declared.stepped.Stepped.TheVariants.{Made, NotYet, MadeLast}
use Rattle.machine.specs.Side.{SideState, Meet, Plain, Got, Closed, Failed, Outcome, Went, Ended, StepGives, opening}
use Rattle.machine.specs.Steps.{side_op, takes_at, may_send_at, step_room}
use Rattle.machine.specs.Meets.{next_of}
use Rattle.machine.specs.Upset.{Upset, Upsets, upsets_of, struck_by, applied_by}

pub record DuoState : Type 0 where
  pub lead : Outcome
  pub trail : Outcome
  pub world : WorldState
  -- the words on the way to the trailing side, and the acknowledgements on the way back
  pub words : List ℕ
  pub acks : List ℕ
  -- how many steps of each side were counted, and how many words they sent
  pub lead_steps : ℕ
  pub trail_steps : ℕ
  pub words_sent : ℕ
  pub acks_sent : ℕ
  -- whether an upset was applied
  pub applied : Bool

abbrev pub opening_duo : Setting → DuoState
opening_duo setting = record {
  lead = Went (opening setting.program setting.limits);
  trail = Went (opening setting.program setting.limits);
  world = opened setting;
  words = [];
  acks = [];
  lead_steps = 0;
  trail_steps = 0;
  words_sent = 0;
  acks_sent = 0;
  applied = false;
}

-- how many words, and how many acknowledgements, can be on the way
abbrev pub word_room : ℕ
word_room = 4096

abbrev pub ack_room : ℕ
ack_room = 64

abbrev pub is_over : Outcome → Bool
is_over (Went s) = false
is_over (Ended end) = true

-- what one side sees of the state
pub record View : Type 0 where
  pub at : Outcome
  -- what is on the way to it, and what is on the way from it
  pub coming : List ℕ
  pub going : List ℕ
  pub room : ℕ
  pub peer_over : Bool

abbrev pub view_of : Side → DuoState → View
view_of Lead duo = record { at = duo.lead; coming = duo.acks; going = duo.words; room = word_room; peer_over = is_over duo.trail }
view_of Trail duo = record { at = duo.trail; coming = duo.words; going = duo.acks; room = ack_room; peer_over = is_over duo.lead }

-- a step waits, or meets this and leaves that on the way
pub data Finds : Type 0 where
  Waits : Finds
  Meets : (meet : Meet) (left : List ℕ) → Finds

-- a step that takes a word waits for one while the other side has not ended
abbrev pub finds_word : Bool → List ℕ → Finds
finds_word over (word ∷ words) = Meets (Got word) words
finds_word true [] = Meets Closed []
finds_word false [] = Waits

-- the outlet fails after so many of the step's events, if it has as many
abbrev pub failed_by : Bool → ℕ → Meet
failed_by true written = Failed written
failed_by false written = Plain

abbrev pub meet_by : Option ℕ → ℕ → Meet
meet_by None count = Plain
meet_by (Some written) count = failed_by (nat_lt written count) written

abbrev pub finds_room : Bool → Meet → List ℕ → Finds
finds_room true meet coming = Waits
finds_room false meet coming = Meets meet coming

-- a step that may send waits for room while the other side has not ended
abbrev pub is_crowded : Bool → View → Bool
is_crowded sending view = sending && not view.peer_over && nat_lt view.room (length view.going + step_room)

abbrev pub finds_by : Bool → Bool → View → Meet → Finds
finds_by true sending view meet = finds_word view.peer_over view.coming
finds_by false sending view meet = finds_room (is_crowded sending view) meet view.coming

-- what the next step of a side finds
abbrev pub finds : Side → SharedProgram → SideState → WorldState → Option ℕ → View → Finds
finds side program s w fails view =
    finds_by (takes_at (side_op side program s)) (may_send_at (side_op side program s)) view (meet_by fails (length (next_of side program s w Plain).events))

-- what is sent to a side that has ended is dropped
abbrev pub put_on : Bool → List ℕ → List ℕ → List ℕ
put_on true way sent = way
put_on false way sent = way ++ sent

abbrev pub stepped_of : Outcome → Stepped
stepped_of (Went s) = Made
stepped_of (Ended end) = MadeLast end

-- one event of the core: the state after it, the events that it wrote, and its answer
pub record Turned : Type 0 where
  pub state : DuoState
  pub events : List Event
  pub stepped : Stepped

-- a step that is made is counted, and so are all words that it sends
abbrev pub made : Side → StepGives → List ℕ → DuoState → DuoState
made Lead gives left duo = record {
  lead = gives.outcome;
  trail = duo.trail;
  world = gives.world;
  words = put_on (is_over duo.trail) duo.words gives.sent;
  acks = left;
  lead_steps = duo.lead_steps + 1;
  trail_steps = duo.trail_steps;
  words_sent = duo.words_sent + length gives.sent;
  acks_sent = duo.acks_sent;
  applied = duo.applied;
}
made Trail gives left duo = record {
  lead = duo.lead;
  trail = gives.outcome;
  world = duo.world;
  words = left;
  acks = put_on (is_over duo.lead) duo.acks gives.sent;
  lead_steps = duo.lead_steps;
  trail_steps = duo.trail_steps + 1;
  words_sent = duo.words_sent;
  acks_sent = duo.acks_sent + length gives.sent;
  applied = duo.applied;
}

-- a step that waits changes nothing
abbrev pub turn_found : Finds → Side → SharedProgram → SideState → DuoState → Turned
turn_found Waits side program s duo = record { state = duo; events = []; stepped = NotYet }
turn_found (Meets meet left) side program s duo =
    let gives : StepGives = next_of side program s duo.world meet in
    record { state = made side gives left duo; events = gives.events; stepped = stepped_of gives.outcome }

-- a side that has ended answers its end again
abbrev pub turn_at : Outcome → Side → SharedProgram → Option ℕ → DuoState → Turned
turn_at (Went s) side program fails duo = turn_found (finds side program s duo.world fails (view_of side duo)) side program s duo
turn_at (Ended end) side program fails duo = record { state = duo; events = []; stepped = MadeLast end }

-- the next step of a side is tried: the upsets of that step strike before, once or each time that it
-- is tried again
abbrev pub ready_duo : List Upset → Side → DuoState → DuoState
ready_duo [] side duo = duo
ready_duo (upset ∷ upsets) Lead duo = record duo {
  lead = struck_by (upset ∷ upsets) (duo.lead_steps + 1) duo.lead;
  applied = applied_by (upset ∷ upsets) (duo.lead_steps + 1) duo.lead duo.applied;
}
ready_duo (upset ∷ upsets) Trail duo = record duo {
  trail = struck_by (upset ∷ upsets) (duo.trail_steps + 1) duo.trail;
  applied = applied_by (upset ∷ upsets) (duo.trail_steps + 1) duo.trail duo.applied;
}

abbrev pub turn_from : SharedProgram → Side → Option ℕ → DuoState → Turned
turn_from program side fails duo = turn_at (view_of side duo).at side program fails duo

-- one event of this side; the outlet fails after so many of its events, or not at all
abbrev pub turn_of : SharedProgram → Upsets → Side → Option ℕ → DuoState → Turned
turn_of program upsets side fails duo = turn_from program side fails (ready_duo (upsets_of side upsets) side duo)

-- an entry of a schedule
pub record Entry : Type 0 where
  pub side : Side
  pub fails : Option ℕ

-- what a schedule has come to, with all events written
pub record Scheduled : Type 0 where
  pub duo : DuoState
  pub events : List Event

abbrev pub run_on : SharedProgram → Upsets → Scheduled → List Entry → Scheduled
run_on program upsets sofar [] = sofar
run_on program upsets sofar (entry ∷ entries) =
    let turned : Turned = turn_of program upsets entry.side entry.fails sofar.duo in
    run_on program upsets (record { duo = turned.state; events = sofar.events ++ turned.events }) entries

-- the run of a schedule from the opening
abbrev pub scheduled : Setting → Upsets → List Entry → Scheduled
scheduled setting upsets entries = run_on setting.program upsets (record { duo = opening_duo setting; events = [] }) entries

-- some schedule leads here, with these events in all
abbrev pub Reached : Setting → Upsets → DuoState → List Event → Type 0
Reached setting upsets duo events =
    (entries : List Entry) × (scheduled setting upsets entries ≡ record { duo = duo; events = events })
