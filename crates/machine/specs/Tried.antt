-- How the try of one step went, beside what it asked of its link.
use Rattle.std.specs.Prelude.{◌≡◌, Bool, true, false, List, [], ◌++◌, Option, Some, None, length}
use Rattle.srmt_base.specs.declared.event.Event.{Event}
use Rattle.srmt_base.specs.declared.side.Side.{Side}
use Rattle.srmt_outside.specs.Count.{next_count}
use Rattle.mid_code.specs.Classes.{SharedProgram}
use Rattle.world.specs.World.{WorldState}
use Rattle.machine.specs.declared.link_call.Taken.TheVariants.{Word, NotYet as NoWordYet, Closed as NoMore}
use Rattle.machine.specs.declared.link_call.LastCall.{LastCall}
use Rattle.machine.specs.declared.link_call.LastCall.TheVariants.{Room, Take}
use Rattle.machine.specs.declared.stepped.Stepped.{Stepped}
use Rattle.machine.specs.declared.stepped.Stepped.TheVariants.{Made, NotYet, MadeLast}
use Rattle.machine.specs.Link.{Shown, kept, dropped_more, taken_by_call}
use Rattle.machine.specs.Side.{SideState, Meet, Plain, Got, Closed, Failed, Outcome, Went, Ended, StepGives}
use Rattle.machine.specs.Steps.{side_op, takes_at, may_send_at, step_room}
use Rattle.machine.specs.Meets.{next_of, MeetsBy}

-- the one question that a step puts to its link, with the answer that lets it go on: it takes a
-- word, wants room, or asks nothing
abbrev pub question : Bool → Bool → Meet → Option LastCall
question true sending (Got word) = Some (Take (Word word))
question true sending Closed = Some (Take NoMore)
question true sending Plain = None
question true sending (Failed written) = None
question false true meet = Some (Room step_room true)
question false false meet = None

-- the same with the answer that makes it wait; a step that asks nothing never waits
abbrev pub waiting : Bool → Bool → Option LastCall
waiting true sending = Some (Take NoWordYet)
waiting false true = Some (Room step_room false)
waiting false false = None

-- the link was asked this question alone, or nothing
abbrev pub Asks : Shown → Shown → Option LastCall → Type 0
Asks before after None = (after.last ≡ before.last) × (after.asks ≡ before.asks) × (after.taken ≡ before.taken)
Asks before after (Some call) = (after.last ≡ call) × (after.asks ≡ next_count before.asks) × (after.taken ≡ before.taken ++ taken_by_call call)

-- a step that was made left the side so
abbrev pub Comes : Stepped → SideState → Outcome → Type 0
Comes Made s outcome = outcome ≡ Went s
Comes NotYet s outcome = ⊥
Comes (MadeLast end) s outcome = outcome ≡ Ended end

-- a step was made: what it met, what it asked of its link, and what it gave
pub record Makes (taking sending : Bool) (gives : Meet → StepGives) (outcome : Outcome) (w : WorldState) (events : List Event)
    (before after : Shown) : Type 0 where
  pub meet : Meet
  pub can_meet : MeetsBy taking (length (gives Plain).events) meet
  pub asks : Asks before after (question taking sending meet)
  pub outcome_is : (gives meet).outcome ≡ outcome
  pub world_is : (gives meet).world ≡ w
  pub events_are : (gives meet).events ≡ events
  -- its words were sent, or dropped where the other side is known to be gone
  pub sent : after.sent ≡ kept after.gone before.sent (gives meet).sent
  pub dropped : after.dropped ≡ dropped_more after.gone before.dropped (length (gives meet).sent)

-- a step waits: its question was refused, and nothing else has changed
pub record Waits (taking sending : Bool) (s : SideState) (w : WorldState) (s' : SideState) (w' : WorldState) (events : List Event)
    (before after : Shown) : Type 0 where
  pub call : LastCall
  pub refused : waiting taking sending ≡ Some call
  pub asks : Asks before after (Some call)
  pub same_side : s' ≡ s
  pub same_world : w' ≡ w
  pub no_event : events ≡ []
  pub none_sent : after.sent ≡ before.sent
  pub none_dropped : after.dropped ≡ before.dropped

-- how a try went, by its answer; nothing is said of where a side stands that has ended
abbrev pub TriesBy : Bool → Bool → (Meet → StepGives) → SideState → WorldState → Stepped → SideState → WorldState → List Event → Shown → Shown → Type 0
TriesBy taking sending gives s w Made s' w' events before after = Makes taking sending gives (Went s') w' events before after
TriesBy taking sending gives s w NotYet s' w' events before after = Waits taking sending s w s' w' events before after
TriesBy taking sending gives s w (MadeLast end) s' w' events before after = Makes taking sending gives (Ended end) w' events before after

-- the same of the instruction at which a side stands
abbrev pub Tries : Side → SharedProgram → SideState → WorldState → Stepped → SideState → WorldState → List Event → Shown → Shown → Type 0
Tries side program s w stepped s' w' events before after =
    TriesBy (takes_at (side_op side program s)) (may_send_at (side_op side program s)) (next_of side program s w) s w stepped s' w' events before after
