-- One event of the core as the code makes it: what a side is offered, and what it leaves on the way.
use Rattle.std.specs.Prelude.{◌≡◌, ℕ, zero, suc, ◌+◌, ◌-◌, ◌^◌, ◌<◌, ◌≤◌, Bool, true, false, List, [], ◌∷◌, Option, Some, None, drop, min, length, IsTrue}
use Rattle.srmt_base.specs.declared.event.Event.{Event}
use Rattle.srmt_base.specs.declared.side.Side.{Side}
use Rattle.srmt_base.specs.declared.side.Side.TheVariants.{Lead, Trail}
use Rattle.mid_code.specs.Classes.{SharedProgram}
use Rattle.world.specs.World.{WorldState, is_live}
use Rattle.machine.specs.declared.link_call.Taken.{Taken}
use Rattle.machine.specs.declared.link_call.Taken.TheVariants.{Word, NotYet as NoWordYet, Closed}
use Rattle.machine.specs.declared.link_call.LastCall.{LastCall}
use Rattle.machine.specs.declared.link_call.LastCall.TheVariants.{Nothing, Room, Take}
use Rattle.verdicts.specs.declared.thread_end.ThreadEnd.{ThreadEnd}
use Rattle.machine.specs.declared.stepped.Stepped.{Stepped}
use Rattle.machine.specs.declared.stepped.Stepped.TheVariants.{Made, NotYet, MadeLast}
use Rattle.machine.specs.Side.{SideState, Outcome, Went, Ended}
use Rattle.machine.specs.Fits.{SideFits}
use Rattle.machine.specs.Upset.{Upsets}
use Rattle.pair_core.specs.Duo.{DuoState, turn_of}

-- what is to be taken from a way whose other end has ended or not
abbrev pub offered : Bool → List ℕ → Taken
offered over (word ∷ words) = Word word
offered true [] = Closed
offered false [] = NoWordYet

-- for how many words, up to 18, a way of this room has places; one to a side that has ended has them
abbrev pub room_left : Bool → ℕ → List ℕ → ℕ
room_left true room words = 18
room_left false room words = min 18 (room - length words)

-- what is left on the way after this call of the link
abbrev pub left_by : LastCall → List ℕ → List ℕ
left_by Nothing words = words
left_by (Room count granted) words = words
left_by (Take (Word word)) words = drop 1 words
left_by (Take NoWordYet) words = words
left_by (Take Closed) words = words

-- where a side stands, by its end
abbrev pub outcome_by : Option ThreadEnd → SideState → Outcome
outcome_by None s = Went s
outcome_by (Some end) s = Ended end

abbrev pub end_of_step : Stepped → Option ThreadEnd
end_of_step Made = None
end_of_step NotYet = None
end_of_step (MadeLast end) = Some end

abbrev pub has_waited : Stepped → Bool
has_waited Made = false
has_waited NotYet = true
has_waited (MadeLast end) = false

-- one event of a side leads from the one state to the other
abbrev pub Turns : SharedProgram → Upsets → Side → Option ℕ → DuoState → DuoState → Stepped → List Event → Type 0
Turns program upsets side fails before after stepped events =
    turn_of program upsets side fails before ≡ record { state = after; events = events; stepped = stepped }

-- so many more steps of a side, each of which it makes, and none of which writes an event
abbrev pub MoreTurns : SharedProgram → Upsets → Side → ℕ → DuoState → DuoState → Type 0
MoreTurns program upsets side zero before after = after ≡ before
MoreTurns program upsets side (suc n) before after =
    (middle : DuoState) × MoreTurns program upsets side n before middle × Turns program upsets side None middle after Made []

-- one event of a side, and some more steps of it behind that
pub record TurnsOn (program : SharedProgram) (upsets : Upsets) (side : Side) (before after : DuoState) (stepped : Stepped) (events : List Event) : Type 0 where
  pub fails : Option ℕ
  pub first : DuoState
  pub turns : Turns program upsets side fails before first stepped events
  pub count : ℕ
  pub more : MoreTurns program upsets side count first after

-- a side that has not ended stands within its version, and while the leading side goes on the world
-- answers
abbrev pub OutcomeFits : Side → SharedProgram → Outcome → Type 0
OutcomeFits side program (Went s) = SideFits side program s
OutcomeFits side program (Ended end) = Unit {0}

abbrev pub LivesOn : Outcome → WorldState → Type 0
LivesOn (Went s) w = IsTrue (is_live w)
LivesOn (Ended end) w = Unit {0}

pub record DuoFits (program : SharedProgram) (duo : DuoState) : Type 0 where
  pub lead : OutcomeFits Lead program duo.lead
  pub trail : OutcomeFits Trail program duo.trail
  pub world : LivesOn duo.lead duo.world

-- fewer than 2^62 steps and words of each side were counted
pub record IsCountable (duo : DuoState) : Type 0 where
  pub lead : duo.lead_steps < 2 ^ 62
  pub trail : duo.trail_steps < 2 ^ 62
  pub words : duo.words_sent < 2 ^ 62
  pub acks : duo.acks_sent < 2 ^ 62

-- one event counts one step at most, and 18 words
pub record CountsOn (before after : DuoState) : Type 0 where
  pub lead : after.lead_steps ≤ before.lead_steps + 1
  pub trail : after.trail_steps ≤ before.trail_steps + 1
  pub words : after.words_sent ≤ before.words_sent + 18
  pub acks : after.acks_sent ≤ before.acks_sent + 18
