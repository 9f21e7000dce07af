-- What holds after every schedule.
use Rattle.std.specs.Prelude.{◌≡◌, ℕ, ◌+◌, ◌⊎◌, ◌≢◌, ◌||◌, List, [], ◌∷◌, ◌++◌, length, None}
use Rattle.srmt_base.specs.declared.event.Event.{Event}
use Rattle.srmt_base.specs.declared.side.Side.{Side}
use Rattle.srmt_base.specs.declared.side.Side.TheVariants.{Lead, Trail}
use Rattle.srmt_base.specs.declared.trap.SourceEnd.{SourceEnd}
use Rattle.srmt_base.specs.declared.trap.SourceEnd.TheVariants.{Exit as SourceExit, Trap as SourceTrap}
use Rattle.mid_code.specs.Classes.{SharedProgram}
use Rattle.mid_code.specs.Pairs.{HasSites}
use Rattle.world.specs.World.{Setting}
use Rattle.world.specs.Ideal.{ideal, IsIdeal}
use Rattle.verdicts.specs.declared.thread_end.ThreadEnd.{ThreadEnd}
use Rattle.verdicts.specs.declared.thread_end.ThreadEnd.TheVariants.{Exit, Trap, Mismatch, Echo, WriteFault}
use Rattle.machine.specs.declared.stepped.Stepped.TheVariants.{NotYet}
use Rattle.machine.specs.Side.{Outcome, Went, Ended}
use Rattle.machine.specs.Upset.{Upset, Upsets, no_upsets, IsNone, upsets_of}
use Rattle.pair_core.specs.History.{Past, ready}
use Rattle.pair_core.specs.Fit.{IsPrefix, IsOver, Fit}
use Rattle.pair_core.specs.Duo.{DuoState, view_of, turn_of, Entry, Scheduled, scheduled}

-- the end of a side that ends as the source does
abbrev pub end_as : SourceEnd → ThreadEnd
end_as (SourceExit status) = Exit status
end_as (SourceTrap trap line) = Trap trap line

-- the side has found no difference
abbrev pub IsCleanEnd : ThreadEnd → Type 0
IsCleanEnd (Mismatch taken own) = ⊥
IsCleanEnd (Echo taken own) = ⊥
IsCleanEnd _ = Unit {0}

abbrev pub IsClean : Outcome → Type 0
IsClean (Went s) = Unit {0}
IsClean (Ended end) = IsCleanEnd end

-- the ideal run has come to a point at which it has written these words, or these events, first
abbrev pub IdealWords : Setting → List ℕ → Type 0
IdealWords setting words = (steps : ℕ) × IsPrefix words (ideal setting steps).words

abbrev pub IdealEvents : Setting → List Event → Type 0
IdealEvents setting events = (steps : ℕ) × IsPrefix events (ideal setting steps).events

-- both sides have ended as the ideal run does, and all its words and events are there
pub record AsIdeal (setting : Setting) (lead trail : ThreadEnd) (words : List ℕ) (events : List Event) : Type 0 where
  pub end : SourceEnd
  pub lead_end : lead ≡ end_as end
  pub trail_end : trail ≡ end_as end
  pub whole : IsIdeal setting words events end

-- the side has not ended, and its next step is possible
pub record CanGo (program : SharedProgram) (upsets : Upsets) (side : Side) (duo : DuoState) : Type 0 where
  pub goes_on : (end : ThreadEnd) → (view_of side duo).at ≢ Ended end
  pub goes : (turn_of program upsets side None duo).stepped ≢ NotYet

-- a history as the core shows it: as it is, or just before its next step, for which the side may wait
abbrev pub IsNow : List Upset → ℕ → Past → Past → Type 0
IsNow upsets steps past now = (now ≡ past) ⊎ (now ≡ ready upsets (steps + 1) past)

-- what was sent and not yet taken is on the way, unless the other side has ended and it was dropped
abbrev pub IsOnWay : Outcome → List ℕ → List ℕ → List ℕ → Type 0
IsOnWay (Went s) sent took way = sent ≡ took ++ way
IsOnWay (Ended end) sent took way = IsPrefix (took ++ way) sent

-- the state is a fit at its own two counts
pub record IsFitState (setting : Setting) (upsets : Upsets) (duo : DuoState) (events : List Event) : Type 0 where
  pub fit : Fit setting upsets duo.lead_steps duo.trail_steps
  pub lead : Past
  pub trail : Past
  pub lead_now : IsNow (upsets_of Lead upsets) duo.lead_steps fit.lead lead
  pub trail_now : IsNow (upsets_of Trail upsets) duo.trail_steps fit.trail trail
  pub lead_at : duo.lead ≡ lead.at
  pub trail_at : duo.trail ≡ trail.at
  pub world : duo.world ≡ fit.lead.world
  pub applied : duo.applied ≡ (lead.applied || trail.applied)
  pub written : events ≡ fit.lead.events
  pub words_sent : duo.words_sent ≡ length fit.lead.sent
  pub acks_sent : duo.acks_sent ≡ length fit.trail.sent
  pub words : IsOnWay duo.trail fit.lead.sent fit.trail.took duo.words
  pub acks : IsOnWay duo.lead fit.trail.sent fit.lead.took duo.acks

-- what was sent and what was written comes first in the ideal run, and neither side has found a
-- difference; a word that was sent is never dropped
pub record FollowsIdealRun (setting : Setting) (duo : DuoState) (lead trail : Past)
    (events : List Event) : Type 0 where
  pub ideal_words : IdealWords setting lead.sent
  pub ideal_events : IdealEvents setting events
  pub lead_clean : IsClean duo.lead
  pub trail_clean : IsClean duo.trail
  pub words : lead.sent ≡ trail.took ++ duo.words
  pub acks : trail.sent ≡ lead.took ++ duo.acks

-- where both sides have ended and there was no upset, an event has failed, or the ends are equal and
-- the ideal run's; and the core never stands still
pub record EndsWell (setting : Setting) (upsets : Upsets) (duo : DuoState) (words : List ℕ)
    (events : List Event) : Type 0 where
  pub ends : IsNone upsets → (lead trail : ThreadEnd) → duo.lead ≡ Ended lead → duo.trail ≡ Ended trail →
      (lead ≡ WriteFault) ⊎ AsIdeal setting lead trail words events
  pub goes : CanGo setting.program upsets Lead duo ⊎ CanGo setting.program upsets Trail duo ⊎ (IsOver duo.lead × IsOver duo.trail)

-- what holds of a state that a schedule leads to: it is a fit, it follows the ideal run where there is
-- no upset, and its ends are right
pub record Sound (setting : Setting) (upsets : Upsets) (duo : DuoState) (events : List Event) : Type 0 where
  pub fits : IsFitState setting upsets duo events
  pub follows : IsNone upsets → FollowsIdealRun setting duo fits.fit.lead fits.fit.trail events
  pub ends_well : EndsWell setting upsets duo fits.fit.lead.sent events

-- the outlet fails in no event of the schedule
abbrev pub NoneFails : List Entry → Type 0
NoneFails [] = Unit {0}
NoneFails (entry ∷ entries) = (entry.fails ≡ None) × NoneFails entries

-- what holds of whatever a schedule without upset leads to
abbrev pub OverSchedules : (Setting → Scheduled → Type 0) → Type 0
OverSchedules Holds =
    (setting : Setting) (entries : List Entry) → HasSites setting.program →
    Holds setting (scheduled setting no_upsets entries)
