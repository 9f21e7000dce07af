-- The answer of a run of both sides.
use Rattle.std.specs.Prelude.{◌≡◌, ℕ, ◌⊎◌, ◌||◌, List, length}
use Rattle.srmt_base.specs.declared.event.Event.{Event}
use Rattle.srmt_base.specs.declared.trap.SourceEnd.{SourceEnd}
use Rattle.srmt_base.specs.declared.trap.SourceEnd.TheVariants.{Exit as SourceExit, Trap as SourceTrap}
use Rattle.srmt_base.specs.Trap.{is_budget}
use Rattle.world.specs.World.{Setting}
use Rattle.world.specs.Ideal.{IsIdeal}
use Rattle.verdicts.specs.declared.thread_end.ThreadEnd.{ThreadEnd}
use Rattle.verdicts.specs.declared.verdict.Ran.{Ran}
use Rattle.verdicts.specs.declared.verdict.Verdict.{Verdict}
use Rattle.verdicts.specs.declared.verdict.Verdict.TheVariants.{Exit as ExitVerdict, WriteFault as FaultVerdict}
use Rattle.verdicts.specs.Verdict.{verdict_of_ends, stopped_by}
use Rattle.machine.specs.Upset.{Upsets}
use Rattle.pair_core.specs.Fit.{EndedFit}
use Rattle.pair_core.specs.Laws.{IdealEvents}
use Rattle.pair_core.specs.Duo.{DuoState}

-- some ended fit has these counts, these events, this verdict and so many words
pub record IsAnswer (setting : Setting) (upsets : Upsets) (events : List Event) (ran : Ran) : Type 0 where
  pub ended : EndedFit setting upsets ran.lead_steps ran.trail_steps
  pub written : ended.fit.lead.events ≡ events
  pub verdict : ran.verdict ≡ verdict_of_ends ended.lead_end ended.trail_end
  pub words : ran.words ≡ length ended.fit.lead.sent
  pub acks : ran.acks ≡ length ended.fit.trail.sent
  pub applied : ran.applied ≡ (ended.fit.lead.applied || ended.fit.trail.applied)

-- the verdict on two sides that have both ended as the source does
abbrev pub verdict_as : SourceEnd → Verdict
verdict_as (SourceExit status) = ExitVerdict status
verdict_as (SourceTrap trap line) = stopped_by (is_budget trap) trap line

-- the events come first in the ideal run, and where none failed they are all of them, with its end
pub record FollowsIdeal (setting : Setting) (events : List Event) (ran : Ran) : Type 0 where
  pub first : IdealEvents setting events
  pub whole : (ran.verdict ≡ FaultVerdict)
      ⊎ ((end : SourceEnd) × (words : List ℕ) × IsIdeal setting words events end × (ran.verdict ≡ verdict_as end))

-- what a state in which both sides have ended so is answered as
abbrev pub ran_of : ThreadEnd → ThreadEnd → DuoState → Ran
ran_of lead trail duo = record {
  verdict = verdict_of_ends lead trail;
  lead_steps = duo.lead_steps;
  trail_steps = duo.trail_steps;
  words = duo.words_sent;
  acks = duo.acks_sent;
  applied = duo.applied;
}
