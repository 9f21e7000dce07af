-- Two histories that fit together: each side has taken first what the other sent first.
use Rattle.std.specs.Prelude.{◌≡◌, ℕ, List, ◌++◌}
use Rattle.srmt_base.specs.declared.side.Side.TheVariants.{Lead, Trail}
use Rattle.world.specs.World.{Setting}
use Rattle.verdicts.specs.declared.thread_end.ThreadEnd.{ThreadEnd}
use Rattle.verdicts.specs.declared.thread_end.ThreadEnd.TheVariants.{PeerEnded}
use Rattle.machine.specs.Side.{Outcome, Ended}
use Rattle.machine.specs.Upset.{Upsets}
use Rattle.pair_core.specs.History.{Past, HasPast}

-- a list begins with another
abbrev pub IsPrefix : {A : Type 0} → List A → List A → Type 0
IsPrefix {A} xs ys = (rest : List A) × (ys ≡ xs ++ rest)

-- a side has ended
abbrev pub IsOver : Outcome → Type 0
IsOver at = (end : ThreadEnd) × (at ≡ Ended end)

-- the leading side after n counted steps and the trailing side after m. No order of their steps, no
-- batch and no index occurs here
pub record Fit (setting : Setting) (upsets : Upsets) (n m : ℕ) : Type 0 where
  pub lead : Past
  pub trail : Past
  pub lead_past : HasPast setting upsets Lead n lead
  pub trail_past : HasPast setting upsets Trail m trail
  pub words : IsPrefix trail.took lead.sent
  pub acks : IsPrefix lead.took trail.sent
  -- a side that found its link closed has taken all that the other sent, and the other has ended
  pub lead_closed : lead.at ≡ Ended PeerEnded → (lead.took ≡ trail.sent) × IsOver trail.at
  pub trail_closed : trail.at ≡ Ended PeerEnded → (trail.took ≡ lead.sent) × IsOver lead.at

-- a fit in which both sides have ended
pub record EndedFit (setting : Setting) (upsets : Upsets) (n m : ℕ) : Type 0 where
  pub fit : Fit setting upsets n m
  pub lead_end : ThreadEnd
  pub trail_end : ThreadEnd
  pub lead_over : fit.lead.at ≡ Ended lead_end
  pub trail_over : fit.trail.at ≡ Ended trail_end
