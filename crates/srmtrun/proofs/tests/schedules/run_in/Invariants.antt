use Rattle.std.proofs.Common.{◌*◌, ◌≤◌}
use Rattle.pair_core.specs.Turns.{DuoFits}
use Rattle.srmtrun.proofs.tests.schedules.run_in.Given as goal

abbrev pub invariant-loop-number : goal.invariant-loop-number
invariant-loop-number l =
    DuoFits l.pair l.duo × (l.duo.lead_steps ≤ l.number) × (l.duo.trail_steps ≤ l.number) × (l.duo.words_sent ≤ 18 * l.number) × (l.duo.acks_sent ≤ 18 * l.number)
