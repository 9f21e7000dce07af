-- The fields of the core as its state. Nothing in the code replaces a value.
use Rattle.std.specs.Prelude.{false}
use Rattle.pair_core.specs.declared.duo.Duo.TheInside.{Inside}
use Rattle.pair_core.specs.Duo.{DuoState}
use Rattle.pair_core.specs.Turns.{outcome_by}

abbrev pub duo_of : Inside → DuoState
duo_of a = record {
  lead = outcome_by a.lead_over a.lead;
  trail = outcome_by a.trail_over a.trail;
  world = a.world;
  words = a.words;
  acks = a.acks;
  lead_steps = a.lead_steps;
  trail_steps = a.trail_steps;
  words_sent = a.words_sent;
  acks_sent = a.acks_sent;
  applied = false;
}
