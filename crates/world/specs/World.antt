-- What the protected program shares with the outside.
use Rattle.std.specs.Prelude.{ℕ, ◌%◌, Bool, true, false, List, [], ◌∷◌}
use Rattle.srmt_base.specs.declared.event.Event.{Event}
use Rattle.srmt_base.specs.declared.event.Event.TheVariants.{Byte, Exit as ExitEvent}
use Rattle.srmt_base.specs.declared.limits.Limits.{Limits}
use Rattle.mid_code.specs.Classes.{SharedProgram}
use Rattle.word_stream.specs.declared.request.Request.{Request}
use Rattle.word_stream.specs.declared.request.Request.TheVariants.{Put, Exit}
use Rattle.word_stream.specs.declared.request.Response.{Response}
use Rattle.word_stream.specs.declared.request.Response.TheVariants.{Done}

-- what a world holds that answers requests
pub record Inside : Type 0 where
  -- the bytes of the input that are still to be read
  pub input : List ℕ

pub data WorldState : Type 0 where
  -- it answers requests
  Lives : (inside : Inside) → WorldState
  -- it answers no more: the run has ended, or a request failed
  Over : WorldState

abbrev pub is_live : WorldState → Bool
is_live (Lives inside) = true
is_live Over = false

-- what a run is of: a program with what is shared of it, its input and its limits
pub record Setting : Type 0 where
  pub program : SharedProgram
  pub input : List ℕ
  pub limits : Limits

abbrev pub setting_of : SharedProgram → List ℕ → Limits → Setting
setting_of program input limits = record { program = program; input = input; limits = limits }

-- the world in which a program starts
abbrev pub opened : Setting → WorldState
opened setting = Lives (record { input = setting.input })

-- what a request leads to: the world after it, the response, and the events that it gives
pub record Asked : Type 0 where
  pub world : WorldState
  pub response : Response
  pub events : List Event

-- one case for each request
abbrev pub ask_living : Inside → Request → Asked
-- the byte is written (C11 7.21.7.8: converted to unsigned char)
ask_living inside (Put site value) = record { world = Lives inside; response = Done; events = Byte (value % 256) ∷ [] }
-- the run ends (C11 7.22.4.4), and with it the world
ask_living inside (Exit site value) = record { world = Over; response = Done; events = ExitEvent (value % 256) ∷ [] }

-- a world that is over is not asked: nothing happens in it
unfoldable pub ask : WorldState → Request → Asked
ask (Lives inside) request = ask_living inside request
ask Over request = record { world = Over; response = Done; events = [] }
