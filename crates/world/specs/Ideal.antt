-- The ideal run: one run that asks the world at once whatever it wants. Nothing is compared and
-- nothing fails. Its words are those of its exchanges, in order.
use Rattle.std.specs.Prelude.{◌≡◌, ℕ, zero, suc, Bool, true, false, List, [], ◌++◌}
use Rattle.srmt_base.specs.declared.event.Event.{Event}
use Rattle.srmt_base.specs.declared.trap.SourceEnd.{SourceEnd}
use Rattle.srmt_base.specs.declared.trap.SourceEnd.TheVariants.{Trap as TrapEnd}
use Rattle.mid_code.specs.Classes.{SharedProgram}
use Rattle.word_stream.specs.declared.request.Request.{Request}
use Rattle.word_stream.specs.declared.request.Response.{Response}
use Rattle.word_stream.specs.Exchange.{is_guarded, checks_of, acks_of, response_words, exchange}
use Rattle.world.specs.World.{WorldState, Setting, Asked, ask, opened}
use Rattle.world.specs.Standing.{Standing, started_standing}
use Rattle.world.specs.Requests.{Wants, Runs, Dies, Requests, Lost, wants, Resumed, Back, Over, resume}

-- where the run is
pub data Place : Type 0 where
  -- before an instruction
  Here : (at : Standing) → Place
  -- the operands of the request were checked and the world has answered; the response is still to be
  -- taken
  Owed : (at : Standing) (response : Response) → Place
  -- the run has ended
  Ended : (end : SourceEnd) → Place

pub record IdealState : Type 0 where
  pub place : Place
  pub world : WorldState
  -- the words of all exchanges so far
  pub words : List ℕ
  -- the acknowledgements of all requests that wait for them
  pub echoes : List ℕ
  pub events : List Event

-- at the start `main` is entered and nothing was asked
abbrev pub ideal_opening : Setting → IdealState
ideal_opening setting = record {
  place = Here (started_standing setting.program.program setting.limits);
  world = opened setting;
  words = [];
  echoes = [];
  events = [];
}

abbrev pub place_by : Resumed → Place
place_by (Back at) = Here at
place_by (Over end) = Ended end

-- the words of the response that the request gets
abbrev pub words_owed : Wants → Response → List ℕ
words_owed (Runs next) response = []
words_owed (Dies words trap line) response = []
words_owed (Requests request) response = response_words request response
words_owed (Lost words) response = []

-- a request that waits for acknowledgements is answered in one step, and its response taken in the
-- next; any other is one step
abbrev pub requested : Bool → SharedProgram → Standing → Request → Asked → IdealState → IdealState
requested true program at request asked c = record {
  place = Owed at asked.response;
  world = asked.world;
  words = c.words ++ checks_of request;
  echoes = c.echoes ++ acks_of request;
  events = c.events ++ asked.events;
}
requested false program at request asked c = record {
  place = place_by (resume program at asked.response);
  world = asked.world;
  words = c.words ++ exchange request asked.response;
  echoes = c.echoes;
  events = c.events ++ asked.events;
}

abbrev pub here_next : Wants → SharedProgram → Standing → IdealState → IdealState
here_next (Runs next) program at c = record c { place = Here next }
here_next (Dies words trap line) program at c = record c { place = Ended (TrapEnd trap line); words = c.words ++ words }
here_next (Requests request) program at c = requested (is_guarded request) program at request (ask c.world request) c
here_next (Lost words) program at c = c

abbrev pub owed_next : SharedProgram → Standing → Response → IdealState → IdealState
owed_next program at response c = record c {
  place = place_by (resume program at response);
  words = c.words ++ words_owed (wants program at) response;
}

abbrev pub next_by : Place → SharedProgram → IdealState → IdealState
next_by (Here at) program c = here_next (wants program at) program at c
next_by (Owed at response) program c = owed_next program at response c
next_by (Ended end) program c = c

-- one step of the ideal run
abbrev pub ideal_next : SharedProgram → IdealState → IdealState
ideal_next program c = next_by c.place program c

-- the ideal run after so many steps
abbrev pub ideal : Setting → ℕ → IdealState
ideal setting zero = ideal_opening setting
ideal setting (suc before) = ideal_next setting.program (ideal setting before)

-- the ideal run ends so, with these words and these events in all
pub record IsIdeal (setting : Setting) (words : List ℕ) (events : List Event) (end : SourceEnd) : Type 0 where
  pub steps : ℕ
  pub ended : (ideal setting steps).place ≡ Ended end
  pub words_so : (ideal setting steps).words ≡ words
  pub events_so : (ideal setting steps).events ≡ events
