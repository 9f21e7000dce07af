-- What the link of one step shows.
use Rattle.std.specs.Prelude.{ℕ, Bool, true, false, List, [], take}
use Rattle.machine.specs.declared.link_call.Taken.{Taken}
use Rattle.machine.specs.declared.link_call.Taken.TheVariants.{Word, NotYet, Closed}
use Rattle.machine.specs.declared.link_call.LastCall.{LastCall}
use Rattle.machine.specs.declared.link_call.LastCall.TheVariants.{Nothing}
use Rattle.machine.specs.declared.one_step.OneStep.{OneStep}
use Rattle.machine.specs.Origin.{Origin, Given, word_taken}
use Rattle.machine.specs.Link.{Shown}

-- the arguments of its `new`
abbrev pub made_of : OneStep → Origin
made_of step = Given step.give step.began step.gone

-- the words that were sent
abbrev pub sent_of : OneStep → List ℕ
sent_of step = take step.count step.row

-- what was taken: what it may give, once it was
abbrev pub taken_by : Bool → Taken → List ℕ
taken_by true give = word_taken give
taken_by false give = []

abbrev pub taken_of : OneStep → List ℕ
taken_of step = taken_by step.was_taken step.give

-- how many more words it has room for, and whether the other side is gone
abbrev pub spare_of : OneStep → ℕ
spare_of step = step.spare

abbrev pub gone_of : OneStep → Bool
gone_of step = step.gone

-- how many calls of `room` and `take` there were, and the latest of them
abbrev pub asks_of : OneStep → ℕ
asks_of step = step.asks

abbrev pub last_of : OneStep → LastCall
last_of step = step.last

abbrev pub shown_of : OneStep → Shown
shown_of step = record {
  made = made_of step;
  sent = sent_of step;
  dropped = step.dropped;
  taken = taken_of step;
  spare = spare_of step;
  gone = gone_of step;
  asks = asks_of step;
  last = last_of step;
}

-- what it shows where nothing was asked of it and nothing sent
abbrev pub unasked : Taken → ℕ → Bool → Shown
unasked give spare gone = record {
  made = Given give spare gone;
  sent = [];
  dropped = 0;
  taken = [];
  spare = spare;
  gone = gone;
  asks = 0;
  last = Nothing;
}

-- what a link answers that was taken from already: a word is given once, and what is no word again
abbrev pub later_answer : Taken → Taken
later_answer (Word word) = NotYet
later_answer NotYet = NotYet
later_answer Closed = Closed

-- what the next call of `take` answers
abbrev pub answer_by : Bool → Taken → Taken
answer_by true give = later_answer give
answer_by false give = give

abbrev pub next_answer : OneStep → Taken
next_answer step = answer_by step.was_taken step.give
