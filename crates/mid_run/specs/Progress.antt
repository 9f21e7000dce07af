-- What a run on one thread has come to.
use Rattle.std.specs.Prelude.{◌≡◌, List, [], Option, Some, None}
use Rattle.srmt_base.specs.declared.event.Event.{Event}
use Rattle.srmt_base.specs.declared.trap.SourceEnd.{SourceEnd}
use Rattle.mid_code.specs.declared.program.MidProgram.{MidProgram}
use Rattle.mid_code.specs.Fits.{Fits}
use Rattle.mid_code.specs.Meaning.{State, On, Ends, step, Comes, Finishes}
use Rattle.srmt_outside.specs.Told.{Appends}
use Rattle.frames.specs.Reaching.{GivesEvent}

-- it goes on from a state, or has ended
pub data Progress : Type 0 where
  At : (state : State) → Progress
  Over : (end : SourceEnd) → Progress

abbrev pub end_of : Progress → Option SourceEnd
end_of (At s) = None
end_of (Over end) = Some end

-- the run stands within the program
abbrev pub FitsIn : MidProgram → Progress → Type 0
FitsIn program (At s) = Fits program s
FitsIn program (Over end) = Unit {0}

-- one step leads from the one to the other, with these events; after an end nothing changes
abbrev pub Steps : MidProgram → Progress → List Event → Progress → Type 0
Steps program (At s) events (At next) = step program s ≡ On next events
Steps program (At s) events (Over end) = step program s ≡ Ends end events
Steps program (Over end) events (At next) = ⊥
Steps program (Over end) events (Over again) = (again ≡ end) × (events ≡ [])

-- a step was made, and the outlet was told its events
abbrev pub IsStep : MidProgram → Progress → Progress → Option (List Event) → Option (List Event) → Type 0
IsStep program p q before after = (events : List Event) × Steps program p events q × Appends before after events

-- any number of steps leads from the one to the other, with these events in all
abbrev pub Runs : MidProgram → Progress → List Event → Progress → Type 0
Runs program (At s) events (At next) = Comes program s events next
Runs program (At s) events (Over end) = Finishes program s events end
Runs program (Over end) events (At next) = ⊥
Runs program (Over end) events (Over again) = (again ≡ end) × (events ≡ [])

-- it stands before an instruction that gives an event
abbrev pub IsBeforeEvent : MidProgram → Progress → Type 0
IsBeforeEvent program (At s) = GivesEvent (step program s)
IsBeforeEvent program (Over end) = ⊥
