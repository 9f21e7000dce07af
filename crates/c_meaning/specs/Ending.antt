-- What the outlet is told of a step, how the run goes on, and how it ends.
use Rattle.std.specs.Prelude.{◌≡◌, ℕ, suc, ◌%◌, ◌<◌, ◌≤◌, ⊤, List, [], ◌∷◌, ◌++◌, Option, Some, None, Result, Ok, Err}
use Rattle.srmt_base.specs.declared.event.Event.{Event}
use Rattle.srmt_base.specs.declared.event.Event.TheVariants.{Exit as ExitEvent}
use Rattle.srmt_base.specs.declared.trap.SourceEnd.{SourceEnd}
use Rattle.srmt_base.specs.declared.trap.SourceEnd.TheVariants.{Exit as ExitEnd, Trap as TrapEnd}
use Rattle.srmt_outside.specs.Count.{next_count}
use Rattle.srmt_outside.specs.Told.{Appends}
use Rattle.c_typed.specs.declared.program.TypedProgram.{TypedProgram}
use Rattle.source_meaning.specs.World.{Outcome, Gives, Ends}
use Rattle.c_meaning.specs.declared.running.Next.{Next}
use Rattle.c_meaning.specs.declared.running.Next.TheVariants as next
use Rattle.c_meaning.specs.declared.fault.MeaningFault.{MeaningFault}
use Rattle.c_meaning.specs.declared.fault.MeaningFault.TheVariants.{Write, Memory}
use Rattle.c_meaning.specs.declared.run.Did.{Did}
use Rattle.c_meaning.specs.declared.run.Did.TheVariants as did
use Rattle.c_meaning.specs.declared.run.Run.{Run}
use Rattle.c_meaning.specs.Entering.{called}
use Rattle.c_meaning.specs.Runs.{rest_of, world_of, turns_of, work_left}

abbrev pub events_of : Did → List Event
events_of did.Went = []
events_of did.Turned = []
events_of (did.Told event) = event ∷ []
events_of (did.Trapped t) = []
events_of (did.Exited v) = ExitEvent (v % 256) ∷ []

abbrev pub next_of : Did → Next
next_of did.Went = next.Goes
next_of did.Turned = next.Turns
next_of (did.Told event) = next.Goes
next_of (did.Trapped t) = next.Ends (TrapEnd t.trap t.line)
next_of (did.Exited v) = next.Ends (ExitEnd (v % 256))

-- the count of faults rises with a write fault, and is else as it was
abbrev pub Faulted : {A : Type 0} → Result A MeaningFault → ℕ → ℕ → Type 0
Faulted (Ok a) before after = after ≡ before
Faulted (Err Memory) before after = after ≡ before
Faulted (Err Write) before after = after ≡ next_count before

-- what is still to come, with a bound, where these events were before
abbrev pub Rest : Type 0
Rest = ℕ → List Event → Outcome ⊥

abbrev pub rest_from : TypedProgram → Run → Rest
rest_from p run bound es = rest_of p bound run es

-- what is still to come where `main` is called
abbrev pub call_of_main : TypedProgram → ℕ → Run → Rest
call_of_main p number run bound es = called p 0 number [] run bound (world_of run.world es)

-- these events come next, and then the rest of a run
abbrev pub GoesOn : TypedProgram → Rest → ℕ → Run → List Event → Type 0
GoesOn p before turns new told = (bound : ℕ) → turns ≤ bound → (es : List Event) → before bound es ≡ rest_of p bound new (es ++ told)

-- these events come next, and then this end
abbrev pub EndsSo : Rest → ℕ → SourceEnd → List Event → Type 0
EndsSo before turns end told = (bound : ℕ) → turns ≤ bound → (es : List Event) → before bound es ≡ Ends end (es ++ told)

abbrev pub events_in : Outcome ⊥ → List Event
events_in (Gives nothing w) = []
events_in (Ends end es) = es

abbrev pub IsFirstOf : List Event → List Event → Type 0
IsFirstOf es fs = (more : List Event) × (fs ≡ es ++ more)

-- these events come next, and others may follow
abbrev pub BeginsSo : Rest → ℕ → List Event → Type 0
BeginsSo before turns told = (bound : ℕ) → turns ≤ bound → (es : List Event) → IsFirstOf (es ++ told) (events_in (before bound es))

abbrev pub RestIs : TypedProgram → Rest → ℕ → Run → List Event → Next → Type 0
RestIs p before turns new told next.Goes = GoesOn p before turns new told
RestIs p before turns new told next.Turns = GoesOn p before turns new told
RestIs p before turns new told (next.Ends end) = EndsSo before turns end told

-- less work is left of so much, or a turn less of so many
abbrev pub LessIs : TypedProgram → (work turns : ℕ) → Run → Next → Type 0
LessIs p work turns new next.Goes = (turns_of new.world.budgets ≡ turns) × (work_left p new < work)
LessIs p work turns new next.Turns = suc (turns_of new.world.budgets) ≡ turns
LessIs p work turns new (next.Ends end) = ⊤

-- the outlet was told what comes next
pub record Came (p : TypedProgram) (before : Rest) (work turns : ℕ) (new : Run) (shown shown_after : Option (List Event)) (n : Next) : Type 0 where
  pub told : List Event
  pub appends : Appends shown shown_after told
  pub rest : RestIs p before turns new told n
  pub less : LessIs p work turns new n

-- it was told all to the end, or to the next turn
abbrev pub EndIs : TypedProgram → Rest → ℕ → Run → List Event → Option SourceEnd → Type 0
EndIs p before turns new told None = GoesOn p before turns new told × (suc (turns_of new.world.budgets) ≡ turns)
EndIs p before turns new told (Some end) = EndsSo before turns end told

pub record Reached (p : TypedProgram) (before : Rest) (turns : ℕ) (new : Run) (shown shown_after : Option (List Event)) (end : Option SourceEnd) : Type 0 where
  pub told : List Event
  pub appends : Appends shown shown_after told
  pub rest : EndIs p before turns new told end

pub record Ended (before : Rest) (turns : ℕ) (shown shown_after : Option (List Event)) (end : SourceEnd) : Type 0 where
  pub told : List Event
  pub appends : Appends shown shown_after told
  pub rest : EndsSo before turns end told

-- it was told the first of it
pub record Stopped (before : Rest) (turns : ℕ) (shown shown_after : Option (List Event)) : Type 0 where
  pub told : List Event
  pub appends : Appends shown shown_after told
  pub first : BeginsSo before turns told
