-- A call of one thread, from the words of the command to the events.
use Rattle.std.specs.Prelude.{◌≡◌, ℕ, ◌≤◌, ◌⊎◌, List, [], ◌∷◌, length, Option, unwrap_or, IfSome}
use Rattle.srmt_base.specs.declared.event.Event.{Event}
use Rattle.srmt_base.specs.declared.trap.SourceEnd.{SourceEnd}
use Rattle.srmt_base.specs.declared.limits.Limits.{Limits}
use Rattle.mid_code.specs.declared.program.MidProgram.{MidProgram}
use Rattle.srmt_outside.specs.Told.{Appends, AppendsPrefix}
use Rattle.verdicts.specs.declared.verdict.Ran.{Ran}
use Rattle.verdicts.specs.declared.verdict.Verdict.TheVariants.{WriteFault as FaultVerdict}
use Rattle.mid_code.specs.Closed.{everything_shared}
use Rattle.machine.specs.Upset.{no_upsets}
use Rattle.world.specs.World.{Setting, setting_of}
use Rattle.pair_core.specs.Answer.{IsAnswer, verdict_as}
use Rattle.answers.specs.declared.answer.RunAnswer.{RunAnswer}
use Rattle.answers.specs.declared.answer.RunAnswer.TheVariants.{Alone, Ran as RanBoth, Checked, Help, Version, Usage, ReadFault, TooLong, Refused, WriteFault, OutOfMemory}
use Rattle.answers.specs.declared.answer.CompileRefusal.{CompileRefusal}
use Rattle.answers.specs.declared.answer.CompileRefusal.TheVariants.{Form}
use Rattle.c_typed.specs.Statements.{Program}
use Rattle.c_front.specs.Front.{TypesFiles, RefusesFiles}
use Rattle.source_meaning.specs.Start.{Behaviour, means}
use Rattle.first_form.specs.declared.source.FirstForm.{FirstForm}
use Rattle.srmtrun.specs.declared.still.TheConstants.{LIMITS}
use Rattle.srmtrun.specs.declared.words.Mode.{Mode}
use Rattle.srmtrun.specs.declared.words.Mode.TheVariants.{Single, Alternate, Reference, Check}
use Rattle.first_form.specs.FirstForm.{IsFirstForm}
use Rattle.first_form.specs.Lowered.{program_of}
use Rattle.first_form.specs.Meaning.{events_of, end_of}
use Rattle.srmtrun.specs.Words.{Command, Takes}
use Rattle.srmtrun.specs.Reads.{Contents, Wanted, names_of, PassesLimit, ReadsAll, StopsAt, IsInput, AreRead}

-- the words are taken, and this holds of the command
pub record Names (words : List (List ℕ)) (P : Command → Type 0) : Type 0 where
  pub command : Command
  pub taken : Takes words command
  pub holds : P command

-- ---- a source of the first form that is run

-- a file that is a source of this form, with these contents where they are told
pub record IsSource (told : Option (List ℕ)) (form : FirstForm) : Type 0 where
  pub bytes : List ℕ
  pub told_bytes : IfSome told (λ t. t ≡ bytes)
  pub within : length bytes ≤ 1048576
  pub is_form : IsFirstForm bytes form

-- the contents, where they are told, are within the limit and of no form
abbrev pub IsNoSource : Option (List ℕ) → Type 0
IsNoSource told = IfSome told (λ bytes. (length bytes ≤ 1048576) × ((form : FirstForm) → IsFirstForm bytes form → ⊥))

-- the file is a source of some form, and these are all its events and its end
abbrev pub RunsToEnd : Option (List ℕ) → Option (List Event) → Option (List Event) → SourceEnd → Type 0
RunsToEnd told before after end = (form : FirstForm) × IsSource told form × (end ≡ end_of form) × Appends before after (events_of form)

-- the file is a source of some form, and these are its first events
abbrev pub StopsWriting : Option (List ℕ) → Option (List Event) → Option (List Event) → Type 0
StopsWriting told before after = (form : FirstForm) × IsSource told form × AppendsPrefix before after (events_of form)

-- the run of a program without input, all of which is shared
abbrev pub run_of : MidProgram → Limits → Setting
run_of program limits = setting_of (everything_shared program) [] limits

-- what a run of both sides gives on a source of this form: an answer of the pair's runs over the
-- events that were written, which are all those of the source, with its end, unless one failed
pub record RunsBoth (form : FirstForm) (before after : Option (List Event)) (write_failed : Type 0) (ran : Ran) : Type 0 where
  pub events : List Event
  pub written : Appends before after events
  pub answer : IsAnswer (run_of (program_of form) LIMITS) no_upsets events ran
  pub outcome : ((ran.verdict ≡ FaultVerdict) × write_failed × AppendsPrefix before after (events_of form))
      ⊎ ((events ≡ events_of form) × (ran.verdict ≡ verdict_as (end_of form)))

-- the file is a source of some form, and both sides of its pair ran so
abbrev pub RanOnSource : Option (List ℕ) → Option (List Event) → Option (List Event) → Type 0 → Ran → Type 0
RanOnSource told before after write_failed ran = (form : FirstForm) × IsSource told form × RunsBoth form before after write_failed ran

-- What an answer says of a program that is told and of this form, in a mode that runs it. Each but Alone and
-- Ran names its cause.
abbrev pub AnswersForm : Mode → FirstForm → Option (List Event) → Option (List Event) → Type 0 → Type 0 → RunAnswer → Type 0
AnswersForm mode form before after read_failed write_failed (Alone end) = (mode ≡ Single) × (end ≡ end_of form) × Appends before after (events_of form)
AnswersForm mode form before after read_failed write_failed (RanBoth ran) = (mode ≡ Alternate) × RunsBoth form before after write_failed ran
AnswersForm mode form before after read_failed write_failed WriteFault = (mode ≡ Single) × write_failed × AppendsPrefix before after (events_of form)
AnswersForm mode form before after read_failed write_failed ReadFault = read_failed × (after ≡ before)
AnswersForm mode form before after read_failed write_failed OutOfMemory = after ≡ before
AnswersForm mode form before after read_failed write_failed Checked = ⊥
AnswersForm mode form before after read_failed write_failed Usage = ⊥
AnswersForm mode form before after read_failed write_failed Help = ⊥
AnswersForm mode form before after read_failed write_failed Version = ⊥
AnswersForm mode form before after read_failed write_failed TooLong = ⊥
AnswersForm mode form before after read_failed write_failed (Refused cause) = ⊥

-- ---- a program that is run by its meaning

-- the limits of a run, with so many turns where they are given
abbrev pub limits_with : Option ℕ → Limits
limits_with turns = record { turns = unwrap_or turns 100000000; depth = 1000; cells = 1048576 }

abbrev pub limits_of : Command → Limits
limits_of command = limits_with command.turns

-- the files of a command, with these bytes where they are told, have a typed program, and this is what it means
pub record IsMeaning (contents : Contents) (command : Command) (meaning : Behaviour) : Type 0 where
  pub main : List ℕ
  pub binary : Option (List ℕ)
  pub input : List ℕ
  pub program : Program
  pub sources_read : AreRead contents command main binary
  pub input_read : IsInput contents command.input input
  pub typed : TypesFiles main binary program
  pub same : meaning ≡ means program input (limits_of command)

-- these are all events of such a program, and its end
abbrev pub MeansToEnd : Contents → Command → Option (List Event) → Option (List Event) → SourceEnd → Type 0
MeansToEnd contents command before after end =
    (meaning : Behaviour) × IsMeaning contents command meaning × (end ≡ meaning.end) × Appends before after meaning.events

-- these are its first events
abbrev pub StopsMeaning : Contents → Command → Option (List Event) → Option (List Event) → Type 0
StopsMeaning contents command before after = (meaning : Behaviour) × IsMeaning contents command meaning × AppendsPrefix before after meaning.events

-- What an answer says of a program that is told and means this. Each but Alone names its cause.
abbrev pub AnswersMeaning : Behaviour → Option (List Event) → Option (List Event) → Type 0 → Type 0 → RunAnswer → Type 0
AnswersMeaning meaning before after read_failed write_failed (Alone end) = (end ≡ meaning.end) × Appends before after meaning.events
AnswersMeaning meaning before after read_failed write_failed WriteFault = write_failed × AppendsPrefix before after meaning.events
AnswersMeaning meaning before after read_failed write_failed OutOfMemory = AppendsPrefix before after meaning.events
AnswersMeaning meaning before after read_failed write_failed ReadFault = read_failed × (after ≡ before)
AnswersMeaning meaning before after read_failed write_failed (RanBoth ran) = ⊥
AnswersMeaning meaning before after read_failed write_failed Checked = ⊥
AnswersMeaning meaning before after read_failed write_failed Usage = ⊥
AnswersMeaning meaning before after read_failed write_failed Help = ⊥
AnswersMeaning meaning before after read_failed write_failed Version = ⊥
AnswersMeaning meaning before after read_failed write_failed TooLong = ⊥
AnswersMeaning meaning before after read_failed write_failed (Refused cause) = ⊥

-- ---- a program that is checked

-- the sources of a command, with these bytes where they are told, have a typed program
abbrev pub HasTyping : Contents → Command → Type 0
HasTyping contents command =
    (main : List ℕ) × (binary : Option (List ℕ)) × AreRead contents command main binary × ((program : Program) × TypesFiles main binary program)

-- the first refusal that a layer has of them
abbrev pub HasRefusal : Contents → Command → CompileRefusal → Type 0
HasRefusal contents command cause = (main : List ℕ) × (binary : Option (List ℕ)) × AreRead contents command main binary × RefusesFiles main binary cause

-- what is answered to a program that is checked, or that is refused: this, unless a file was not read or memory ran out
abbrev pub AnswersCheck : RunAnswer → Type 0 → RunAnswer → Type 0
AnswersCheck expected read_failed answer = (answer ≡ expected) ⊎ ((answer ≡ ReadFault) × read_failed) ⊎ (answer ≡ OutOfMemory)

-- ---- in every mode

-- how a program has ended on one thread
abbrev pub EndsAlone : Mode → Contents → Command → Option (List Event) → Option (List Event) → SourceEnd → Type 0
EndsAlone Single contents command before after end = RunsToEnd (contents command.program) before after end
EndsAlone Reference contents command before after end = MeansToEnd contents command before after end
EndsAlone Alternate contents command before after end = ⊥
EndsAlone Check contents command before after end = ⊥

-- what was written on one thread until an event failed
abbrev pub FailsWriting : Mode → Contents → Command → Option (List Event) → Option (List Event) → Type 0
FailsWriting Single contents command before after = StopsWriting (contents command.program) before after
FailsWriting Reference contents command before after = StopsMeaning contents command before after
FailsWriting Alternate contents command before after = ⊥
FailsWriting Check contents command before after = ⊥

-- what was written until memory ran out: nothing, unless a program was run by its meaning
abbrev pub LacksMemory : Mode → Contents → Command → Option (List Event) → Option (List Event) → Type 0
LacksMemory Single contents command before after = after ≡ before
LacksMemory Alternate contents command before after = after ≡ before
LacksMemory Check contents command before after = after ≡ before
LacksMemory Reference contents command before after = (after ≡ before) ⊎ StopsMeaning contents command before after

-- what a refusal says of a command's files
abbrev pub RefusedAs : Mode → Contents → Command → CompileRefusal → Type 0
RefusedAs Check contents command cause = HasRefusal contents command cause
RefusedAs Reference contents command cause = HasRefusal contents command cause
RefusedAs Single contents command cause = (cause ≡ Form) × IsNoSource (contents command.program)
RefusedAs Alternate contents command cause = (cause ≡ Form) × IsNoSource (contents command.program)

-- which names are asked for, by the answer: all where the files were read, or those up to the file that is concerned
abbrev pub AsksFor : Contents → Option (List (List ℕ)) → Option (List (List ℕ)) → List Wanted → RunAnswer → Type 0
AsksFor contents before after files OutOfMemory = AppendsPrefix before after (names_of files)
AsksFor contents before after files ReadFault = StopsAt contents before after files (λ file. Unit {0})
AsksFor contents before after files TooLong = StopsAt contents before after files (PassesLimit contents)
AsksFor contents before after files (Alone end) = ReadsAll contents before after files
AsksFor contents before after files (RanBoth ran) = ReadsAll contents before after files
AsksFor contents before after files Checked = ReadsAll contents before after files
AsksFor contents before after files WriteFault = ReadsAll contents before after files
AsksFor contents before after files (Refused cause) = ReadsAll contents before after files
AsksFor contents before after files Help = ⊥
AsksFor contents before after files Version = ⊥
AsksFor contents before after files Usage = ⊥
