-- Words of the contracts of private parts of a run in one thread.
use Rattle.std.specs.Prelude.{◌≡◌, ℕ, ◌≤◌, ◌⊎◌, List, [], Option, None}
use Rattle.srmt_base.specs.declared.event.Event.{Event}
use Rattle.srmt_base.specs.declared.limits.Limits.{Limits}
use Rattle.srmt_base.specs.declared.trap.SourceEnd.{SourceEnd}
use Rattle.srmt_outside.specs.Told.{Appends, AppendsPrefix}
use Rattle.mid_code.specs.declared.program.MidProgram.{MidProgram}
use Rattle.mid_code.specs.Meaning.{Middle}
use Rattle.verdicts.specs.declared.verdict.Ran.{Ran}
use Rattle.verdicts.specs.declared.verdict.Verdict.TheVariants.{WriteFault as FaultVerdict}
use Rattle.machine.specs.Upset.{no_upsets}
use Rattle.pair_core.specs.Answer.{IsAnswer, FollowsIdeal}
use Rattle.answers.specs.declared.answer.RunAnswer.{RunAnswer}
use Rattle.answers.specs.declared.answer.CompileRefusal.TheVariants.{Form}
use Rattle.answers.specs.declared.answer.RunAnswer.TheVariants.{Alone, Ran as RanBoth, Checked, Help, Version, Usage, ReadFault, TooLong, Refused, WriteFault, OutOfMemory}
use Rattle.srmtrun.specs.declared.words.Mode.{Mode}
use Rattle.srmtrun.specs.declared.words.Mode.TheVariants.{Alternate, Check}
use Rattle.first_form.specs.declared.source.FirstForm.{FirstForm}
use Rattle.first_form.specs.FirstForm.{IsFirstForm}
use Rattle.srmtrun.specs.Words.{Command}
use Rattle.srmtrun.specs.Reads.{Contents}
use Rattle.c_typed.specs.Statements.{Program}
use Rattle.c_front.specs.Front.{TypesFiles, RefusesFiles, IsRefusal}
use Rattle.source_meaning.specs.Start.{means}
use Rattle.srmtrun.specs.Still.{run_of, RanOnSource, HasTyping, RefusedAs, EndsAlone, FailsWriting, LacksMemory, AnswersMeaning}

-- What an answer says of the command, of its files and of the events, for each answer but those that the words alone
-- decide.
abbrev pub Serves : Command → Contents → Option (List Event) → Option (List Event) → Type 0 → Type 0 → RunAnswer → Type 0
Serves command contents before after read_failed write_failed (Alone end) = EndsAlone command.mode contents command before after end
Serves command contents before after read_failed write_failed (RanBoth ran) =
    (command.mode ≡ Alternate) × RanOnSource (contents command.program) before after write_failed ran
Serves command contents before after read_failed write_failed Checked = (command.mode ≡ Check) × HasTyping contents command × (after ≡ before)
Serves command contents before after read_failed write_failed WriteFault = write_failed × FailsWriting command.mode contents command before after
Serves command contents before after read_failed write_failed ReadFault = read_failed × (after ≡ before)
Serves command contents before after read_failed write_failed TooLong = after ≡ before
Serves command contents before after read_failed write_failed (Refused cause) = RefusedAs command.mode contents command cause × (after ≡ before)
Serves command contents before after read_failed write_failed OutOfMemory = LacksMemory command.mode contents command before after
Serves command contents before after read_failed write_failed Usage = ⊥
Serves command contents before after read_failed write_failed Help = ⊥
Serves command contents before after read_failed write_failed Version = ⊥

-- the same of a source that runs on one thread, or on both
abbrev pub Runs : Mode → List ℕ → Contents → Option (List Event) → Option (List Event) → Type 0 → Type 0 → RunAnswer → Type 0
Runs mode name contents before after read_failed write_failed answer =
    Serves (record { mode = mode; program = name; binary = None; input = None; turns = None }) contents before after read_failed write_failed answer

-- the limits of a run by the meaning
pub record AreLimits (limits : Limits) : Type 0 where
  pub turns : limits.turns ≤ 1000000000000
  pub depth : limits.depth ≡ 1000
  pub cells : limits.cells ≡ 1048576

-- what is answered to the bytes of sources that are run by their meaning: their first refusal, or what their program does
abbrev pub AnswersSources : List ℕ → Option (List ℕ) → List ℕ → Limits → Option (List Event) → Option (List Event) → Type 0 → RunAnswer → Type 0
AnswersSources main binary input limits before after write_failed answer =
    (IsRefusal (RefusesFiles main binary) answer × (after ≡ before))
    ⊎ ((program : Program) × TypesFiles main binary program × AnswersMeaning (means program input limits) before after ⊥ write_failed answer)

-- why a source has no program
abbrev pub StopsCompiling : List ℕ → RunAnswer → Type 0
StopsCompiling source (Refused cause) = (cause ≡ Form) × ((form : FirstForm) → IsFirstForm source form → ⊥)
StopsCompiling source OutOfMemory = Unit {0}
StopsCompiling source (Alone end) = ⊥
StopsCompiling source (RanBoth ran) = ⊥
StopsCompiling source Checked = ⊥
StopsCompiling source WriteFault = ⊥
StopsCompiling source ReadFault = ⊥
StopsCompiling source TooLong = ⊥
StopsCompiling source Usage = ⊥
StopsCompiling source Help = ⊥
StopsCompiling source Version = ⊥

-- why a valid program has not run to its end
abbrev pub StopsRun : MidProgram → Limits → Option (List Event) → Option (List Event) → Type 0 → RunAnswer → Type 0
StopsRun program limits before after write_failed WriteFault =
    write_failed × ((events : List Event) (end : SourceEnd) → Middle program [] limits events end → AppendsPrefix before after events)
StopsRun program limits before after write_failed OutOfMemory = after ≡ before
StopsRun program limits before after write_failed (Alone end) = ⊥
StopsRun program limits before after write_failed (RanBoth ran) = ⊥
StopsRun program limits before after write_failed Checked = ⊥
StopsRun program limits before after write_failed ReadFault = ⊥
StopsRun program limits before after write_failed TooLong = ⊥
StopsRun program limits before after write_failed (Refused cause) = ⊥
StopsRun program limits before after write_failed Usage = ⊥
StopsRun program limits before after write_failed Help = ⊥
StopsRun program limits before after write_failed Version = ⊥

-- what a run of both sides of a program gives, all of which is shared
pub record RanBySides (program : MidProgram) (limits : Limits) (before after : Option (List Event)) (write_failed : Type 0) (ran : Ran) : Type 0 where
  pub events : List Event
  pub written : Appends before after events
  pub answer : IsAnswer (run_of program limits) no_upsets events ran
  pub follows : FollowsIdeal (run_of program limits) events ran
  pub failed : ran.verdict ≡ FaultVerdict → write_failed
