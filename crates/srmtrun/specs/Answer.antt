-- What a run is answered as.
use Rattle.std.specs.Prelude.{ℕ, Result, Ok, Err}
use Rattle.srmt_base.specs.declared.trap.SourceEnd.{SourceEnd}
use Rattle.srmt_outside.specs.Count.{next_count}
use Rattle.verdicts.specs.declared.verdict.Ran.{Ran}
use Rattle.pair_core.specs.Faults.{faults_told}
use Rattle.answers.specs.declared.answer.RunAnswer.{RunAnswer}
use Rattle.answers.specs.declared.answer.RunAnswer.TheVariants.{Alone, Ran as RanBoth, Checked, Help, Version, Usage, ReadFault, TooLong, Refused, WriteFault, OutOfMemory}

-- a run that ended is answered by its end
abbrev pub answer_from : Result SourceEnd RunAnswer → RunAnswer
answer_from (Ok end) = Alone end
answer_from (Err answer) = answer

abbrev pub both_from : Result Ran RunAnswer → RunAnswer
both_from (Ok ran) = RanBoth ran
both_from (Err answer) = answer

abbrev pub check_from : {A : Type 0} → Result A RunAnswer → RunAnswer
check_from (Ok program) = Checked
check_from (Err answer) = answer

-- an answer that the words alone decide: no file is asked for
abbrev pub IsOfWords : RunAnswer → Type 0
IsOfWords Help = Unit {0}
IsOfWords Version = Unit {0}
IsOfWords Usage = Unit {0}
IsOfWords (Alone end) = ⊥
IsOfWords Checked = ⊥
IsOfWords (RanBoth ran) = ⊥
IsOfWords ReadFault = ⊥
IsOfWords TooLong = ⊥
IsOfWords (Refused refusal) = ⊥
IsOfWords WriteFault = ⊥
IsOfWords OutOfMemory = ⊥

-- the outlet's count of faults after a run, by its answer: one more where that tells that an event failed, and else as
-- it was
abbrev pub write_faults_after : RunAnswer → ℕ → ℕ
write_faults_after (Alone end) faults = faults
write_faults_after (RanBoth ran) faults = faults_told ran.verdict faults
write_faults_after Checked faults = faults
write_faults_after WriteFault faults = next_count faults
write_faults_after ReadFault faults = faults
write_faults_after TooLong faults = faults
write_faults_after (Refused refusal) faults = faults
write_faults_after OutOfMemory faults = faults
write_faults_after Usage faults = faults
write_faults_after Help faults = faults
write_faults_after Version faults = faults
