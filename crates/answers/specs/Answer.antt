-- The status of each answer.
use Rattle.std.specs.Prelude.{ℕ, Bool, true, false, if◌then◌else◌}
use Rattle.srmt_base.specs.declared.trap.SourceEnd.{SourceEnd}
use Rattle.srmt_base.specs.declared.trap.SourceEnd.TheVariants.{Exit, Trap}
use Rattle.srmt_base.specs.Trap.{is_budget}
use Rattle.srmt_outside.specs.declared.file_fault.FileFault.{FileFault}
use Rattle.srmt_outside.specs.declared.file_fault.FileFault.TheVariants.{Failed, TooLong as FileTooLong, Memory as NoMemory}
use Rattle.verdicts.specs.declared.verdict.Verdict.{Verdict}
use Rattle.verdicts.specs.declared.verdict.Verdict.TheVariants.{Exit as ExitVerdict, Undefined, Exhausted, Reported, WriteFault as FaultVerdict}
use Rattle.answers.specs.declared.answer.RunAnswer.{RunAnswer}
use Rattle.answers.specs.declared.answer.RunAnswer.TheVariants.{Alone, Ran as RanBoth, Checked, Help, Version, Usage, ReadFault, TooLong, Refused, WriteFault, OutOfMemory}

-- the status of a verdict
abbrev pub verdict_status : Verdict → ℕ
verdict_status (ExitVerdict status) = status
verdict_status (Undefined trap line) = 121
verdict_status (Exhausted trap line) = 122
verdict_status (Reported report) = 123
verdict_status FaultVerdict = 124

-- the status of an end on one thread
abbrev pub end_status : SourceEnd → ℕ
end_status (Exit status) = status
end_status (Trap trap line) = if is_budget trap then 122 else 121

-- the status with which the process ends, where all lines of the answer are written
abbrev pub status_of : RunAnswer → ℕ
status_of (Alone end) = end_status end
status_of (RanBoth ran) = verdict_status ran.verdict
status_of Checked = 0
status_of Help = 0
status_of Version = 0
status_of ReadFault = 124
status_of TooLong = 124
status_of WriteFault = 124
status_of OutOfMemory = 125
status_of Usage = 126
status_of (Refused cause) = 127

-- the status where a line could not be written is another one
abbrev pub final_status : Bool → RunAnswer → ℕ
final_status true answer = status_of answer
final_status false answer = 124

-- the answer tells that the program was not run; where memory ran out, it may have been
abbrev pub NeverRan : RunAnswer → Type 0
NeverRan (Alone end) = ⊥
NeverRan (RanBoth ran) = ⊥
NeverRan WriteFault = ⊥
NeverRan OutOfMemory = ⊥
NeverRan Checked = Unit {0}
NeverRan Help = Unit {0}
NeverRan Version = Unit {0}
NeverRan Usage = Unit {0}
NeverRan ReadFault = Unit {0}
NeverRan TooLong = Unit {0}
NeverRan (Refused cause) = Unit {0}

-- what is answered where a file is not read
abbrev pub unread : FileFault → RunAnswer
unread Failed = ReadFault
unread FileTooLong = TooLong
unread NoMemory = OutOfMemory
