-- The lines of each answer.
use Rattle.std.specs.Prelude.{ℕ, List, [], ◌∷◌, ◌++◌, map, codes, if◌then◌else◌}
use Rattle.std.specs.List.{flat_map}
use Rattle.srmt_base.specs.declared.trap.SourceEnd.{SourceEnd}
use Rattle.srmt_base.specs.declared.trap.SourceEnd.TheVariants.{Exit, Trap}
use Rattle.srmt_base.specs.declared.trap.Trap.{Trap as TrapName}
use Rattle.srmt_base.specs.Trap.{is_budget}
use Rattle.verdicts.specs.declared.verdict.Report.{Report}
use Rattle.verdicts.specs.declared.verdict.Report.TheVariants.{Mismatch, Echo, Parted}
use Rattle.verdicts.specs.declared.verdict.Verdict.{Verdict}
use Rattle.verdicts.specs.declared.verdict.Verdict.TheVariants.{Exit as ExitVerdict, Undefined, Exhausted, Reported, WriteFault as FaultVerdict}
use Rattle.answers.specs.declared.about.TheConstants.{HELP, VERSION}
use Rattle.answers.specs.declared.answer.CompileRefusal.{CompileRefusal}
use Rattle.answers.specs.declared.answer.RunAnswer.{RunAnswer}
use Rattle.answers.specs.declared.answer.RunAnswer.TheVariants.{Alone, Ran as RanBoth, Checked, Help, Version, Usage, ReadFault, TooLong, Refused, WriteFault, OutOfMemory}
use Rattle.answers.specs.Texts.{words_text, trap_text, end_text}
use Rattle.answers.specs.Refusals.{refusal_text}

-- how the two sides differ
abbrev pub report_text : Report → List ℕ
report_text (Mismatch taken own) = codes "mismatch: " ++ words_text taken own
report_text (Echo taken own) = codes "echo: " ++ words_text taken own
report_text (Parted lead trail) = codes "parted: lead " ++ end_text lead ++ codes ", trail " ++ end_text trail

-- the line of a program that came to undefined behaviour, and of one that used up a budget
abbrev pub undefined_line : TrapName → ℕ → List ℕ
undefined_line trap line = codes "srmtrun: undefined: " ++ trap_text trap line

abbrev pub exhausted_line : TrapName → ℕ → List ℕ
exhausted_line trap line = codes "srmtrun: exhausted: " ++ trap_text trap line

-- the line of a trap, by its name
abbrev pub stopped_line : TrapName → ℕ → List ℕ
stopped_line trap line = if is_budget trap then exhausted_line trap line else undefined_line trap line

-- the line of a run whose sides differ
abbrev pub report_line : Report → List ℕ
report_line report = codes "srmtrun: report: " ++ report_text report

-- the line of a program that is refused
abbrev pub refusal_line : CompileRefusal → List ℕ
refusal_line refusal = codes "srmtrun: refused: " ++ refusal_text refusal

-- the lines of an end on one thread
abbrev pub end_lines : SourceEnd → List (List ℕ)
end_lines (Exit status) = []
end_lines (Trap trap line) = stopped_line trap line ∷ []

-- the lines of a verdict
abbrev pub verdict_lines : Verdict → List (List ℕ)
verdict_lines (ExitVerdict status) = []
verdict_lines (Undefined trap line) = undefined_line trap line ∷ []
verdict_lines (Exhausted trap line) = exhausted_line trap line ∷ []
verdict_lines (Reported report) = report_line report ∷ []
verdict_lines FaultVerdict = codes "srmtrun: fault: output" ∷ []

-- the lines of an answer
abbrev pub lines_of : RunAnswer → List (List ℕ)
lines_of (Alone end) = end_lines end
lines_of (RanBoth ran) = verdict_lines ran.verdict
lines_of Checked = []
lines_of WriteFault = codes "srmtrun: fault: output" ∷ []
lines_of ReadFault = codes "srmtrun: fault: reading" ∷ []
lines_of TooLong = codes "srmtrun: fault: too long" ∷ []
lines_of OutOfMemory = codes "srmtrun: fault: memory" ∷ []
lines_of (Refused refusal) = refusal_line refusal ∷ []
lines_of Usage = codes "srmtrun: usage: srmtrun PROGRAM [options]" ∷ []
lines_of Help = map (λ line. line.now) HELP
lines_of Version = map (λ line. line.now) VERSION

-- lines as they are written: each with its end
abbrev pub written : List (List ℕ) → List ℕ
written lines = flat_map (λ line. line ++ codes "\n") lines
