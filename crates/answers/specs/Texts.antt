-- The texts of words, traps, places and ends.
use Rattle.std.specs.Prelude.{ℕ, ◌-◌, List, ◌++◌, codes, decimal, nat_le, ◌==◌, if◌then◌else◌}
use Rattle.srmt_base.specs.declared.trap.Trap.{Trap as TrapName}
use Rattle.srmt_base.specs.declared.trap.Trap.TheVariants.{Overflow, DivideByZero, ShiftRange, NullPointer, OutsideObject, DeadObject, ReadOnly, OtherObject, NotAFunction, Turns, Depth, Store}
use Rattle.srmt_base.specs.declared.word.Kind.{Kind}
use Rattle.srmt_base.specs.declared.word.Kind.TheVariants.{Check, Value, Trap as TrapWord, Callback, Ack, Exit as ExitWord}
use Rattle.srmt_base.specs.Word.{kind_part, site_part, value_part}
use Rattle.verdicts.specs.declared.thread_end.ThreadEnd.{ThreadEnd}
use Rattle.verdicts.specs.declared.thread_end.ThreadEnd.TheVariants.{Exit, Trap, Mismatch, Echo, PeerEnded, WriteFault}

-- the name of a trap
abbrev pub trap_name : TrapName → List ℕ
trap_name Overflow = codes "Overflow"
trap_name DivideByZero = codes "DivideByZero"
trap_name ShiftRange = codes "ShiftRange"
trap_name NullPointer = codes "NullPointer"
trap_name OutsideObject = codes "OutsideObject"
trap_name DeadObject = codes "DeadObject"
trap_name ReadOnly = codes "ReadOnly"
trap_name OtherObject = codes "OtherObject"
trap_name NotAFunction = codes "NotAFunction"
trap_name Turns = codes "Turns"
trap_name Depth = codes "Depth"
trap_name Store = codes "Store"

-- the name of a kind of words
abbrev pub kind_name : Kind → List ℕ
kind_name Check = codes "check"
kind_name Value = codes "value"
kind_name TrapWord = codes "trap"
kind_name Callback = codes "callback"
kind_name Ack = codes "ack"
kind_name ExitWord = codes "exit"

-- the kind of a code from 1 to 6
abbrev pub kind_of : ℕ → Kind
kind_of code = if code == 1 then Check else (if code == 2 then Value else (if code == 3 then TrapWord
    else (if code == 4 then Callback else (if code == 5 then Ack else ExitWord))))

-- a word: its kind, its site and its value
abbrev pub word_text : ℕ → List ℕ
word_text word = kind_name (kind_of (kind_part word)) ++ codes " " ++ decimal (site_part word) ++ codes " " ++ decimal (value_part word)

-- two words, of which the first was taken in place of the second
abbrev pub words_text : ℕ → ℕ → List ℕ
words_text taken own = codes "took " ++ word_text taken ++ codes ", own " ++ word_text own

-- a place in the sources: the lines of the binary file are kept above those of the main file
abbrev pub place_text : ℕ → List ℕ
place_text line = if nat_le line 2000000 then codes "line " ++ decimal line else codes "binary line " ++ decimal (line - 2000000)

-- a trap and its place
abbrev pub trap_text : TrapName → ℕ → List ℕ
trap_text trap line = trap_name trap ++ codes " at " ++ place_text line

-- how one side has ended; no side of a run parts by the last three
abbrev pub end_text : ThreadEnd → List ℕ
end_text (Exit status) = codes "exit " ++ decimal status
end_text (Trap trap line) = codes "trap " ++ trap_text trap line
end_text PeerEnded = codes "peer ended"
end_text (Mismatch taken own) = codes "mismatch: " ++ words_text taken own
end_text (Echo taken own) = codes "echo: " ++ words_text taken own
end_text WriteFault = codes "output"
