-- What a layer answers of one file. Want of memory may come anywhere.
use Rattle.std.specs.Prelude.{◌≡◌, ◌≢◌, ◌⊎◌, ℕ, List, Option, option_map, Result, Err}
use Rattle.c_lexer.specs.declared.token.Token.{Token}
use Rattle.c_lexer.specs.declared.token.LexRefusal.{LexRefusal}
use Rattle.c_lexer.specs.Tokens.{Refuses as LexRefuses}
use Rattle.c_parser.specs.declared.refusal.ParseRefusal.{ParseRefusal}
use Rattle.c_parser.specs.Refusals.{Refuses as ParseRefuses}
use Rattle.c_tree.specs.declared.unit.Unit.{Unit as TreeUnit}
use Rattle.c_typed.specs.declared.program.TypedProgram.{TypedProgram}
use Rattle.c_typed.specs.StatementViews.{program_view}
use Rattle.typing_rules.specs.declared.refusal.TypeRefusal.{TypeRefusal}
use Rattle.typing_rules.specs.declared.refusal.TypeRefusal.TheVariants.{Memory}
use Rattle.typing_rules.specs.SourceViews.{unit_view, main_line, binary_line}
use Rattle.typing_rules.specs.OrderedUnits.{checked}
use Rattle.typing_rules.specs.TypingUnits.{Types}
use Rattle.answers.specs.declared.answer.Which.{Which}
use Rattle.answers.specs.declared.answer.RunAnswer.{RunAnswer}
use Rattle.answers.specs.declared.answer.RunAnswer.TheVariants.{Refused, OutOfMemory}
use Rattle.answers.specs.declared.answer.CompileRefusal.TheVariants.{Lex, Parse, Typing}

abbrev pub StopsLexing : Which → List ℕ → RunAnswer → Type 0
StopsLexing which src answer = (answer ≡ OutOfMemory) ⊎ ((cause : LexRefusal) × (answer ≡ Refused (Lex which cause)) × LexRefuses src cause)

abbrev pub StopsParsing : Which → List Token → List ℕ → RunAnswer → Type 0
StopsParsing which tokens src answer = (answer ≡ OutOfMemory)
    ⊎ ((cause : ParseRefusal) × (answer ≡ Refused (Parse which cause)) × ParseRefuses tokens src cause)

abbrev pub IsTyping : TreeUnit → Option TreeUnit → TypedProgram → Type 0
IsTyping main binary program = Types (unit_view main_line main) (option_map (unit_view binary_line) binary) (program_view program)

abbrev pub StopsTyping : TreeUnit → Option TreeUnit → RunAnswer → Type 0
StopsTyping main binary answer = (answer ≡ OutOfMemory)
    ⊎ ((cause : TypeRefusal) × (answer ≡ Refused (Typing cause))
    × (checked (unit_view main_line main) (option_map (unit_view binary_line) binary) ≡ Err cause) × (cause ≢ Memory))
