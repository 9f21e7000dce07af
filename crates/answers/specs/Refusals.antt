-- The texts of refusals.
use Rattle.std.specs.Prelude.{ℕ, List, ◌++◌, codes, decimal}
use Rattle.c_lexer.specs.declared.token.LexRefusal.{LexRefusal}
use Rattle.c_lexer.specs.declared.token.LexRefusal.TheVariants as lex
use Rattle.c_parser.specs.declared.refusal.ParseRefusal.{ParseRefusal}
use Rattle.c_parser.specs.declared.refusal.ParseRefusal.TheVariants as parse
use Rattle.typing_rules.specs.declared.refusal.TypeRefusal.{TypeRefusal}
use Rattle.typing_rules.specs.declared.refusal.TypeRefusal.TheVariants as typing
use Rattle.typing_rules.specs.declared.refusal.Size.{Size}
use Rattle.typing_rules.specs.declared.refusal.Size.TheVariants as size
use Rattle.answers.specs.declared.answer.CompileRefusal.{CompileRefusal}
use Rattle.answers.specs.declared.answer.CompileRefusal.TheVariants.{Form, Lex, Parse, Typing}
use Rattle.answers.specs.declared.answer.Which.{Which}
use Rattle.answers.specs.declared.answer.Which.TheVariants.{Main, Binary}
use Rattle.answers.specs.Texts.{place_text}

abbrev pub file_name : Which → List ℕ
file_name Main = codes "main"
file_name Binary = codes "binary"

-- what is refused there, and the place of its first byte in the file; no refusal for want of memory is answered
abbrev pub lex_name : LexRefusal → List ℕ
lex_name (lex.BadByte at) = codes "BadByte"
lex_name (lex.OpenComment at) = codes "OpenComment"
lex_name (lex.OpenText at) = codes "OpenText"
lex_name (lex.BadText at) = codes "BadText"
lex_name (lex.BadNumber at) = codes "BadNumber"
lex_name (lex.LiteralTooWide at) = codes "LiteralTooWide"
lex_name (lex.Directive at) = codes "Directive"
lex_name lex.Memory = codes "Memory"

abbrev pub lex_place : LexRefusal → ℕ
lex_place (lex.BadByte at) = at
lex_place (lex.OpenComment at) = at
lex_place (lex.OpenText at) = at
lex_place (lex.BadText at) = at
lex_place (lex.BadNumber at) = at
lex_place (lex.LiteralTooWide at) = at
lex_place (lex.Directive at) = at
lex_place lex.Memory = 0

abbrev pub parse_name : ParseRefusal → List ℕ
parse_name (parse.Expected at) = codes "Expected"
parse_name (parse.LeftOut at kind) = codes "LeftOut"
parse_name (parse.TooDeep at) = codes "TooDeep"
parse_name parse.Memory = codes "Memory"

abbrev pub parse_place : ParseRefusal → ℕ
parse_place (parse.Expected at) = at
parse_place (parse.LeftOut at kind) = at
parse_place (parse.TooDeep at) = at
parse_place parse.Memory = 0

abbrev pub size_name : Size → List ℕ
size_name size.Params = codes "Params"
size_name size.Cells = codes "Cells"
size_name size.Statics = codes "Statics"
size_name size.Functions = codes "Functions"
size_name size.Types = codes "Types"

-- a layer's fault, with the file and the place in it
abbrev pub fault_text : List ℕ → Which → List ℕ → ℕ → List ℕ
fault_text layer file name place = layer ++ file_name file ++ codes " " ++ name ++ codes " at " ++ decimal place

-- a name and a place in the sources
abbrev pub located : List ℕ → ℕ → List ℕ
located name line = name ++ codes " at " ++ place_text line

-- a rule that is broken, by its number
abbrev pub rule_text : ℕ → ℕ → List ℕ
rule_text line rule = codes "Mismatch " ++ decimal rule ++ codes " at " ++ place_text line

abbrev pub size_text : ℕ → Size → List ℕ
size_text line s = codes "TooLarge " ++ size_name s ++ codes " at " ++ place_text line

-- why a program has no typing
abbrev pub type_text : TypeRefusal → List ℕ
type_text (typing.Unknown line) = located (codes "Unknown") line
type_text (typing.Twice line) = located (codes "Twice") line
type_text (typing.Mismatch line rule) = rule_text line rule
type_text typing.NoMain = codes "NoMain"
type_text (typing.Unresolved line) = located (codes "Unresolved") line
type_text (typing.TooLarge line s) = size_text line s
type_text typing.Memory = codes "Memory"

-- why a program is refused
abbrev pub refusal_text : CompileRefusal → List ℕ
refusal_text Form = codes "form"
refusal_text (Lex file cause) = fault_text (codes "lex ") file (lex_name cause) (lex_place cause)
refusal_text (Parse file cause) = fault_text (codes "parse ") file (parse_name cause) (parse_place cause)
refusal_text (Typing cause) = codes "type " ++ type_text cause
