-- The typed program of the bytes of one or two files, and why there is none. Each layer goes over the main file, then
-- over the binary file where there is one, before the next layer begins (C11 5.1.1.2).
use Rattle.std.specs.Prelude.{◌≡◌, ◌≢◌, ◌⊎◌, ℕ, List, Option, Some, None, option_map, IfSome, IsSomeAnd, Result, Ok, Err}
use Rattle.c_lexer.specs.declared.token.Token.{Token}
use Rattle.c_lexer.specs.declared.token.LexRefusal.{LexRefusal}
use Rattle.c_lexer.specs.Tokens.{Lexes, Refuses as LexRefuses}
use Rattle.c_parser.specs.declared.refusal.ParseRefusal.{ParseRefusal}
use Rattle.c_parser.specs.Answers.{IsUnitWithin}
use Rattle.c_parser.specs.Refusals.{Refuses as ParseRefuses}
use Rattle.c_tree.specs.declared.unit.Unit.{Unit as TreeUnit}
use Rattle.c_typed.specs.declared.program.TypedProgram.{TypedProgram}
use Rattle.c_typed.specs.Statements.{Program}
use Rattle.c_typed.specs.StatementViews.{program_view}
use Rattle.typing_rules.specs.declared.refusal.TypeRefusal.{TypeRefusal}
use Rattle.typing_rules.specs.declared.refusal.TypeRefusal.TheVariants.{Memory}
use Rattle.typing_rules.specs.SourceViews.{unit_view, main_line, binary_line}
use Rattle.typing_rules.specs.OrderedUnits.{checked}
use Rattle.typing_rules.specs.TypingUnits.{Types}
use Rattle.answers.specs.declared.answer.Which.{Which}
use Rattle.answers.specs.declared.answer.Which.TheVariants.{Main, Binary}
use Rattle.answers.specs.declared.answer.RunAnswer.{RunAnswer}
use Rattle.answers.specs.declared.answer.RunAnswer.TheVariants.{Refused, OutOfMemory}
use Rattle.answers.specs.declared.answer.CompileRefusal.{CompileRefusal}
use Rattle.answers.specs.declared.answer.CompileRefusal.TheVariants.{Form, Lex, Parse, Typing}

-- ---- one file

abbrev pub HasTokens : List ℕ → Type 0
HasTokens src = (tokens : List Token) × Lexes src tokens

-- the tree of a file
pub record IsSource (src : List ℕ) (unit : TreeUnit) : Type 0 where
  pub tokens : List Token
  pub lexed : Lexes src tokens
  pub parsed : IsUnitWithin tokens src unit

abbrev pub HasTree : List ℕ → Type 0
HasTree src = (unit : TreeUnit) × IsSource src unit

-- the tokens of a file are no unit for this cause
abbrev pub HasNoTree : ParseRefusal → List ℕ → Type 0
HasNoTree cause src = (tokens : List Token) × Lexes src tokens × ParseRefuses tokens src cause

-- ---- the files of a program

-- the tree of the binary file, where there is one
abbrev pub IsBinary : Option (List ℕ) → Option TreeUnit → Type 0
IsBinary None None = Unit {0}
IsBinary None (Some unit) = ⊥
IsBinary (Some src) None = ⊥
IsBinary (Some src) (Some unit) = IsSource src unit

-- the trees of a program
pub record Trees (main : List ℕ) (binary : Option (List ℕ)) : Type 0 where
  pub unit : TreeUnit
  pub other : Option TreeUnit
  pub of_main : IsSource main unit
  pub of_binary : IsBinary binary other

-- what the ordered function says of them: a program, or the first refusal in the order of checking
abbrev pub typing_of : {main : List ℕ} {binary : Option (List ℕ)} → Trees main binary → Result Program TypeRefusal
typing_of trees = checked (unit_view main_line trees.unit) (option_map (unit_view binary_line) trees.other)

-- The files have this typed program, by the grammar and the typing relation.
pub record TypesFiles (main : List ℕ) (binary : Option (List ℕ)) (program : Program) : Type 0 where
  pub trees : Trees main binary
  pub typed : Types (unit_view main_line trees.unit) (option_map (unit_view binary_line) trees.other) program

-- The files are refused for this cause by a layer, as all layers before it take them.
abbrev pub RefusesFiles : List ℕ → Option (List ℕ) → CompileRefusal → Type 0
RefusesFiles main binary Form = ⊥
RefusesFiles main binary (Lex Main cause) = LexRefuses main cause
RefusesFiles main binary (Lex Binary cause) = HasTokens main × IsSomeAnd binary (λ src. LexRefuses src cause)
RefusesFiles main binary (Parse Main cause) = IfSome binary HasTokens × HasNoTree cause main
RefusesFiles main binary (Parse Binary cause) = HasTree main × IsSomeAnd binary (HasNoTree cause)
RefusesFiles main binary (Typing cause) = (trees : Trees main binary) × (typing_of trees ≡ Err cause) × (cause ≢ Memory)

-- ---- answers

-- the answer is a refusal for such a cause, or want of memory
abbrev pub IsRefusal : (CompileRefusal → Type 0) → RunAnswer → Type 0
IsRefusal Refuses answer = (answer ≡ OutOfMemory) ⊎ ((cause : CompileRefusal) × (answer ≡ Refused cause) × Refuses cause)

-- this program is answered, or want of memory
abbrev pub Gives : Result TypedProgram RunAnswer → Program → Type 0
Gives (Ok found) program = program_view found ≡ program
Gives (Err answer) program = answer ≡ OutOfMemory

-- this refusal is answered, or want of memory
abbrev pub Tells : Result TypedProgram RunAnswer → CompileRefusal → Type 0
Tells (Ok found) cause = ⊥
Tells (Err answer) cause = (answer ≡ Refused cause) ⊎ (answer ≡ OutOfMemory)
