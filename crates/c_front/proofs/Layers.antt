-- What a layer refuses is a refusal of the program's files.
use Rattle.std.proofs.Common.{◌≡◌, ◌⊎◌, inl, inr, ℕ, List, Option, Some, None, Result, Ok, Err, refl}
use Rattle.std.specs.Prelude.{option_map, IfSome, IfOk, IfErr}
use Rattle.c_lexer.specs.declared.token.Token.{Token}
use Rattle.c_lexer.specs.Tokens.{Lexes}
use Rattle.c_parser.specs.Answers.{IsUnitWithin}
use Rattle.c_tree.specs.declared.unit.Unit.{Unit as TreeUnit}
use Rattle.c_typed.specs.declared.program.TypedProgram.{TypedProgram}
use Rattle.c_typed.specs.StatementViews.{program_view}
use Rattle.answers.specs.declared.answer.RunAnswer.{RunAnswer}
use Rattle.answers.specs.declared.answer.Which.TheVariants.{Main, Binary}
use Rattle.answers.specs.declared.answer.CompileRefusal.TheVariants.{Lex, Parse, Typing}
use Rattle.c_front.specs.Front.{HasTokens, IsSource, HasTree, IsBinary, Trees, TypesFiles, RefusesFiles, IsRefusal}
use Rattle.c_front.specs.Layers.{StopsLexing, StopsParsing, IsTyping, StopsTyping}

abbrev pub source_of : (src : List ℕ) (tokens : List Token) (unit : TreeUnit) → Lexes src tokens → IsUnitWithin tokens src unit → IsSource src unit
source_of src tokens unit lexed parsed = record { tokens = tokens; lexed = lexed; parsed = parsed }

abbrev pub trees_of : (main : List ℕ) (binary : Option (List ℕ)) (unit : TreeUnit) (other : Option TreeUnit) → IsSource main unit → IsBinary binary other → Trees main binary
trees_of main binary unit other of_main of_binary = record { unit = unit; other = other; of_main = of_main; of_binary = of_binary }

module _ (main : List ℕ) (binary : Option (List ℕ)) where
  pub main-lex-refuses : (answer : RunAnswer) → StopsLexing Main main answer → IsRefusal (RefusesFiles main binary) answer
  main-lex-refuses answer (inl memory) = inl memory
  main-lex-refuses answer (inr (cause, is, refuses)) = inr (Lex Main cause, is, refuses)

  pub main-parse-refuses : (tokens : List Token) (answer : RunAnswer) → IfSome binary HasTokens → Lexes main tokens → StopsParsing Main tokens main answer → IsRefusal (RefusesFiles main binary) answer
  main-parse-refuses tokens answer others lexed (inl memory) = inl memory
  main-parse-refuses tokens answer others lexed (inr (cause, is, refuses)) = inr (Parse Main cause, is, (others, (tokens, lexed, refuses)))

  pub typing-refuses : (unit : TreeUnit) (other : Option TreeUnit) (answer : RunAnswer) → IsSource main unit → IsBinary binary other → StopsTyping unit other answer → IsRefusal (RefusesFiles main binary) answer
  typing-refuses unit other answer of_main of_binary (inl memory) = inl memory
  typing-refuses unit other answer of_main of_binary (inr (cause, is, refuses, no_memory)) =
      inr (Typing cause, is, (trees_of main binary unit other of_main of_binary, refuses, no_memory))

  pub typing-types : (unit : TreeUnit) (other : Option TreeUnit) (program : TypedProgram) → IsSource main unit → IsBinary binary other → IsTyping unit other program → TypesFiles main binary (program_view program)
  typing-types unit other program of_main of_binary typed = record { trees = trees_of main binary unit other of_main of_binary; typed = typed }

  -- what typing answers
  pub typed-files : (unit : TreeUnit) (other : Option TreeUnit) (r : Result TypedProgram RunAnswer) → IsSource main unit → IsBinary binary other → IfOk r (IsTyping unit other) → IfOk r (λ found. TypesFiles main binary (program_view found))
  typed-files unit other (Ok program) of_main of_binary ok = typing-types unit other program of_main of_binary ok
  typed-files unit other (Err answer) of_main of_binary ok = tt

  pub untyped-files : (unit : TreeUnit) (other : Option TreeUnit) (r : Result TypedProgram RunAnswer) → IsSource main unit → IsBinary binary other → IfErr r (StopsTyping unit other) → IfErr r (IsRefusal (RefusesFiles main binary))
  untyped-files unit other (Ok program) of_main of_binary err = tt
  untyped-files unit other (Err answer) of_main of_binary err = typing-refuses unit other answer of_main of_binary err

module _ (main src : List ℕ) where
  pub binary-lex-refuses : (tokens : List Token) (answer : RunAnswer) → Lexes main tokens → StopsLexing Binary src answer → IsRefusal (RefusesFiles main (Some src)) answer
  binary-lex-refuses tokens answer lexed (inl memory) = inl memory
  binary-lex-refuses tokens answer lexed (inr (cause, is, refuses)) = inr (Lex Binary cause, is, ((tokens, lexed), refuses))

  pub binary-parse-refuses : (unit : TreeUnit) (others : List Token) (answer : RunAnswer) → IsSource main unit → Lexes src others → StopsParsing Binary others src answer → IsRefusal (RefusesFiles main (Some src)) answer
  binary-parse-refuses unit others answer source lexed (inl memory) = inl memory
  binary-parse-refuses unit others answer source lexed (inr (cause, is, refuses)) = inr (Parse Binary cause, is, ((unit, source), (others, lexed, refuses)))
