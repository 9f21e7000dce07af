-- The files of a program have one typed program or one first refusal.
use Rattle.std.proofs.Common.{◌≡◌, ◌⊎◌, inl, inr, ℕ, List, Option, Some, None, Result, Ok, Err, true, refl, sym, ap, subst, ◌∙◌}
use Rattle.std.specs.Prelude.{option_map, IfOk, IfErr, IfSome, IsSomeAnd}
use Rattle.c_lexer.specs.declared.token.Token.{Token}
use Rattle.c_lexer.specs.declared.token.LexRefusal.{LexRefusal}
use Rattle.c_lexer.specs.Tokens.{Lexes, Refuses as LexRefuses}
use Rattle.c_lexer.proofs.Sources.{lexes_once, refuses_once, lexes_or_refuses}
use Rattle.c_parser.specs.declared.refusal.ParseRefusal.{ParseRefusal}
use Rattle.c_parser.specs.Answers.{IsUnitWithin}
use Rattle.c_parser.specs.Refusals.{Refuses as ParseRefuses}
use Rattle.c_parser.proofs.UnitLaws.{one_unit_of}
use Rattle.c_parser.proofs.ParseLaws.{one_refusal_of, refuses_no_unit}
use Rattle.c_tree.specs.declared.unit.Unit.{Unit as TreeUnit}
use Rattle.c_typed.specs.declared.program.TypedProgram.{TypedProgram}
use Rattle.c_typed.specs.Statements.{Program}
use Rattle.c_typed.specs.StatementViews.{program_view}
use Rattle.typing_rules.specs.declared.refusal.TypeRefusal.{TypeRefusal}
use Rattle.typing_rules.specs.SourceViews.{unit_view, main_line, binary_line}
use Rattle.typing_rules.specs.OrderedUnits.{checked}
use Rattle.typing_rules.proofs.UnitsExact.{typing_is_exact_of}
use Rattle.answers.specs.declared.answer.RunAnswer.{RunAnswer}
use Rattle.answers.specs.declared.answer.RunAnswer.TheVariants.{Refused}
use Rattle.answers.specs.declared.answer.Which.TheVariants.{Main, Binary}
use Rattle.answers.specs.declared.answer.CompileRefusal.{CompileRefusal}
use Rattle.answers.specs.declared.answer.CompileRefusal.TheVariants.{Form, Lex, Parse, Typing}
use Rattle.c_front.specs.Front.{HasTokens, IsSource, HasTree, HasNoTree, IsBinary, Trees, typing_of, TypesFiles, RefusesFiles, IsRefusal, Gives, Tells}

-- ---- one file

one-list : (src : List ℕ) (tokens others : List Token) → Lexes src tokens → Lexes src others → tokens ≡ others
one-list src tokens others l m = lexes_once true 0 1 src tokens others l m

lex-apart : (src : List ℕ) (cause : LexRefusal) → HasTokens src → LexRefuses src cause → ⊥
lex-apart src cause (tokens, lexed) refuses = lexes_or_refuses true 0 1 src tokens cause lexed refuses

one-source : (src : List ℕ) (a b : TreeUnit) → IsSource src a → IsSource src b → a ≡ b
one-source src a b x y =
    one_unit_of src y.tokens a b (subst (λ ts. IsUnitWithin ts src a) (one-list src x.tokens y.tokens x.lexed y.lexed) x.parsed).0 y.parsed.0

tree-apart : (src : List ℕ) (cause : ParseRefusal) → HasTree src → HasNoTree cause src → ⊥
tree-apart src cause (unit, y) (tokens, lexed, refuses) =
    refuses_no_unit y.tokens src cause unit (subst (λ ts. ParseRefuses ts src cause) (one-list src tokens y.tokens lexed y.lexed) refuses) y.parsed.1 y.parsed.0

one-cause : (src : List ℕ) (cause other : ParseRefusal) → HasNoTree cause src → HasNoTree other src → cause ≡ other
one-cause src cause other (tokens, lexed, refuses) (others, lexes, refused) =
    one_refusal_of others src cause other (subst (λ ts. ParseRefuses ts src cause) (one-list src tokens others lexed lexes) refuses) refused

tokens-of-tree : (src : List ℕ) → HasTree src → HasTokens src
tokens-of-tree src (unit, y) = (y.tokens, y.lexed)

tokens-of-none : (src : List ℕ) (cause : ParseRefusal) → HasNoTree cause src → HasTokens src
tokens-of-none src cause (tokens, lexed, refuses) = (tokens, lexed)

-- ---- the binary file

one-binary : (binary : Option (List ℕ)) (a b : Option TreeUnit) → IsBinary binary a → IsBinary binary b → a ≡ b
one-binary None None None x y = refl
one-binary None None (Some b) x y = absurd y
one-binary None (Some a) b x y = absurd x
one-binary (Some src) None b x y = absurd x
one-binary (Some src) (Some a) None x y = absurd y
one-binary (Some src) (Some a) (Some b) x y = ap Some (one-source src a b x y)

trees-of-binary : (binary : Option (List ℕ)) (a : Option TreeUnit) → IsBinary binary a → IfSome binary HasTree
trees-of-binary None a x = tt
trees-of-binary (Some src) None x = absurd x
trees-of-binary (Some src) (Some a) x = (a, x)

tokens-of-binary : (binary : Option (List ℕ)) → IfSome binary HasTree → IfSome binary HasTokens
tokens-of-binary None x = tt
tokens-of-binary (Some src) x = tokens-of-tree src x

tokens-of-none-binary : (binary : Option (List ℕ)) (cause : ParseRefusal) → IsSomeAnd binary (HasNoTree cause) → IfSome binary HasTokens
tokens-of-none-binary None cause x = tt
tokens-of-none-binary (Some src) cause x = tokens-of-none src cause x

lex-apart-binary : (binary : Option (List ℕ)) (cause : LexRefusal) → IfSome binary HasTokens → IsSomeAnd binary (λ src. LexRefuses src cause) → ⊥
lex-apart-binary None cause x y = y
lex-apart-binary (Some src) cause x y = lex-apart src cause x y

tree-apart-binary : (binary : Option (List ℕ)) (cause : ParseRefusal) → IfSome binary HasTree → IsSomeAnd binary (HasNoTree cause) → ⊥
tree-apart-binary None cause x y = y
tree-apart-binary (Some src) cause x y = tree-apart src cause x y

one-fault-binary : (binary : Option (List ℕ)) (a b : LexRefusal) → IsSomeAnd binary (λ src. LexRefuses src a) → IsSomeAnd binary (λ src. LexRefuses src b) → a ≡ b
one-fault-binary None a b x y = absurd x
one-fault-binary (Some src) a b x y = refuses_once true 0 src a b x y

one-cause-binary : (binary : Option (List ℕ)) (a b : ParseRefusal) → IsSomeAnd binary (HasNoTree a) → IsSomeAnd binary (HasNoTree b) → a ≡ b
one-cause-binary None a b x y = absurd x
one-cause-binary (Some src) a b x y = one-cause src a b x y

-- ---- both

module _ (main : List ℕ) (binary : Option (List ℕ)) where
  main-tree : Trees main binary → HasTree main
  main-tree t = (t.unit, t.of_main)

  binary-tree : Trees main binary → IfSome binary HasTree
  binary-tree t = trees-of-binary binary t.other t.of_binary

  typing-once : (a b : Trees main binary) → typing_of a ≡ typing_of b
  typing-once a b = ap (λ u. checked (unit_view main_line u) (option_map (unit_view binary_line) a.other)) (one-source main a.unit b.unit a.of_main b.of_main) ∙
      ap (λ o. checked (unit_view main_line b.unit) (option_map (unit_view binary_line) o)) (one-binary binary a.other b.other a.of_binary b.of_binary)

  typed-of : (program : Program) (y : TypesFiles main binary program) → typing_of y.trees ≡ Ok program
  typed-of program y = (typing_is_exact_of (unit_view main_line y.trees.unit) (option_map (unit_view binary_line) y.trees.other) program).1 y.typed

  typed-once : (a b : Trees main binary) (r s : Result Program TypeRefusal) → typing_of a ≡ r → typing_of b ≡ s → r ≡ s
  typed-once a b r s e f = sym e ∙ typing-once a b ∙ f

  pub no-program : (cause : CompileRefusal) (program : Program) → RefusesFiles main binary cause → TypesFiles main binary program → ⊥
  no-program Form program h y = h
  no-program (Lex Main cause) program h y = lex-apart main cause (tokens-of-tree main (main-tree y.trees)) h
  no-program (Lex Binary cause) program h y = lex-apart-binary binary cause (tokens-of-binary binary (binary-tree y.trees)) h.1
  no-program (Parse Main cause) program h y = tree-apart main cause (main-tree y.trees) h.1
  no-program (Parse Binary cause) program h y = tree-apart-binary binary cause (binary-tree y.trees) h.1
  no-program (Typing cause) program h y = absurd (let same = typed-once h.0 y.trees (Err cause) (Ok program) h.1 (typed-of program y) in cc)

  -- a layer's refusal says that every layer before it takes the files
  lexed-main : (cause : CompileRefusal) → RefusesFiles main binary cause → ((fault : LexRefusal) → cause ≡ Lex Main fault → ⊥) → HasTokens main
  lexed-main Form h other = absurd h
  lexed-main (Lex Main cause) h other = absurd (other cause refl)
  lexed-main (Lex Binary cause) h other = h.0
  lexed-main (Parse Main cause) h other = tokens-of-none main cause h.1
  lexed-main (Parse Binary cause) h other = tokens-of-tree main h.0
  lexed-main (Typing cause) h other = tokens-of-tree main (main-tree h.0)

  pub one-refusal : (a b : CompileRefusal) → RefusesFiles main binary a → RefusesFiles main binary b → a ≡ b
  one-refusal Form b h k = absurd h
  one-refusal (Lex Main c) Form h k = absurd k
  one-refusal (Lex Main c) (Lex Main d) h k = ap (Lex Main) (refuses_once true 0 main c d h k)
  one-refusal (Lex Main c) (Lex Binary d) h k = absurd (lex-apart main c (lexed-main (Lex Binary d) k (λ f e. cc)) h)
  one-refusal (Lex Main c) (Parse Main d) h k = absurd (lex-apart main c (lexed-main (Parse Main d) k (λ f e. cc)) h)
  one-refusal (Lex Main c) (Parse Binary d) h k = absurd (lex-apart main c (lexed-main (Parse Binary d) k (λ f e. cc)) h)
  one-refusal (Lex Main c) (Typing d) h k = absurd (lex-apart main c (lexed-main (Typing d) k (λ f e. cc)) h)
  one-refusal (Lex Binary c) Form h k = absurd k
  one-refusal (Lex Binary c) (Lex Main d) h k = absurd (lex-apart main d h.0 k)
  one-refusal (Lex Binary c) (Lex Binary d) h k = ap (Lex Binary) (one-fault-binary binary c d h.1 k.1)
  one-refusal (Lex Binary c) (Parse Main d) h k = absurd (lex-apart-binary binary c k.0 h.1)
  one-refusal (Lex Binary c) (Parse Binary d) h k = absurd (lex-apart-binary binary c (tokens-of-none-binary binary d k.1) h.1)
  one-refusal (Lex Binary c) (Typing d) h k = absurd (lex-apart-binary binary c (tokens-of-binary binary (binary-tree k.0)) h.1)
  one-refusal (Parse Main c) Form h k = absurd k
  one-refusal (Parse Main c) (Lex Main d) h k = absurd (lex-apart main d (lexed-main (Parse Main c) h (λ f e. cc)) k)
  one-refusal (Parse Main c) (Lex Binary d) h k = absurd (lex-apart-binary binary d h.0 k.1)
  one-refusal (Parse Main c) (Parse Main d) h k = ap (Parse Main) (one-cause main c d h.1 k.1)
  one-refusal (Parse Main c) (Parse Binary d) h k = absurd (tree-apart main c k.0 h.1)
  one-refusal (Parse Main c) (Typing d) h k = absurd (tree-apart main c (main-tree k.0) h.1)
  one-refusal (Parse Binary c) Form h k = absurd k
  one-refusal (Parse Binary c) (Lex Main d) h k = absurd (lex-apart main d (lexed-main (Parse Binary c) h (λ f e. cc)) k)
  one-refusal (Parse Binary c) (Lex Binary d) h k = absurd (lex-apart-binary binary d (tokens-of-none-binary binary c h.1) k.1)
  one-refusal (Parse Binary c) (Parse Main d) h k = absurd (tree-apart main d h.0 k.1)
  one-refusal (Parse Binary c) (Parse Binary d) h k = ap (Parse Binary) (one-cause-binary binary c d h.1 k.1)
  one-refusal (Parse Binary c) (Typing d) h k = absurd (tree-apart-binary binary c (binary-tree k.0) h.1)
  one-refusal (Typing c) Form h k = absurd k
  one-refusal (Typing c) (Lex Main d) h k = absurd (lex-apart main d (lexed-main (Typing c) h (λ f e. cc)) k)
  one-refusal (Typing c) (Lex Binary d) h k = absurd (lex-apart-binary binary d (tokens-of-binary binary (binary-tree h.0)) k.1)
  one-refusal (Typing c) (Parse Main d) h k = absurd (tree-apart main d (main-tree h.0) k.1)
  one-refusal (Typing c) (Parse Binary d) h k = absurd (tree-apart-binary binary d (binary-tree h.0) k.1)
  one-refusal (Typing c) (Typing d) h k = let same = typed-once h.0 k.0 (Err c) (Err d) h.1 k.1 in ap Typing cc

  pub found-is : (r : Result TypedProgram RunAnswer) → IfOk r (λ found. TypesFiles main binary (program_view found)) → IfErr r (IsRefusal (RefusesFiles main binary))
      → (program : Program) → TypesFiles main binary program → Gives r program
  found-is (Ok found) ok err program y =
      let same = typed-once ok.trees y.trees (Ok (program_view found)) (Ok program) (typed-of (program_view found) ok) (typed-of program y) in cc
  found-is (Err answer) ok (inl memory) program y = memory
  found-is (Err answer) ok (inr (cause, is, refuses)) program y = absurd (no-program cause program refuses y)

  pub told-is : (r : Result TypedProgram RunAnswer) → IfOk r (λ found. TypesFiles main binary (program_view found)) → IfErr r (IsRefusal (RefusesFiles main binary))
      → (cause : CompileRefusal) → RefusesFiles main binary cause → Tells r cause
  told-is (Ok found) ok err cause h = no-program cause (program_view found) h ok
  told-is (Err answer) ok (inl memory) cause h = inr memory
  told-is (Err answer) ok (inr (other, is, refuses)) cause h = inl (is ∙ ap Refused (one-refusal other cause refuses h))
