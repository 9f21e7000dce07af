-- The typing relation on files and programs (C11 6.9).
use Rattle.std.specs.Prelude.{◌≡◌, ℕ, ◌<◌, Bool as Test, true, false, not, ◌&&◌, List, [], ◌∷◌, length, map, Option, Some, None, IsTrue, IsFalse}
use Rattle.c_types.specs.Types.{Qualified, is_void, is_function, is_complete, same_type, cells_of, result_of, may_be_one}
use Rattle.c_typed.specs.Statements as t
use Rattle.typing_rules.specs.Source.{Named}
use Rattle.typing_rules.specs.SourceUnits.{Initial, Item, Definition, function, declaration_of, Unit as SourceUnit}
use Rattle.typing_rules.specs.Known as known
use Rattle.typing_rules.specs.Known.{Known, Linked, Meaning, Predeclared, entity_at, found_in, predeclared_scope, type_of_predeclared}
use Rattle.typing_rules.specs.Limits.{most_functions}
use Rattle.typing_rules.specs.SpecifierRules.{Storage}
use Rattle.typing_rules.specs.DeclaratorRules.{name_of, or_no_name}
use Rattle.typing_rules.specs.DeclarationRules.{Defining, tentatively, fully, may_define, is_undefined, with_definition}
use Rattle.typing_rules.specs.UnitRules.{own_parameters, function_opened, function_closed, row_of, typed_file, no_file, nothing_known, binary_begun, main_from, unresolved, is_extern, with_contents}
use Rattle.typing_rules.specs.Holding.{Typing, ◌>>=◌, ◌>>◌, Is, Such, Given, Holds, Asks, Makes, Either, Never}
use Rattle.typing_rules.specs.TypingParts.{AreCounted, IsCounted}
use Rattle.typing_rules.specs.Declarators.{AreSpecified, IsDerived}
use Rattle.typing_rules.specs.Typing.{AreDerivations}
use Rattle.typing_rules.specs.TypingDeclarations.{IsLinked, HasNoInitial, IsInitialized}
use Rattle.typing_rules.specs.TypingStatements.{AreItems}

-- an entity is defined once, in one file (C11 6.9p3, p5)
abbrev pub IsDefined : Defining → ℕ → Typing Test
IsDefined how n = do
  before ← Asks (λ k. (entity_at k.entities n).definition)
  Holds (λ k. IsTrue (may_define how before k.file))
  Makes (with_definition how n)
  Is (is_undefined before)

abbrev pub AreCountedIf : Test → Qualified → Typing (Unit {0})
AreCountedIf test type = Either test (AreCounted (cells_of type.type)) (Is tt)

-- ---- objects

abbrev pub IsDefinedTentatively : Linked → Typing (Unit {0})
IsDefinedTentatively l = do
  Given (IsTrue (is_complete l.type.type))
  first ← IsDefined tentatively l.entity
  AreCountedIf first l.type

abbrev pub IsDefinedWith : Named → Linked → Qualified → Initial → Typing (Unit {0})
IsDefinedWith name l type x = do
  first ← IsDefined fully l.entity
  AreCountedIf (first && is_complete l.type.type) l.type
  done ← IsInitialized true type x
  Holds (λ k. IsTrue (may_be_one done.type l.type && may_be_one done.type (entity_at k.entities l.entity).type))
  AreCountedIf (first && not (is_complete l.type.type)) done.type
  Makes (with_contents name l done)

-- an object is defined with an initializer, or tentatively where no `extern` stands (C11 6.9.2p1, p2)
abbrev pub IsObjectDefined : Named → Storage → Linked → Qualified → Option Initial → Typing (Unit {0})
IsObjectDefined name word l type None = Either (is_extern word) (Is tt) (IsDefinedTentatively l)
IsObjectDefined name word l type (Some x) = IsDefinedWith name l type x

-- ---- declarations

abbrev pub IsDeclaredAtFile : Named → Storage → Qualified → Option Initial → Typing (Unit {0})
IsDeclaredAtFile name word type x = do
  l ← IsLinked name word type
  Makes (known.with_file_meaning name.bytes (known.linked l.entity l.type))
  Either (is_function type.type) (HasNoInitial x) (IsObjectDefined name word l type x)

abbrev pub IsDeclaredAgain : Qualified → Option Initial → Predeclared → Typing (Unit {0})
IsDeclaredAgain type x p = do
  Given (IsTrue (same_type type.type (type_of_predeclared p)))
  HasNoInitial x

abbrev pub IsDeclaredAs : Named → Storage → Qualified → Option Initial → Option Meaning → Typing (Unit {0})
IsDeclaredAs name word type x None = IsDeclaredAtFile name word type x
IsDeclaredAs name word type x (Some (known.local n)) = Never
IsDeclaredAs name word type x (Some (known.linked n t)) = Never
IsDeclaredAs name word type x (Some (known.predeclared p)) = IsDeclaredAgain type x p
IsDeclaredAs name word type x (Some (known.constant n)) = Never

abbrev pub IsItemAtFile : Storage → Qualified → Item → Typing (Unit {0})
IsItemAtFile word base x = do
  ds ← AreDerivations x.declarator
  type ← Such (IsDerived false base ds)
  Given (IsFalse (is_void type.type))
  IsDeclaredAs (or_no_name (name_of x.declarator)) word type x.initial (found_in (or_no_name (name_of x.declarator)).bytes predeclared_scope)

abbrev pub AreItemsAtFile : Storage → Qualified → List Item → Typing (Unit {0})
AreItemsAtFile word base [] = Is tt
AreItemsAtFile word base (x ∷ rest) = IsItemAtFile word base x >> AreItemsAtFile word base rest

-- ---- functions (C11 6.9.1)

abbrev pub IsFunctionBegun : Named → Storage → Qualified → Typing ℕ
IsFunctionBegun name word type = do
  Given (found_in name.bytes predeclared_scope ≡ None)
  l ← IsLinked name word type
  Makes (known.with_file_meaning name.bytes (known.linked l.entity l.type))
  IsDefined fully l.entity
  Holds (λ k. k.functions < most_functions)
  IsCounted type.type
  Is l.entity

abbrev pub IsFunctionDefined : Definition → Typing t.Function
IsFunctionDefined d = do
  base ← AreSpecified true d.specifiers
  ds ← AreDerivations d.declarator
  type ← Such (IsDerived false base.type ds)
  ps ← Such (λ ps. own_parameters ds ≡ Some ps)
  n ← IsFunctionBegun (or_no_name (name_of d.declarator)) base.storage type
  Makes (function_opened ps)
  body ← AreItems (result_of type.type) false d.body
  locals ← Asks (λ k. k.locals)
  Makes function_closed
  Is (record {
    entity = n;
    line = (or_no_name (name_of d.declarator)).line;
    type = type.type;
    parameters = length ps;
    locals = map row_of locals;
    begin = d.begin;
    body = body;
    end = d.end;
  })

-- ---- files and programs

abbrev pub AreExternals : SourceUnit → Typing (List t.Function)
AreExternals [] = Is []
AreExternals (function d ∷ rest) = do
  first ← IsFunctionDefined d
  others ← AreExternals rest
  Is (first ∷ others)
AreExternals (declaration_of d ∷ rest) = do
  base ← AreSpecified true d.specifiers
  AreItemsAtFile base.storage base.type d.items
  AreExternals rest

abbrev pub IsFile : SourceUnit → Typing t.TypedFile
IsFile unit = do
  functions ← AreExternals unit
  Asks (typed_file functions)

abbrev pub IsBinary : Option SourceUnit → Typing t.TypedFile
IsBinary None = Is no_file
IsBinary (Some unit) = do
  Makes binary_begun
  IsFile unit

-- a program defines `int main(void)` in its main file, and whatever it uses
abbrev pub IsProgram : SourceUnit → Option SourceUnit → Typing t.Program
IsProgram main binary = do
  first ← IsFile main
  second ← IsBinary binary
  begin ← Asks (λ k. main_from 0 k.entities)
  n ← Such (λ n. begin ≡ Some n)
  Holds (λ k. unresolved k.entities k.uses ≡ None)
  all ← Asks (λ k. length k.entities)
  Is (record { main_file = first; binary_file = second; entities = t.numbers_from first second 0 all; main = n })

-- These trees of one or two files are typed as this program.
unfoldable pub Types : SourceUnit → Option SourceUnit → t.Program → Type 0
Types main binary program = (after : Known) × IsProgram main binary program nothing_known after
