-- The ordered function on files and programs.
use Rattle.std.specs.Prelude.{ℕ, suc, nat_le, Bool as Test, true, false, not, ◌&&◌, List, [], ◌∷◌, length, map, Option, Some, None, is_none, Result, Ok, Err}
use Rattle.c_types.specs.Types.{Qualified, is_void, is_function, is_complete, same_type, cells_of, result_of, may_be_one}
use Rattle.c_typed.specs.Statements as t
use Rattle.typing_rules.specs.declared.refusal.TypeRefusal.{TypeRefusal}
use Rattle.typing_rules.specs.declared.refusal.TypeRefusal.TheVariants.{Twice, Mismatch, NoMain, Unresolved, TooLarge}
use Rattle.typing_rules.specs.declared.refusal.Size.TheVariants.{Functions}
use Rattle.typing_rules.specs.Source.{Named}
use Rattle.typing_rules.specs.SourceUnits.{Initial, Item, Definition, function, declaration_of, Unit as SourceUnit}
use Rattle.typing_rules.specs.Known as known
use Rattle.typing_rules.specs.Known.{Known, Linked, Meaning, Predeclared, entity_at, found_in, predeclared_scope, type_of_predeclared}
use Rattle.typing_rules.specs.Limits.{most_functions}
use Rattle.typing_rules.specs.SpecifierRules.{Storage}
use Rattle.typing_rules.specs.DeclaratorRules.{lines_of, name_of, derived, or_no_name}
use Rattle.typing_rules.specs.DeclarationRules.{Defining, tentatively, fully, may_define, is_undefined, with_definition}
use Rattle.typing_rules.specs.UnitRules.{own_parameters, function_opened, function_closed, row_of, typed_file, no_file, nothing_known, binary_begun, main_from, unresolved, is_extern, with_contents}
use Rattle.typing_rules.specs.Checking.{Checking, ◌>>=◌, ◌>>◌, pure, refuse, asks, makes, choose, needs, tests, given, from_result}
use Rattle.typing_rules.specs.OrderedParts.{specified, counted, counted_type}
use Rattle.typing_rules.specs.Ordered.{derivations_of}
use Rattle.typing_rules.specs.OrderedDeclarations.{links, no_initial, initialized}
use Rattle.typing_rules.specs.OrderedStatements.{items_of}

-- an entity is defined; whether it is so for the first time
abbrev pub defines : Defining → ℕ → ℕ → Checking Test
defines how line n = do
  before ← asks (λ k. (entity_at k.entities n).definition)
  tests (λ k. may_define how before k.file) (Twice line)
  makes (with_definition how n)
  pure (is_undefined before)

-- the cells of an object that is defined for the first time, where its type is complete
abbrev pub counted_if : Test → ℕ → Qualified → Checking (Unit {0})
counted_if test line type = choose test (counted line (cells_of type.type)) (pure tt)

-- ---- objects

abbrev pub defined_tentatively : ℕ → Linked → Checking (Unit {0})
defined_tentatively line l = do
  needs (is_complete l.type.type) (Mismatch line 15)
  first ← defines tentatively line l.entity
  counted_if first line l.type

abbrev pub defined_with : Named → Linked → Qualified → Initial → Checking (Unit {0})
defined_with name l type x = do
  first ← defines fully name.line l.entity
  counted_if (first && is_complete l.type.type) name.line l.type
  done ← initialized true name.line type x
  tests (λ k. may_be_one done.type l.type && may_be_one done.type (entity_at k.entities l.entity).type) (Mismatch name.line 17)
  counted_if (first && not (is_complete l.type.type)) name.line done.type
  makes (with_contents name l done)

abbrev pub object_defined : Named → Storage → Linked → Qualified → Option Initial → Checking (Unit {0})
object_defined name storage l type None = choose (is_extern storage) (pure tt) (defined_tentatively name.line l)
object_defined name storage l type (Some x) = defined_with name l type x

-- ---- declarations

abbrev pub declared_at_file : Named → Storage → Qualified → Option Initial → Checking (Unit {0})
declared_at_file name storage type x = do
  l ← links name storage type
  makes (known.with_file_meaning name.bytes (known.linked l.entity l.type))
  choose (is_function type.type) (no_initial name.line x) (object_defined name storage l type x)

-- a predeclared function may be declared once more with the same type
abbrev pub declared_again : Named → Qualified → Option Initial → Predeclared → Checking (Unit {0})
declared_again name type x p = do
  needs (same_type type.type (type_of_predeclared p)) (Twice name.line)
  no_initial name.line x

abbrev pub declared_as : Named → Storage → Qualified → Option Initial → Option Meaning → Checking (Unit {0})
declared_as name storage type x None = declared_at_file name storage type x
declared_as name storage type x (Some (known.local n)) = refuse (Twice name.line)
declared_as name storage type x (Some (known.linked n t)) = refuse (Twice name.line)
declared_as name storage type x (Some (known.predeclared p)) = declared_again name type x p
declared_as name storage type x (Some (known.constant n)) = refuse (Twice name.line)

abbrev pub item_at_file : Storage → Qualified → ℕ → Item → Checking (Unit {0})
item_at_file storage base specifiers x = do
  ds ← derivations_of (lines_of x.declarator specifiers) x.declarator
  type ← from_result (derived (lines_of x.declarator specifiers) false base ds)
  needs (not (is_void type.type)) (Mismatch (or_no_name (name_of x.declarator)).line 14)
  declared_as (or_no_name (name_of x.declarator)) storage type x.initial (found_in (or_no_name (name_of x.declarator)).bytes predeclared_scope)

abbrev pub items_at_file : Storage → Qualified → ℕ → List Item → Checking (Unit {0})
items_at_file storage base specifiers [] = pure tt
items_at_file storage base specifiers (x ∷ rest) = item_at_file storage base specifiers x >> items_at_file storage base specifiers rest

-- ---- functions

-- a function is defined: its entity
abbrev pub function_begun : Named → Storage → Qualified → Checking ℕ
function_begun name storage type = do
  needs (is_none (found_in name.bytes predeclared_scope)) (Twice name.line)
  l ← links name storage type
  makes (known.with_file_meaning name.bytes (known.linked l.entity l.type))
  defines fully name.line l.entity
  tests (λ k. nat_le (suc k.functions) most_functions) (TooLarge name.line Functions)
  counted_type name.line type.type
  pure l.entity

abbrev pub function_defined : Definition → Checking t.Function
function_defined d = do
  base ← specified true d.specifiers
  ds ← derivations_of (lines_of d.declarator d.specifiers.line) d.declarator
  type ← from_result (derived (lines_of d.declarator d.specifiers.line) false base.type ds)
  ps ← given (own_parameters ds) (Mismatch (or_no_name (name_of d.declarator)).line 22)
  n ← function_begun (or_no_name (name_of d.declarator)) base.storage type
  makes (function_opened ps)
  body ← items_of (result_of type.type) false d.body
  locals ← asks (λ k. k.locals)
  makes function_closed
  pure (record {
    entity = n;
    line = (or_no_name (name_of d.declarator)).line;
    type = type.type;
    parameters = length ps;
    locals = map row_of locals;
    begin = d.begin;
    body = body;
    end = d.end;
  })

-- ---- files and programs

abbrev pub externals_of : SourceUnit → Checking (List t.Function)
externals_of [] = pure []
externals_of (function d ∷ rest) = do
  first ← function_defined d
  others ← externals_of rest
  pure (first ∷ others)
externals_of (declaration_of d ∷ rest) = do
  base ← specified true d.specifiers
  items_at_file base.storage base.type d.specifiers.line d.items
  externals_of rest

abbrev pub file_of : SourceUnit → Checking t.TypedFile
file_of unit = do
  functions ← externals_of unit
  asks (typed_file functions)

abbrev pub binary_of : Option SourceUnit → Checking t.TypedFile
binary_of None = pure no_file
binary_of (Some unit) = do
  makes binary_begun
  file_of unit

abbrev pub resolves : Option ℕ → Checking (Unit {0})
resolves None = pure tt
resolves (Some line) = refuse (Unresolved line)

abbrev pub program_of : SourceUnit → Option SourceUnit → Checking t.Program
program_of main binary = do
  first ← file_of main
  second ← binary_of binary
  begin ← asks (λ k. main_from 0 k.entities)
  n ← given begin NoMain
  asks (λ k. unresolved k.entities k.uses) >>= resolves
  all ← asks (λ k. length k.entities)
  pure (record { main_file = first; binary_file = second; entities = t.numbers_from first second 0 all; main = n })

abbrev pub program_alone : Result (t.Program × Known) TypeRefusal → Result t.Program TypeRefusal
program_alone (Ok p) = Ok p.0
program_alone (Err refusal) = Err refusal

-- The typed program of the trees of one or two files, or the first refusal.
unfoldable pub checked : SourceUnit → Option SourceUnit → Result t.Program TypeRefusal
checked main binary = program_alone (program_of main binary nothing_known)
