-- Steps of checking declarations, functions, files and programs.
use Rattle.std.specs.Prelude.{ℕ, true, false, not, ◌&&◌, List, [], ◌∷◌, ◌++◌, length, map, Option, None, is_none, bytes_eq}
use Rattle.c_types.specs.Types.{CType, Qualified, same_type, is_function, is_void, result_of}
use Rattle.c_typed.specs.Statements as t
use Rattle.typing_rules.specs.declared.refusal.TypeRefusal.TheVariants.{Twice, Mismatch, NoMain}
use Rattle.typing_rules.specs.Source.{Named}
use Rattle.typing_rules.specs.SourceUnits.{Initial, Item, Declaration, Definition, External, function, declaration_of, Unit as SourceUnit}
use Rattle.typing_rules.specs.Known as known
use Rattle.typing_rules.specs.Known.{Linked, found_in, predeclared_scope}
use Rattle.typing_rules.specs.SpecifierRules.{Storage}
use Rattle.typing_rules.specs.DeclaratorRules.{Lines, Derivation, derived, name_of, or_no_name}
use Rattle.typing_rules.specs.UnitRules.{typed_file, main_from, unresolved}
use Rattle.typing_rules.specs.Checking.{Checking, ◌>>=◌, ◌>>◌, pure, asks, makes, choose, needs, given, from_result}
use Rattle.typing_rules.specs.OrderedParts.{specified}
use Rattle.typing_rules.specs.OrderedDeclarations.{no_initial}
use Rattle.typing_rules.specs.OrderedUnits.{object_defined, declared_as, items_at_file, function_defined, externals_of, binary_of, resolves}
use Rattle.c_program.specs.Whole.{main_found, all_resolved}

-- ---- declarations

-- after an object or function is declared at file scope
abbrev pub declared_so : Named → Storage → Qualified → Option Initial → Linked → Checking (Unit {0})
declared_so name storage type x l = choose (is_function type.type) (no_initial name.line x) (object_defined name storage l type x)

-- its name means it from now on
abbrev pub named_so : Named → Storage → Qualified → Option Initial → Linked → Checking (Unit {0})
named_so name storage type x l = makes (known.with_file_meaning name.bytes (known.linked l.entity l.type)) >> declared_so name storage type x l

-- ---- files

-- the functions of the rest of a file behind those before
abbrev pub externals_onto : List t.Function → SourceUnit → Checking (List t.Function)
externals_onto done rest = externals_of rest >>= (λ more. pure (done ++ more))

-- ---- programs

-- what each entity is in the end
abbrev pub numbered_program : t.TypedFile → t.TypedFile → ℕ → Checking t.Program
numbered_program first second n = do
  all ← asks (λ k. length k.entities)
  pure (record { main_file = first; binary_file = second; entities = t.numbers_from first second 0 all; main = n })

abbrev pub resolved_program : t.TypedFile → t.TypedFile → ℕ → Checking t.Program
resolved_program first second n = all_resolved >> numbered_program first second n

-- after both files are checked
abbrev pub finished : t.TypedFile → t.TypedFile → Checking t.Program
finished first second = main_found >>= resolved_program first second

-- after the main file is checked
abbrev pub main_checked : Option SourceUnit → t.TypedFile → Checking t.Program
main_checked binary first = binary_of binary >>= finished first

-- a declaration at file scope
abbrev pub declared_at_file : Declaration → Checking (Unit {0})
declared_at_file d = specified true d.specifiers >>= (λ base. items_at_file base.storage base.type d.specifiers.line d.items)

-- a name is declared, which may be that of a predeclared function
abbrev pub declared_by_name : Named → Storage → Qualified → Option Initial → Checking (Unit {0})
declared_by_name name storage type x = declared_as name storage type x (found_in name.bytes predeclared_scope)

-- with a type that is not `void`
abbrev pub declared_typed : Named → Storage → Qualified → Option Initial → Checking (Unit {0})
declared_typed name storage type x = needs (not (is_void type.type)) (Mismatch name.line 14) >> declared_by_name name storage type x

-- what an item declares, after the parts of its declarator are known
abbrev pub item_derived : Storage → Qualified → Lines → Item → List Derivation → Checking (Unit {0})
item_derived storage base lines x ds =
    from_result (derived lines false base ds) >>= (λ type. declared_typed (or_no_name (name_of x.declarator)) storage type x.initial)

-- what is declared once more has the same type
abbrev pub declared_same : ℕ → Qualified → CType → Option Initial → Checking (Unit {0})
declared_same line t u x = needs (same_type t.type u) (Twice line) >> no_initial line x

-- a declaration of a file, behind functions
abbrev pub external_step : List t.Function → External → Checking (List t.Function)
external_step fs (function d) = function_defined d >>= (λ f. pure (fs ++ f ∷ []))
external_step fs (declaration_of d) = declared_at_file d >> pure fs
