-- The typing relation on declarations and initializers (C11 6.2.2, 6.7, 6.7.9).
use Rattle.std.specs.Prelude.{◌≡◌, ℕ, suc, ◌+◌, ◌≤◌, ◌⊎◌, Bool as Test, false, List, [], ◌∷◌, ◌++◌, length, Option, Some, None, IsTrue, IsFalse, IsSome}
use Rattle.c_types.specs.Types.{CType, void, integer, pointer, array, returning, taking, Qualified, is_void, is_function, is_complete, ty_of, cells_of, same_type}
use Rattle.c_typed.specs.declared.program.Start.{Start}
use Rattle.c_typed.specs.Starts.{start_of}
use Rattle.c_typed.specs.Statements.{Cell, Initializer, LocalItem}
use Rattle.typing_rules.specs.Source.{Named, Expr, line_of}
use Rattle.typing_rules.specs.SourceUnits.{Initial, single, braced, Initials, no_initials, first_initial, Item, Declaration}
use Rattle.typing_rules.specs.Known as known
use Rattle.typing_rules.specs.Known.{Known, Linked, Meaning, Predeclared, earlier, innermost, found_in, predeclared_scope, type_of_predeclared}
use Rattle.typing_rules.specs.Limits.{most_cells}
use Rattle.typing_rules.specs.Terms.{Written, operand_of, converted_by}
use Rattle.typing_rules.specs.SpecifierRules.{Storage, no_word}
use Rattle.typing_rules.specs.DeclaratorRules.{name_of, first_of_declarator, new_local, or_no_name}
use Rattle.typing_rules.specs.DeclarationRules.{linkage, entity_of, agrees_before, agrees_with, has_linkage, number_of, type_known, declared_entity, TextAt, text_for, text_cells, text_fits, byte_cells, completed, initializer_of, is_past, Initialized}
use Rattle.typing_rules.specs.Constraints.{Converts}
use Rattle.typing_rules.specs.Holding.{Typing, ◌>>=◌, ◌>>◌, Is, Such, Given, Holds, Asks, Makes, Either, Never}
use Rattle.typing_rules.specs.TypingParts.{IsWritten}
use Rattle.typing_rules.specs.Declarators.{AreSpecified, IsDerived, IsDeclared}
use Rattle.typing_rules.specs.Typing.{IsTerm, AreDerivations}

-- ---- objects and functions with linkage

-- a declaration of an object or function agrees with the earlier ones in type and in linkage (C11 6.2.2, 6.2.7p2, 6.7p4)
abbrev pub IsLinked : Named → Storage → Qualified → Typing Linked
IsLinked name storage type = do
  before ← Asks (earlier name.bytes)
  external ← Asks (λ k. linkage storage (is_function type.type) before k.entities)
  old ← Asks (λ k. entity_of before external name.bytes k.entities)
  Given (IsTrue (agrees_before before type))
  Holds (λ k. IsTrue (agrees_with old type k.entities))
  Holds (λ k. IsTrue (has_linkage old external k.entities))
  n ← Asks (λ k. number_of old k.entities)
  Makes (declared_entity old name.bytes type external)
  Makes (known.declared_first n name.line)
  Is (record { entity = n; type = type_known before type })

-- ---- initializers (C11 6.7.9)

abbrev pub IsValueOf : Expr → Typing Written
IsValueOf e = IsWritten (line_of e) (IsTerm e)

-- an initializer of a static object is a constant (C11 6.7.9p4)
abbrev pub IsStart : Test → Option Start → Type 0
IsStart is_static start = IsFalse is_static ⊎ IsSome start

-- a scalar is initialized as by assignment (C11 6.7.9p11)
abbrev pub IsScalar : Test → CType → ℕ → Expr → Typing (List Cell)
IsScalar is_static type index e = do
  a ← IsValueOf e
  form ← Such (Converts type (operand_of a.value))
  Given (IsStart is_static (start_of (converted_by form type a)))
  Is (record { index = index; value = converted_by form type a } ∷ [])

-- an array of characters may be initialized by a text that it has room for but the final 0 (C11 6.7.9p14)
abbrev pub IsTextGiven : CType → Option ℕ → ℕ → Option TextAt → Typing (List Cell)
IsTextGiven element n index None = Never
IsTextGiven element n index (Some t) = do
  Given (IsTrue (text_fits n t.bytes))
  Is (byte_cells t.line (ty_of element) index (text_cells n t.bytes))

abbrev pub AreSingleCells : Test → CType → ℕ → Expr → Typing (List Cell)
AreSingleCells is_static (array q t n) index e = IsTextGiven t n index (text_for t e)
AreSingleCells is_static (returning q t) index e = Never
AreSingleCells is_static (taking p t) index e = Never
AreSingleCells is_static void index e = IsScalar is_static void index e
AreSingleCells is_static (integer ty) index e = IsScalar is_static (integer ty) index e
AreSingleCells is_static (pointer q t) index e = IsScalar is_static (pointer q t) index e

-- the given cells of an object of a type, from a cell on: a list in braces for an array, with no more items than it has
-- elements (C11 6.7.9p2, p17)
unfoldable mutual
  pub AreCellsGiven : Test → CType → ℕ → Initial → Typing (List Cell)
  AreCellsGiven is_static type index (single e) = AreSingleCells is_static type index e
  AreCellsGiven is_static (array q t n) index (braced line items) = AreItemsGiven is_static t n 0 index items
  AreCellsGiven is_static (returning q t) index (braced line items) = Never
  AreCellsGiven is_static (taking p t) index (braced line items) = Never
  AreCellsGiven is_static void index (braced line items) = Never
  AreCellsGiven is_static (integer ty) index (braced line items) = Never
  AreCellsGiven is_static (pointer q t) index (braced line items) = Never

  pub AreItemsGiven : Test → CType → Option ℕ → ℕ → ℕ → Initials → Typing (List Cell)
  AreItemsGiven is_static t n i index no_initials = Is []
  AreItemsGiven is_static t n i index (first_initial x rest) = Either (is_past n i) Never (do
    first ← AreCellsGiven is_static t index x
    others ← AreItemsGiven is_static t n (suc i) (index + cells_of t) rest
    Is (first ++ others))

abbrev pub IsInitialized : Test → Qualified → Initial → Typing Initialized
IsInitialized is_static type x = do
  given ← AreCellsGiven is_static type.type 0 x
  Given (cells_of (completed type.type x) ≤ most_cells)
  Is (record { type = record { qualifiers = type.qualifiers; type = completed type.type x }; given = given })

-- ---- declarations in blocks

abbrev pub IsPredeclaredAgain : Qualified → Predeclared → Typing Meaning
IsPredeclaredAgain type p = do
  Given (IsTrue (same_type type.type (type_of_predeclared p)))
  Is (known.predeclared p)

abbrev pub IsLinkedInBlock : Named → Qualified → Typing Meaning
IsLinkedInBlock name type = do
  l ← IsLinked name no_word type
  Is (known.linked l.entity l.type)

abbrev pub IsFunctionMeaning : Named → Qualified → Option Meaning → Typing Meaning
IsFunctionMeaning name type None = IsLinkedInBlock name type
IsFunctionMeaning name type (Some (known.local n)) = IsLinkedInBlock name type
IsFunctionMeaning name type (Some (known.linked n t)) = IsLinkedInBlock name type
IsFunctionMeaning name type (Some (known.predeclared p)) = IsPredeclaredAgain type p
IsFunctionMeaning name type (Some (known.constant n)) = IsLinkedInBlock name type

abbrev pub HasNoInitial : Option Initial → Typing (Unit {0})
HasNoInitial None = Is tt
HasNoInitial (Some x) = Never

-- a function that a block declares has its meaning in that block alone (C11 6.2.1p4)
abbrev pub IsFunctionInBlock : Named → Qualified → Option Initial → Typing (List LocalItem)
IsFunctionInBlock name type x = do
  Holds (λ k. found_in name.bytes (innermost k.scopes) ≡ None)
  m ← IsFunctionMeaning name type (found_in name.bytes predeclared_scope)
  Makes (known.meaning name.bytes m)
  HasNoInitial x
  Is []

abbrev pub IsLocalInitialized : ℕ → Qualified → Option Initial → Typing (Option Initializer)
IsLocalInitialized n type None = Is None
IsLocalInitialized n type (Some x) = do
  done ← IsInitialized false type x
  Makes (known.local_completed n done.type)
  Is (initializer_of done.type.type done.given)

-- an object has a complete type by its declarator or by its initializer (C11 6.7p7)
abbrev pub IsObjectInBlock : Named → ℕ → Qualified → Option Initial → Typing (List LocalItem)
IsObjectInBlock name first type x = do
  Given (IsFalse (is_void type.type))
  Given (IsSome x ⊎ IsTrue (is_complete type.type))
  n ← Asks (λ k. length k.locals)
  IsDeclared name (known.local n)
  Makes (known.with_local (new_local name first type))
  i ← IsLocalInitialized n type x
  Is (record { number = n; initializer = i } ∷ [])

abbrev pub IsItemInBlock : Qualified → Item → Typing (List LocalItem)
IsItemInBlock base x = do
  ds ← AreDerivations x.declarator
  type ← Such (IsDerived false base ds)
  Either (is_function type.type)
      (IsFunctionInBlock (or_no_name (name_of x.declarator)) type x.initial)
      (IsObjectInBlock (or_no_name (name_of x.declarator)) (first_of_declarator x.declarator) type x.initial)

abbrev pub AreItemsInBlock : Qualified → List Item → Typing (List LocalItem)
AreItemsInBlock base [] = Is []
AreItemsInBlock base (x ∷ rest) = do
  first ← IsItemInBlock base x
  others ← AreItemsInBlock base rest
  Is (first ++ others)

abbrev pub IsDeclaredInBlock : Declaration → Typing (List LocalItem)
IsDeclaredInBlock d = do
  base ← AreSpecified false d.specifiers
  AreItemsInBlock base.type d.items
