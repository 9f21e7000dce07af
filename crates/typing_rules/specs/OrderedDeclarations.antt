-- The ordered function on declarations and initializers.
use Rattle.std.specs.Prelude.{ℕ, suc, ◌+◌, nat_le, Bool as Test, false, not, ◌||◌, List, [], ◌∷◌, ◌++◌, length, Option, Some, None, is_some, is_none}
use Rattle.c_types.specs.Types.{CType, void, integer, pointer, array, returning, taking, Qualified, is_void, is_function, is_complete, ty_of, cells_of, same_type}
use Rattle.c_types.specs.Rules.{conversion_form}
use Rattle.c_typed.specs.Starts.{start_of}
use Rattle.c_typed.specs.Statements.{Cell, Initializer, LocalItem}
use Rattle.typing_rules.specs.declared.refusal.TypeRefusal.TheVariants.{Twice, Mismatch, TooLarge}
use Rattle.typing_rules.specs.declared.refusal.Size.TheVariants.{Cells}
use Rattle.typing_rules.specs.Source.{Named, Expr, line_of}
use Rattle.typing_rules.specs.SourceUnits.{Initial, single, braced, Initials, no_initials, first_initial, Item, Declaration}
use Rattle.typing_rules.specs.Known as known
use Rattle.typing_rules.specs.Known.{Known, Linked, Local, Meaning, Predeclared, entity_at, earlier, all_scopes, innermost, found_in, predeclared_scope, type_of_predeclared}
use Rattle.typing_rules.specs.Limits.{most_cells}
use Rattle.typing_rules.specs.Terms.{Written, operand_of, converted_by}
use Rattle.typing_rules.specs.SpecifierRules.{Storage, no_word}
use Rattle.typing_rules.specs.DeclaratorRules.{lines_of, name_of, first_of_declarator, derived, new_local, or_no_name}
use Rattle.typing_rules.specs.DeclarationRules.{linkage, entity_of, agrees_before, agrees_with, has_linkage, number_of, type_known, declared_entity, TextAt, text_for, text_cells, text_fits, byte_cells, completed, initializer_of, is_past, Initialized}
use Rattle.typing_rules.specs.Checking.{Checking, ◌>>=◌, ◌>>◌, pure, refuse, asks, makes, choose, needs, tests, ruled_by, from_result}
use Rattle.typing_rules.specs.OrderedParts.{written, specified, declares}
use Rattle.typing_rules.specs.Ordered.{term_of, derivations_of}

-- ---- objects and functions with linkage

-- a declaration of an object or function with linkage
abbrev pub links : Named → Storage → Qualified → Checking Linked
links name storage type = do
  before ← asks (earlier name.bytes)
  external ← asks (λ k. linkage storage (is_function type.type) before k.entities)
  old ← asks (λ k. entity_of before external name.bytes k.entities)
  needs (agrees_before before type) (Mismatch name.line 17)
  tests (λ k. agrees_with old type k.entities) (Mismatch name.line 17)
  tests (λ k. has_linkage old external k.entities) (Twice name.line)
  n ← asks (λ k. number_of old k.entities)
  makes (declared_entity old name.bytes type external)
  makes (known.declared_first n name.line)
  pure (record { entity = n; type = type_known before type })

-- ---- initializers

abbrev pub value_of : Expr → Checking Written
value_of e = written (line_of e) (term_of e)

-- the expressions of an initializer of a wrong shape come before it, as operands do
unfoldable mutual
  pub insides : Initial → Checking (Unit {0})
  insides (single e) = value_of e >> pure tt
  insides (braced line items) = all_insides items

  pub all_insides : Initials → Checking (Unit {0})
  all_insides no_initials = pure tt
  all_insides (first_initial x rest) = insides x >> all_insides rest

abbrev pub misshapen : {A : Type 0} → ℕ → Initial → Checking A
misshapen at x = insides x >> refuse (Mismatch at 16)

-- a scalar is converted as by assignment; where the object is static it is a constant (C11 6.7.9p4, p11)
abbrev pub scalar_cells : Test → ℕ → CType → ℕ → Expr → Checking (List Cell)
scalar_cells is_static at type index e = do
  a ← value_of e
  form ← ruled_by at (conversion_form type (operand_of a.value))
  needs (not is_static || is_some (start_of (converted_by form type a))) (Mismatch at 16)
  pure (record { index = index; value = converted_by form type a } ∷ [])

-- a text for an array of characters (C11 6.7.9p14)
abbrev pub text_given : ℕ → CType → Option ℕ → ℕ → Expr → Option TextAt → Checking (List Cell)
text_given at element n index e None = misshapen at (single e)
text_given at element n index e (Some t) = do
  needs (text_fits n t.bytes) (Mismatch at 16)
  pure (byte_cells t.line (ty_of element) index (text_cells n t.bytes))

abbrev pub single_cells : Test → ℕ → CType → ℕ → Expr → Checking (List Cell)
single_cells is_static at (array q t n) index e = text_given at t n index e (text_for t e)
single_cells is_static at (returning q t) index e = misshapen at (single e)
single_cells is_static at (taking p t) index e = misshapen at (single e)
single_cells is_static at void index e = scalar_cells is_static at void index e
single_cells is_static at (integer ty) index e = scalar_cells is_static at (integer ty) index e
single_cells is_static at (pointer q t) index e = scalar_cells is_static at (pointer q t) index e

-- the given cells of an object of a type, from a cell on, with mismatches at the declared name
unfoldable mutual
  pub cells_given : Test → ℕ → CType → ℕ → Initial → Checking (List Cell)
  cells_given is_static at type index (single e) = single_cells is_static at type index e
  cells_given is_static at (array q t n) index (braced line items) = items_given is_static at t n 0 index items
  cells_given is_static at (returning q t) index (braced line items) = misshapen at (braced line items)
  cells_given is_static at (taking p t) index (braced line items) = misshapen at (braced line items)
  cells_given is_static at void index (braced line items) = misshapen at (braced line items)
  cells_given is_static at (integer ty) index (braced line items) = misshapen at (braced line items)
  cells_given is_static at (pointer q t) index (braced line items) = misshapen at (braced line items)

  pub items_given : Test → ℕ → CType → Option ℕ → ℕ → ℕ → Initials → Checking (List Cell)
  items_given is_static at t n i index no_initials = pure []
  items_given is_static at t n i index (first_initial x rest) = choose (is_past n i) (misshapen at x) (do
    first ← cells_given is_static at t index x
    others ← items_given is_static at t n (suc i) (index + cells_of t) rest
    pure (first ++ others))

abbrev pub initialized : Test → ℕ → Qualified → Initial → Checking Initialized
initialized is_static at type x = do
  given ← cells_given is_static at type.type 0 x
  needs (nat_le (cells_of (completed type.type x)) most_cells) (TooLarge at Cells)
  pure (record { type = record { qualifiers = type.qualifiers; type = completed type.type x }; given = given })

-- ---- declarations in blocks

-- a predeclared function that is declared in a block once more
abbrev pub predeclared_again : Named → Qualified → Predeclared → Checking Meaning
predeclared_again name type p = do
  needs (same_type type.type (type_of_predeclared p)) (Mismatch name.line 17)
  pure (known.predeclared p)

abbrev pub linked_in_block : Named → Qualified → Checking Meaning
linked_in_block name type = do
  l ← links name no_word type
  pure (known.linked l.entity l.type)

abbrev pub function_meaning : Named → Qualified → Option Meaning → Checking Meaning
function_meaning name type None = linked_in_block name type
function_meaning name type (Some (known.local n)) = linked_in_block name type
function_meaning name type (Some (known.linked n t)) = linked_in_block name type
function_meaning name type (Some (known.predeclared p)) = predeclared_again name type p
function_meaning name type (Some (known.constant n)) = linked_in_block name type

-- what the name of an initializer that may not stand has in it
abbrev pub no_initial : ℕ → Option Initial → Checking (Unit {0})
no_initial at None = pure tt
no_initial at (Some x) = misshapen at x

-- a function in a block is seen in the block alone
abbrev pub function_in_block : Named → Qualified → Option Initial → Checking (List LocalItem)
function_in_block name type x = do
  tests (λ k. is_none (found_in name.bytes (innermost k.scopes))) (Twice name.line)
  m ← function_meaning name type (found_in name.bytes predeclared_scope)
  makes (known.meaning name.bytes m)
  no_initial name.line x
  pure []

abbrev pub local_initialized : ℕ → ℕ → Qualified → Option Initial → Checking (Option Initializer)
local_initialized at n type None = pure None
local_initialized at n type (Some x) = do
  done ← initialized false at type x
  makes (known.local_completed n done.type)
  pure (initializer_of done.type.type done.given)

-- an object in a block is a local, known from its declarator on (C11 6.2.1p7)
abbrev pub object_in_block : Named → ℕ → Qualified → Option Initial → Checking (List LocalItem)
object_in_block name first type x = do
  needs (not (is_void type.type)) (Mismatch name.line 14)
  needs (is_some x || is_complete type.type) (Mismatch name.line 15)
  n ← asks (λ k. length k.locals)
  declares name (known.local n)
  makes (known.with_local (new_local name first type))
  i ← local_initialized name.line n type x
  pure (record { number = n; initializer = i } ∷ [])

abbrev pub item_in_block : Qualified → ℕ → Item → Checking (List LocalItem)
item_in_block base specifiers x = do
  ds ← derivations_of (lines_of x.declarator specifiers) x.declarator
  type ← from_result (derived (lines_of x.declarator specifiers) false base ds)
  choose (is_function type.type)
      (function_in_block (or_no_name (name_of x.declarator)) type x.initial)
      (object_in_block (or_no_name (name_of x.declarator)) (first_of_declarator x.declarator) type x.initial)

abbrev pub items_in_block : Qualified → ℕ → List Item → Checking (List LocalItem)
items_in_block base specifiers [] = pure []
items_in_block base specifiers (x ∷ rest) = do
  first ← item_in_block base specifiers x
  others ← items_in_block base specifiers rest
  pure (first ++ others)

abbrev pub declared_in_block : Declaration → Checking (List LocalItem)
declared_in_block d = do
  base ← specified false d.specifiers
  items_in_block base.type d.specifiers.line d.items
