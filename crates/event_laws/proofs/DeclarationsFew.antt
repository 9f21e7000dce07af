-- What a block declares is initialized with no more events than there are tokens: a scalar is written with that of its name.
use Rattle.std.proofs.Common.{◌≡◌, ℕ, suc, ◌+◌, ◌≤◌, Bool as Test, false, List, [], ◌∷◌, ◌++◌, Option, Some, None, arith}
use Rattle.srmt_base.specs.declared.ty.Ty.{Ty}
use Rattle.srmt_base.specs.declared.ty.Ty.TheVariants.{Char}
use Rattle.srmt_base.specs.Convert.{convert_of}
use Rattle.c_types.specs.Types.{CType, void, integer, pointer, array, returning, taking, Qualified, is_array, ty_of, cells_of}
use Rattle.c_typed.specs.Statements.{Cell, Initializer, cells, LocalItem}
use Rattle.source_meaning.specs.EventLaws.{events_of_cells, events_of_initial, events_of_locals}
use Rattle.typing_rules.specs.Source.{Named, Expr, line_of}
use Rattle.typing_rules.specs.SourceUnits.{Initial, single, braced, Initials, no_initials, first_initial, Item, Declaration}
use Rattle.typing_rules.specs.Terms.{number_value}
use Rattle.typing_rules.specs.DeclaratorRules.{name_of, first_of_declarator, or_no_name}
use Rattle.typing_rules.specs.DeclarationRules.{TextAt, text_for, text_cells, byte_cells, scalar_of, initializer_of}
use Rattle.typing_rules.specs.TypingDeclarations.{IsValueOf, IsScalar, IsTextGiven, AreSingleCells, AreCellsGiven, AreItemsGiven, IsInitialized, IsFunctionInBlock, IsLocalInitialized, IsObjectInBlock, IsItemInBlock, AreItemsInBlock, IsDeclaredInBlock}
use Rattle.typing_rules.proofs.LanguageNodesMade.{if_has}
use Rattle.event_laws.specs.TokensOf.{tokens_of, tokens_of_initial, tokens_of_initials, tokens_of_initial_if, tokens_of_item, tokens_of_declared, tokens_of_declaration}
use Rattle.event_laws.proofs.Giving.{Gives, gives_is, gives_never, gives_bind, gives_after, gives_either}
use Rattle.event_laws.proofs.NodesFew.{converted_within, converted_by_within}
use Rattle.event_laws.proofs.PartsFew.{WrittenWithin, constant_within, written_within}
use Rattle.event_laws.proofs.TermsFew.{term_within}

pub value_within : (e : Expr) → Gives (WrittenWithin (tokens_of e)) (IsValueOf e)
value_within e = written_within (line_of e) (term_within e)

-- ---- initializers

abbrev CellsWithin : ℕ → List Cell → Type 0
CellsWithin n given = events_of_cells given ≤ n

cells_append : (xs ys : List Cell) → events_of_cells (xs ++ ys) ≡ events_of_cells xs + events_of_cells ys
cells_append [] ys = omega arith
cells_append (x ∷ xs) ys = let rest = cells_append xs ys in omega (arith, rest)

both_within : (m n : ℕ) (xs ys : List Cell) → CellsWithin m xs → CellsWithin n ys → CellsWithin (m + n) (xs ++ ys)
both_within m n xs ys h k = let all = cells_append xs ys in omega (arith, all, h, k)

bytes_within : (m line : ℕ) (ty : Ty) (n : ℕ) (bytes : List ℕ) → CellsWithin m (byte_cells line ty n bytes)
bytes_within m line ty n [] = omega arith
bytes_within m line ty n (byte ∷ rest) =
    let first = converted_within 0 ty (record { first = line; value = number_value line Char (convert_of Char Char byte) }) (constant_within 0 line _ _) in
    let others = bytes_within m line ty (suc n) rest in
    omega (arith, first, others)

text_given_within : (m : ℕ) (element : CType) (n : Option ℕ) (index : ℕ) (t : Option TextAt) → Gives (CellsWithin m) (IsTextGiven element n index t)
text_given_within m element n index None = gives_never
text_given_within m element n index (Some t) = gives_after (λ u. gives_is (bytes_within m t.line (ty_of element) index (text_cells n t.bytes)))

scalar_within : (is_static : Test) (type : CType) (index : ℕ) (e : Expr) → Gives (CellsWithin (tokens_of e)) (IsScalar is_static type index e)
scalar_within is_static type index e =
    gives_bind (value_within e) (λ a p. gives_after (λ form. gives_after (λ u.
    gives_is (let one = converted_by_within (tokens_of e) form type a p in omega (arith, one)))))

single_within : (is_static : Test) (type : CType) (index : ℕ) (e : Expr) → Gives (CellsWithin (tokens_of e)) (AreSingleCells is_static type index e)
single_within is_static (array q t n) index e = text_given_within (tokens_of e) t n index (text_for t e)
single_within is_static (returning q t) index e = gives_never
single_within is_static (taking p t) index e = gives_never
single_within is_static void index e = scalar_within is_static void index e
single_within is_static (integer ty) index e = scalar_within is_static (integer ty) index e
single_within is_static (pointer q t) index e = scalar_within is_static (pointer q t) index e

mutual
  unfolding AreCellsGiven tokens_of_initial

  cells_within : (is_static : Test) (type : CType) (index : ℕ) (x : Initial)
      → Gives (CellsWithin (tokens_of_initial x)) (AreCellsGiven is_static type index x)
  cells_within is_static type index (single e) = single_within is_static type index e
  cells_within is_static (array q t n) index (braced line items) = items_within is_static t n 0 index items
  cells_within is_static (returning q t) index (braced line items) = gives_never
  cells_within is_static (taking p t) index (braced line items) = gives_never
  cells_within is_static void index (braced line items) = gives_never
  cells_within is_static (integer ty) index (braced line items) = gives_never
  cells_within is_static (pointer q t) index (braced line items) = gives_never

  items_within : (is_static : Test) (t : CType) (n : Option ℕ) (i index : ℕ) (xs : Initials)
      → Gives (CellsWithin (tokens_of_initials xs)) (AreItemsGiven is_static t n i index xs)
  items_within is_static t n i index no_initials = gives_is (omega arith)
  items_within is_static t n i index (first_initial x rest) =
      gives_either gives_never (gives_bind (cells_within is_static t index x) (λ first p.
      gives_bind (items_within is_static t n (suc i) (index + cells_of t) rest) (λ others q.
      gives_is (both_within (tokens_of_initial x) (tokens_of_initials rest) first others p q))))

initialized_within : (is_static : Test) (type : Qualified) (x : Initial)
    → Gives (λ done. CellsWithin (tokens_of_initial x) done.given) (IsInitialized is_static type x)
initialized_within is_static type x = gives_bind (cells_within is_static type.type 0 x) (λ given p. gives_after (λ u. gives_is p))

-- ---- declarations in blocks

abbrev InitialWithin : ℕ → Option Initializer → Type 0
InitialWithin n i = events_of_initial i ≤ n

abbrev pub LocalsWithin : ℕ → List LocalItem → Type 0
LocalsWithin n locals = events_of_locals locals ≤ n

one_within : (n : ℕ) (given : List Cell) → CellsWithin n given → InitialWithin (1 + n) (scalar_of given)
one_within n [] h = omega arith
one_within n (c ∷ rest) h = omega (arith, h)

initializer_within : (n : ℕ) (type : CType) (given : List Cell) → CellsWithin n given → InitialWithin (1 + n) (initializer_of type given)
initializer_within n type given h =
    if_has (InitialWithin (1 + n)) (is_array type) (Some (cells given)) (scalar_of given) (omega (arith, h)) (one_within n given h)

local_within : (n : ℕ) (type : Qualified) (x : Option Initial) → Gives (InitialWithin (1 + tokens_of_initial_if x)) (IsLocalInitialized n type x)
local_within n type None = gives_is (omega arith)
local_within n type (Some x) =
    gives_bind (initialized_within false type x) (λ done p. gives_after (λ u.
    gives_is (initializer_within (tokens_of_initial x) done.type.type done.given p)))

function_within : (n : ℕ) (name : Named) (type : Qualified) (x : Option Initial) → Gives (LocalsWithin n) (IsFunctionInBlock name type x)
function_within n name type x = gives_after (λ u. gives_after (λ m. gives_after (λ u'. gives_after (λ u''. gives_is (omega arith)))))

object_within : (name : Named) (first : ℕ) (type : Qualified) (x : Option Initial)
    → Gives (LocalsWithin (1 + tokens_of_initial_if x)) (IsObjectInBlock name first type x)
object_within name first type x =
    gives_after (λ u. gives_after (λ u'. gives_after (λ n. gives_after (λ v. gives_after (λ v'.
    gives_bind (local_within n type x) (λ i p. gives_is (omega (arith, p))))))))

item_within : (base : Qualified) (x : Item) → Gives (LocalsWithin (tokens_of_item x)) (IsItemInBlock base x)
item_within base x =
    gives_after (λ ds. gives_after (λ type.
    gives_either (function_within (tokens_of_item x) (or_no_name (name_of x.declarator)) type x.initial)
    (object_within (or_no_name (name_of x.declarator)) (first_of_declarator x.declarator) type x.initial)))

locals_append : (xs ys : List LocalItem) → events_of_locals (xs ++ ys) ≡ events_of_locals xs + events_of_locals ys
locals_append [] ys = omega arith
locals_append (x ∷ xs) ys = let rest = locals_append xs ys in omega (arith, rest)

declared_items_within : (base : Qualified) (xs : List Item) → Gives (LocalsWithin (tokens_of_declared xs)) (AreItemsInBlock base xs)
declared_items_within base [] = gives_is (omega arith)
declared_items_within base (x ∷ rest) =
    gives_bind (item_within base x) (λ first p. gives_bind (declared_items_within base rest) (λ others q.
    gives_is (let all = locals_append first others in omega (arith, all, p, q))))

pub declared_within : (d : Declaration) → Gives (LocalsWithin (tokens_of_declaration d)) (IsDeclaredInBlock d)
declared_within d = gives_after (λ base. declared_items_within base.type d.items)
