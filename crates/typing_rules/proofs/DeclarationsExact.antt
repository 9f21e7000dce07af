-- Declarations and initializers: the ordered function and the relation are one.
use Rattle.std.proofs.Common.{ℕ, suc, ◌+◌, Bool as Test, false, not, List, [], ◌∷◌, Option, Some, None, ◌⊎◌, ◌↔◌, arith}
use Rattle.std.specs.Prelude.{IsTrue, IsFalse, IsSome, ◌||◌, is_some}
use Rattle.c_types.specs.Types.{CType, void, integer, pointer, array, returning, taking, Qualified, is_void, is_function, is_complete, cells_of, same_type}
use Rattle.c_typed.specs.declared.program.Start.{Start}
use Rattle.typing_rules.specs.declared.refusal.TypeRefusal.TheVariants.{Twice, Mismatch, TooLarge}
use Rattle.typing_rules.specs.declared.refusal.Size.TheVariants.{Cells}
use Rattle.typing_rules.specs.Source.{Named, Expr, line_of}
use Rattle.typing_rules.specs.SourceUnits.{Initial, single, braced, Initials, no_initials, first_initial, Item, Declaration}
use Rattle.typing_rules.specs.Known as known
use Rattle.typing_rules.specs.Known.{Known, Linked, Meaning, Predeclared, innermost, found_in, predeclared_scope, type_of_predeclared}
use Rattle.typing_rules.specs.Limits.{most_cells}
use Rattle.typing_rules.specs.Terms.{operand_of}
use Rattle.typing_rules.specs.SpecifierRules.{Storage, no_word}
use Rattle.typing_rules.specs.DeclaratorRules.{lines_of, name_of, first_of_declarator, or_no_name}
use Rattle.typing_rules.specs.DeclarationRules.{agrees_before, TextAt, text_for, text_fits, completed, is_past}
use Rattle.typing_rules.specs.Exact.{Exact}
use Rattle.typing_rules.specs.OrderedDeclarations.{links, value_of, insides, scalar_cells, text_given, single_cells, cells_given, items_given, initialized, linked_in_block, function_meaning, no_initial, function_in_block, local_initialized, object_in_block, item_in_block, items_in_block, declared_in_block}
use Rattle.typing_rules.specs.TypingDeclarations.{IsLinked, IsValueOf, IsStart, IsScalar, IsTextGiven, AreSingleCells, AreCellsGiven, AreItemsGiven, IsInitialized, IsLinkedInBlock, IsFunctionMeaning, HasNoInitial, IsFunctionInBlock, IsLocalInitialized, IsObjectInBlock, IsItemInBlock, AreItemsInBlock, IsDeclaredInBlock}
use Rattle.typing_rules.proofs.Exactness.{exact_pure, exact_refused, exact_asks, exact_makes, exact_bind, exact_needs, exact_tests, exact_ruled, exact_choose, exact_from_result}
use Rattle.typing_rules.proofs.RulesAllow.{conversion_allows}
use Rattle.typing_rules.proofs.PartsExact.{null_is_integer, exact_written, at_most}
use Rattle.typing_rules.proofs.DeclaratorsExact.{exact_specified, derived_allows, is_there, exact_declares}
use Rattle.typing_rules.proofs.TermsExact.{exact_term, exact_derivations}

-- a statement that a test holds is decided by the test
pub itself : (test : Test) → IsTrue test ↔ IsTrue test
itself test = ((λ e. e), (λ e. e))

pub opposite_of : (test : Test) → IsTrue (not test) ↔ IsFalse test
opposite_of test = grind arith

pub exact_links : (name : Named) (word : Storage) (type : Qualified) → Exact (links name word type) (IsLinked name word type)
exact_links name word type =
    exact_bind (exact_asks _) (λ before.
    exact_bind (exact_asks _) (λ external.
    exact_bind (exact_asks _) (λ old.
    exact_bind (exact_needs _ _ (Mismatch name.line 17) (itself (agrees_before before type))) (λ u.
    exact_bind (exact_tests _ _ (Mismatch name.line 17) (λ k. itself _)) (λ u'.
    exact_bind (exact_tests _ _ (Twice name.line) (λ k. itself _)) (λ u''.
    exact_bind (exact_asks _) (λ n.
    exact_bind (exact_makes _) (λ v.
    exact_bind (exact_makes _) (λ v'. exact_pure _)))))))))

pub exact_value : (e : Expr) → Exact (value_of e) (IsValueOf e)
exact_value e = exact_written (line_of e) (exact_term e)

is_start : (is_static : Test) (start : Option Start) → IsTrue (not is_static || is_some start) ↔ IsStart is_static start
is_start is_static start = grind arith

exact_scalar : (is_static : Test) (at : ℕ) (type : CType) (index : ℕ) (e : Expr) → Exact (scalar_cells is_static at type index e)
    (IsScalar is_static type index e)
exact_scalar is_static at type index e =
    exact_bind (exact_value e) (λ a.
    exact_bind (exact_ruled at _ _ (λ f. conversion_allows type (operand_of a.value) f (null_is_integer a.value))) (λ form.
    exact_bind (exact_needs _ _ (Mismatch at 16) (is_start is_static _)) (λ u. exact_pure _)))

exact_text_given : (at : ℕ) (element : CType) (n : Option ℕ) (index : ℕ) (e : Expr) (t : Option TextAt)
    → Exact (text_given at element n index e t) (IsTextGiven element n index t)
exact_text_given at element n index e None = exact_refused (insides (single e)) (Mismatch at 16)
exact_text_given at element n index e (Some t) = exact_bind (exact_needs _ _ (Mismatch at 16) (itself (text_fits n t.bytes))) (λ u. exact_pure _)

exact_single : (is_static : Test) (at : ℕ) (type : CType) (index : ℕ) (e : Expr) → Exact (single_cells is_static at type index e)
    (AreSingleCells is_static type index e)
exact_single is_static at (array q t n) index e = exact_text_given at t n index e (text_for t e)
exact_single is_static at (returning q t) index e = exact_refused (insides (single e)) (Mismatch at 16)
exact_single is_static at (taking p t) index e = exact_refused (insides (single e)) (Mismatch at 16)
exact_single is_static at void index e = exact_scalar is_static at void index e
exact_single is_static at (integer ty) index e = exact_scalar is_static at (integer ty) index e
exact_single is_static at (pointer q t) index e = exact_scalar is_static at (pointer q t) index e

mutual
  unfolding cells_given AreCellsGiven

  pub exact_cells : (is_static : Test) (at : ℕ) (type : CType) (index : ℕ) (x : Initial)
      → Exact (cells_given is_static at type index x) (AreCellsGiven is_static type index x)
  exact_cells is_static at type index (single e) = exact_single is_static at type index e
  exact_cells is_static at (array q t n) index (braced line items) = exact_items is_static at t n 0 index items
  exact_cells is_static at (returning q t) index (braced line items) = exact_refused (insides (braced line items)) (Mismatch at 16)
  exact_cells is_static at (taking p t) index (braced line items) = exact_refused (insides (braced line items)) (Mismatch at 16)
  exact_cells is_static at void index (braced line items) = exact_refused (insides (braced line items)) (Mismatch at 16)
  exact_cells is_static at (integer ty) index (braced line items) = exact_refused (insides (braced line items)) (Mismatch at 16)
  exact_cells is_static at (pointer q t) index (braced line items) = exact_refused (insides (braced line items)) (Mismatch at 16)

  pub exact_items : (is_static : Test) (at : ℕ) (t : CType) (n : Option ℕ) (i index : ℕ) (xs : Initials)
      → Exact (items_given is_static at t n i index xs) (AreItemsGiven is_static t n i index xs)
  exact_items is_static at t n i index no_initials = exact_pure _
  exact_items is_static at t n i index (first_initial x rest) =
      exact_choose (is_past n i) (exact_refused (insides x) (Mismatch at 16))
      (exact_bind (exact_cells is_static at t index x) (λ first. exact_bind (exact_items is_static at t n (suc i) (index + cells_of t) rest)
      (λ others. exact_pure _)))

pub exact_initialized : (is_static : Test) (at : ℕ) (type : Qualified) (x : Initial) → Exact (initialized is_static at type x) (IsInitialized is_static type x)
exact_initialized is_static at type x =
    exact_bind (exact_cells is_static at type.type 0 x) (λ given.
    exact_bind (exact_needs _ _ (TooLarge at Cells) (at_most (cells_of (completed type.type x)) most_cells)) (λ u. exact_pure _))

-- ---- declarations in blocks

exact_linked_in_block : (name : Named) (type : Qualified) → Exact (linked_in_block name type) (IsLinkedInBlock name type)
exact_linked_in_block name type = exact_bind (exact_links name no_word type) (λ l. exact_pure _)

exact_function_meaning : (name : Named) (type : Qualified) (m : Option Meaning) → Exact (function_meaning name type m) (IsFunctionMeaning name type m)
exact_function_meaning name type None = exact_linked_in_block name type
exact_function_meaning name type (Some (known.local n)) = exact_linked_in_block name type
exact_function_meaning name type (Some (known.linked n t)) = exact_linked_in_block name type
exact_function_meaning name type (Some (known.predeclared p)) =
    exact_bind (exact_needs _ _ (Mismatch name.line 17) (itself (same_type type.type (type_of_predeclared p)))) (λ u. exact_pure _)
exact_function_meaning name type (Some (known.constant n)) = exact_linked_in_block name type

pub exact_no_initial : (at : ℕ) (x : Option Initial) → Exact (no_initial at x) (HasNoInitial x)
exact_no_initial at None = exact_pure tt
exact_no_initial at (Some x) = exact_refused (insides x) (Mismatch at 16)

exact_function_in_block : (name : Named) (type : Qualified) (x : Option Initial) → Exact (function_in_block name type x) (IsFunctionInBlock name type x)
exact_function_in_block name type x =
    exact_bind (exact_tests _ _ (Twice name.line) (λ k. is_there (found_in name.bytes (innermost k.scopes)))) (λ u.
    exact_bind (exact_function_meaning name type (found_in name.bytes predeclared_scope)) (λ m.
    exact_bind (exact_makes _) (λ u'.
    exact_bind (exact_no_initial name.line x) (λ u''. exact_pure _))))

exact_local_initialized : (at n : ℕ) (type : Qualified) (x : Option Initial) → Exact (local_initialized at n type x) (IsLocalInitialized n type x)
exact_local_initialized at n type None = exact_pure None
exact_local_initialized at n type (Some x) =
    exact_bind (exact_initialized false at type x) (λ done. exact_bind (exact_makes _) (λ u. exact_pure _))

is_complete_by : (x : Option Initial) (test : Test) → IsTrue (is_some x || test) ↔ (IsSome x ⊎ IsTrue test)
is_complete_by x test = grind arith

exact_object_in_block : (name : Named) (first : ℕ) (type : Qualified) (x : Option Initial) → Exact (object_in_block name first type x)
    (IsObjectInBlock name first type x)
exact_object_in_block name first type x =
    exact_bind (exact_needs _ _ (Mismatch name.line 14) (opposite_of (is_void type.type))) (λ u.
    exact_bind (exact_needs _ _ (Mismatch name.line 15) (is_complete_by x (is_complete type.type))) (λ u'.
    exact_bind (exact_asks _) (λ n.
    exact_bind (exact_declares name (known.local n)) (λ v.
    exact_bind (exact_makes _) (λ v'.
    exact_bind (exact_local_initialized name.line n type x) (λ i. exact_pure _))))))

exact_item_in_block : (base : Qualified) (specifiers : ℕ) (x : Item) → Exact (item_in_block base specifiers x) (IsItemInBlock base x)
exact_item_in_block base specifiers x =
    exact_bind (exact_derivations (lines_of x.declarator specifiers) x.declarator) (λ ds.
    exact_bind (exact_from_result _ _ (derived_allows (lines_of x.declarator specifiers) false base ds)) (λ type.
    exact_choose (is_function type.type)
    (exact_function_in_block (or_no_name (name_of x.declarator)) type x.initial)
    (exact_object_in_block (or_no_name (name_of x.declarator)) (first_of_declarator x.declarator) type x.initial)))

exact_items_in_block : (base : Qualified) (specifiers : ℕ) (xs : List Item) → Exact (items_in_block base specifiers xs) (AreItemsInBlock base xs)
exact_items_in_block base specifiers [] = exact_pure []
exact_items_in_block base specifiers (x ∷ rest) =
    exact_bind (exact_item_in_block base specifiers x) (λ first. exact_bind (exact_items_in_block base specifiers rest) (λ others. exact_pure _))

pub exact_declared_in_block : (d : Declaration) → Exact (declared_in_block d) (IsDeclaredInBlock d)
exact_declared_in_block d =
    exact_bind (exact_specified false d.specifiers) (λ base. exact_items_in_block base.type d.specifiers.line d.items)
