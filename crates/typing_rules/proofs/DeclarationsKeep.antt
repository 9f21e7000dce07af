-- Declarations in blocks keep that the contents of objects fit.
use Rattle.std.proofs.Common.{ℕ, suc, ◌+◌, Bool as Test, false, List, [], ◌∷◌, refl, Option, Some, None}
use Rattle.c_types.specs.Types.{CType, void, integer, pointer, array, returning, taking, Qualified, cells_of}
use Rattle.typing_rules.specs.Source.{Named, Expr, line_of}
use Rattle.typing_rules.specs.SourceUnits.{Initial, single, braced, Initials, no_initials, first_initial, Item, Declaration}
use Rattle.typing_rules.specs.Known as known
use Rattle.typing_rules.specs.Known.{Known, Linked, Meaning, Predeclared, innermost, found_in, predeclared_scope, type_of_predeclared}
use Rattle.typing_rules.specs.SpecifierRules.{Storage, no_word}
use Rattle.typing_rules.specs.DeclaratorRules.{lines_of, name_of, first_of_declarator, or_no_name}
use Rattle.typing_rules.specs.DeclarationRules.{TextAt, text_for}
use Rattle.typing_rules.specs.TypingDeclarations.{IsLinked, IsValueOf, IsScalar, IsTextGiven, AreSingleCells, AreCellsGiven, AreItemsGiven, IsInitialized, IsLinkedInBlock, IsFunctionMeaning, HasNoInitial, IsFunctionInBlock, IsLocalInitialized, IsObjectInBlock, IsItemInBlock, AreItemsInBlock, IsDeclaredInBlock}
use Rattle.typing_rules.proofs.Keeping.{Keeps, keeps_is, keeps_never, keeps_given, keeps_holds, keeps_such, keeps_asks, keeps_makes, keeps_bind, keeps_either, keeps_first, keeps_entity}
use Rattle.typing_rules.proofs.PartsKeep.{keeps_written}
use Rattle.typing_rules.proofs.DeclaratorsKeep.{keeps_specified, keeps_declares}
use Rattle.typing_rules.proofs.TermsKeep.{keeps_term, keeps_derivations}

pub keeps_links : (name : Named) (word : Storage) (type : Qualified) → Keeps (IsLinked name word type)
keeps_links name word type =
    keeps_bind keeps_asks (λ before. keeps_bind keeps_asks (λ external. keeps_bind keeps_asks (λ old. keeps_bind keeps_given (λ u.
    keeps_bind keeps_holds (λ u'. keeps_bind keeps_holds (λ u''. keeps_bind keeps_asks (λ n.
    keeps_bind (keeps_entity old name.bytes type external) (λ v. keeps_bind (keeps_first n name.line) (λ v'. keeps_is)))))))))

pub keeps_value : (e : Expr) → Keeps (IsValueOf e)
keeps_value e = keeps_written (line_of e) (keeps_term e)

keeps_scalar : (is_static : Test) (at : ℕ) (type : CType) (index : ℕ) (e : Expr) → Keeps (IsScalar is_static type index e)
keeps_scalar is_static at type index e = keeps_bind (keeps_value e) (λ a. keeps_bind keeps_such (λ form. keeps_bind keeps_given (λ u. keeps_is)))

keeps_text_given : (at : ℕ) (element : CType) (n : Option ℕ) (index : ℕ) (e : Expr) (t : Option TextAt) → Keeps (IsTextGiven element n index t)
keeps_text_given at element n index e None = keeps_never
keeps_text_given at element n index e (Some t) = keeps_bind keeps_given (λ u. keeps_is)

keeps_single : (is_static : Test) (at : ℕ) (type : CType) (index : ℕ) (e : Expr) → Keeps (AreSingleCells is_static type index e)
keeps_single is_static at (array q t n) index e = keeps_text_given at t n index e (text_for t e)
keeps_single is_static at (returning q t) index e = keeps_never
keeps_single is_static at (taking p t) index e = keeps_never
keeps_single is_static at void index e = keeps_scalar is_static at void index e
keeps_single is_static at (integer ty) index e = keeps_scalar is_static at (integer ty) index e
keeps_single is_static at (pointer q t) index e = keeps_scalar is_static at (pointer q t) index e

mutual
  unfolding AreCellsGiven

  pub keeps_cells : (is_static : Test) (at : ℕ) (type : CType) (index : ℕ) (x : Initial) → Keeps (AreCellsGiven is_static type index x)
  keeps_cells is_static at type index (single e) = keeps_single is_static at type index e
  keeps_cells is_static at (array q t n) index (braced line items) = keeps_items is_static at t n 0 index items
  keeps_cells is_static at (returning q t) index (braced line items) = keeps_never
  keeps_cells is_static at (taking p t) index (braced line items) = keeps_never
  keeps_cells is_static at void index (braced line items) = keeps_never
  keeps_cells is_static at (integer ty) index (braced line items) = keeps_never
  keeps_cells is_static at (pointer q t) index (braced line items) = keeps_never

  pub keeps_items : (is_static : Test) (at : ℕ) (t : CType) (n : Option ℕ) (i index : ℕ) (xs : Initials)
      → Keeps (AreItemsGiven is_static t n i index xs)
  keeps_items is_static at t n i index no_initials = keeps_is
  keeps_items is_static at t n i index (first_initial x rest) =
      keeps_either keeps_never (keeps_bind (keeps_cells is_static at t index x) (λ first.
      keeps_bind (keeps_items is_static at t n (suc i) (index + cells_of t) rest) (λ others. keeps_is)))

pub keeps_initialized : (is_static : Test) (at : ℕ) (type : Qualified) (x : Initial) → Keeps (IsInitialized is_static type x)
keeps_initialized is_static at type x = keeps_bind (keeps_cells is_static at type.type 0 x) (λ given. keeps_bind keeps_given (λ u. keeps_is))

keeps_linked_in_block : (name : Named) (type : Qualified) → Keeps (IsLinkedInBlock name type)
keeps_linked_in_block name type = keeps_bind (keeps_links name no_word type) (λ l. keeps_is)

keeps_function_meaning : (name : Named) (type : Qualified) (m : Option Meaning) → Keeps (IsFunctionMeaning name type m)
keeps_function_meaning name type None = keeps_linked_in_block name type
keeps_function_meaning name type (Some (known.local n)) = keeps_linked_in_block name type
keeps_function_meaning name type (Some (known.linked n t)) = keeps_linked_in_block name type
keeps_function_meaning name type (Some (known.predeclared p)) = keeps_bind keeps_given (λ u. keeps_is)
keeps_function_meaning name type (Some (known.constant n)) = keeps_linked_in_block name type

pub keeps_no_initial : (at : ℕ) (x : Option Initial) → Keeps (HasNoInitial x)
keeps_no_initial at None = keeps_is
keeps_no_initial at (Some x) = keeps_never

keeps_function_in_block : (name : Named) (type : Qualified) (x : Option Initial) → Keeps (IsFunctionInBlock name type x)
keeps_function_in_block name type x =
    keeps_bind keeps_holds (λ u. keeps_bind (keeps_function_meaning name type (found_in name.bytes predeclared_scope)) (λ m.
    keeps_bind (keeps_makes (λ k. refl)) (λ u'. keeps_bind (keeps_no_initial name.line x) (λ u''. keeps_is))))

keeps_local_initialized : (at n : ℕ) (type : Qualified) (x : Option Initial) → Keeps (IsLocalInitialized n type x)
keeps_local_initialized at n type None = keeps_is
keeps_local_initialized at n type (Some x) =
    keeps_bind (keeps_initialized false at type x) (λ done. keeps_bind (keeps_makes (λ k. refl)) (λ u. keeps_is))

keeps_object_in_block : (name : Named) (first : ℕ) (type : Qualified) (x : Option Initial) → Keeps (IsObjectInBlock name first type x)
keeps_object_in_block name first type x =
    keeps_bind keeps_given (λ u. keeps_bind keeps_given (λ u'. keeps_bind keeps_asks (λ n.
    keeps_bind (keeps_declares name (known.local n)) (λ v. keeps_bind (keeps_makes (λ k. refl)) (λ v'.
    keeps_bind (keeps_local_initialized name.line n type x) (λ i. keeps_is))))))

keeps_item_in_block : (base : Qualified) (specifiers : ℕ) (x : Item) → Keeps (IsItemInBlock base x)
keeps_item_in_block base specifiers x =
    keeps_bind (keeps_derivations (lines_of x.declarator specifiers) x.declarator) (λ ds. keeps_bind keeps_such (λ type.
    keeps_either (keeps_function_in_block (or_no_name (name_of x.declarator)) type x.initial)
    (keeps_object_in_block (or_no_name (name_of x.declarator)) (first_of_declarator x.declarator) type x.initial)))

keeps_items_in_block : (base : Qualified) (specifiers : ℕ) (xs : List Item) → Keeps (AreItemsInBlock base xs)
keeps_items_in_block base specifiers [] = keeps_is
keeps_items_in_block base specifiers (x ∷ rest) =
    keeps_bind (keeps_item_in_block base specifiers x) (λ first. keeps_bind (keeps_items_in_block base specifiers rest) (λ others. keeps_is))

pub keeps_declared_in_block : (d : Declaration) → Keeps (IsDeclaredInBlock d)
keeps_declared_in_block d = keeps_bind (keeps_specified false d.specifiers) (λ base. keeps_items_in_block base.type d.specifiers.line d.items)
