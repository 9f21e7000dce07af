-- Declarations in blocks and statements keep an invariant that declarations of functions keep.
use Rattle.std.proofs.Common.{ℕ, Bool as Test, true, false, List, [], ◌∷◌, Option, Some, None}
use Rattle.c_types.specs.Types.{CType, Qualified}
use Rattle.typing_rules.specs.Source.{Named, Expr}
use Rattle.typing_rules.specs.SourceUnits.{Initial, Item, Declaration, ForStart, starts, declares, Stmt, block, empty, expression, if_only, if_else, while, do_while, for, continue, break, return, Items, no_items, declaration, statement}
use Rattle.typing_rules.specs.Known as known
use Rattle.typing_rules.specs.Known.{Known, Meaning, found_in, predeclared_scope}
use Rattle.typing_rules.specs.SpecifierRules.{Storage, no_word}
use Rattle.typing_rules.specs.DeclaratorRules.{name_of, first_of_declarator, or_no_name}
use Rattle.typing_rules.specs.TypingDeclarations.{IsLinked, IsLinkedInBlock, IsFunctionMeaning, HasNoInitial, IsFunctionInBlock, IsLocalInitialized, IsObjectInBlock, IsItemInBlock, AreItemsInBlock, IsDeclaredInBlock}
use Rattle.typing_rules.specs.TypingStatements.{IsCondition, IsConditionIf, IsValueIf, IsReturned, IsForStart, IsForEnd, IsStmt, AreItems}
use Rattle.room_laws.proofs.Keeping.{Keeps, Stays, keeps_is, keeps_never, keeps_given, keeps_holds, keeps_such, keeps_asks, keeps_makes, keeps_bind, keeps_either}
use Rattle.room_laws.proofs.DeclaratorsKeep.{keeps_specified, keeps_declares}
use Rattle.room_laws.proofs.TermsKeep.{keeps_derivations}
use Rattle.room_laws.proofs.InitializersKeep.{keeps_value, keeps_initialized}

pub keeps_no_initial : {I : Known → Type 0} (x : Option Initial) → Keeps I (HasNoInitial x)
keeps_no_initial None = keeps_is
keeps_no_initial (Some x) = keeps_never

module _ {I : Known → Type 0} (stays : Stays I) (links : (name : Named) (word : Storage) (type : Qualified) → Keeps I (IsLinked name word type)) where
  -- ---- declarations in blocks

  keeps_linked_in_block : (name : Named) (type : Qualified) → Keeps I (IsLinkedInBlock name type)
  keeps_linked_in_block name type = keeps_bind (links name no_word type) (λ l. keeps_is)

  keeps_function_meaning : (name : Named) (type : Qualified) (m : Option Meaning) → Keeps I (IsFunctionMeaning name type m)
  keeps_function_meaning name type None = keeps_linked_in_block name type
  keeps_function_meaning name type (Some (known.local n)) = keeps_linked_in_block name type
  keeps_function_meaning name type (Some (known.linked n t)) = keeps_linked_in_block name type
  keeps_function_meaning name type (Some (known.predeclared p)) = keeps_bind keeps_given (λ u. keeps_is)
  keeps_function_meaning name type (Some (known.constant n)) = keeps_linked_in_block name type

  keeps_function_in_block : (name : Named) (type : Qualified) (x : Option Initial) → Keeps I (IsFunctionInBlock name type x)
  keeps_function_in_block name type x =
      keeps_bind keeps_holds (λ u. keeps_bind (keeps_function_meaning name type (found_in name.bytes predeclared_scope)) (λ m.
      keeps_bind (keeps_makes (λ k i. stays.scopes k _ i)) (λ u'. keeps_bind (keeps_no_initial x) (λ u''. keeps_is))))

  keeps_local_initialized : (n : ℕ) (type : Qualified) (x : Option Initial) → Keeps I (IsLocalInitialized n type x)
  keeps_local_initialized n type None = keeps_is
  keeps_local_initialized n type (Some x) =
      keeps_bind (keeps_initialized stays false type x) (λ done. keeps_bind (keeps_makes (λ k i. stays.locals k _ i)) (λ u. keeps_is))

  keeps_object_in_block : (name : Named) (first : ℕ) (type : Qualified) (x : Option Initial) → Keeps I (IsObjectInBlock name first type x)
  keeps_object_in_block name first type x =
      keeps_bind keeps_given (λ u. keeps_bind keeps_given (λ u'. keeps_bind keeps_asks (λ n.
      keeps_bind (keeps_declares stays name (known.local n)) (λ v. keeps_bind (keeps_makes (λ k i. stays.locals k _ i)) (λ v'.
      keeps_bind (keeps_local_initialized n type x) (λ i. keeps_is))))))

  keeps_item_in_block : (base : Qualified) (x : Item) → Keeps I (IsItemInBlock base x)
  keeps_item_in_block base x =
      keeps_bind (keeps_derivations stays x.declarator) (λ ds. keeps_bind keeps_such (λ type.
      keeps_either (keeps_function_in_block (or_no_name (name_of x.declarator)) type x.initial)
      (keeps_object_in_block (or_no_name (name_of x.declarator)) (first_of_declarator x.declarator) type x.initial)))

  keeps_items_in_block : (base : Qualified) (xs : List Item) → Keeps I (AreItemsInBlock base xs)
  keeps_items_in_block base [] = keeps_is
  keeps_items_in_block base (x ∷ rest) =
      keeps_bind (keeps_item_in_block base x) (λ first. keeps_bind (keeps_items_in_block base rest) (λ others. keeps_is))

  keeps_declared_in_block : (d : Declaration) → Keeps I (IsDeclaredInBlock d)
  keeps_declared_in_block d = keeps_bind (keeps_specified stays false d.specifiers) (λ base. keeps_items_in_block base.type d.items)

  -- ---- statements

  keeps_condition : (e : Expr) → Keeps I (IsCondition e)
  keeps_condition e = keeps_bind (keeps_value stays e) (λ a. keeps_bind keeps_such (λ u. keeps_is))

  keeps_condition_if : (e : Option Expr) → Keeps I (IsConditionIf e)
  keeps_condition_if None = keeps_is
  keeps_condition_if (Some e) = keeps_bind (keeps_condition e) (λ v. keeps_is)

  keeps_value_if : (e : Option Expr) → Keeps I (IsValueIf e)
  keeps_value_if None = keeps_is
  keeps_value_if (Some e) = keeps_bind (keeps_value stays e) (λ a. keeps_is)

  keeps_returned : (result : CType) (e : Option Expr) → Keeps I (IsReturned result e)
  keeps_returned result None = keeps_bind keeps_given (λ u. keeps_is)
  keeps_returned result (Some e) = keeps_bind (keeps_value stays e) (λ a. keeps_bind keeps_given (λ u. keeps_bind keeps_such (λ form. keeps_is)))

  keeps_for_start : (start : ForStart) → Keeps I (IsForStart start)
  keeps_for_start (starts e) = keeps_bind (keeps_value_if e) (λ first. keeps_is)
  keeps_for_start (declares d) =
      keeps_bind (keeps_makes (λ k i. stays.scopes k _ i)) (λ u. keeps_bind (keeps_declared_in_block d) (λ locals. keeps_is))

  keeps_for_end : (start : ForStart) → Keeps I (IsForEnd start)
  keeps_for_end (starts e) = keeps_is
  keeps_for_end (declares d) = keeps_makes (λ k i. stays.scopes k _ i)

  mutual
    unfolding IsStmt

    keeps_stmt : (result : CType) (in_loop : Test) (s : Stmt) → Keeps I (IsStmt result in_loop s)
    keeps_stmt result in_loop (block line items end) =
        keeps_bind (keeps_makes (λ k i. stays.scopes k _ i)) (λ u. keeps_bind (keeps_items result in_loop items) (λ parts.
        keeps_bind (keeps_makes (λ k i. stays.scopes k _ i)) (λ u'. keeps_is)))
    keeps_stmt result in_loop (empty line) = keeps_is
    keeps_stmt result in_loop (expression line e) = keeps_bind (keeps_value stays e) (λ a. keeps_is)
    keeps_stmt result in_loop (if_only line e s) =
        keeps_bind (keeps_condition e) (λ test. keeps_bind (keeps_stmt result in_loop s) (λ first. keeps_is))
    keeps_stmt result in_loop (if_else line e s u) =
        keeps_bind (keeps_condition e) (λ test. keeps_bind (keeps_stmt result in_loop s) (λ first.
        keeps_bind (keeps_stmt result in_loop u) (λ second. keeps_is)))
    keeps_stmt result in_loop (while line e s) = keeps_bind (keeps_condition e) (λ test. keeps_bind (keeps_stmt result true s) (λ body. keeps_is))
    keeps_stmt result in_loop (do_while line s e) =
        keeps_bind (keeps_stmt result true s) (λ body. keeps_bind (keeps_condition e) (λ test. keeps_is))
    keeps_stmt result in_loop (for line start e u s) =
        keeps_bind (keeps_for_start start) (λ first. keeps_bind (keeps_condition_if e) (λ test. keeps_bind (keeps_value_if u) (λ step.
        keeps_bind (keeps_stmt result true s) (λ body. keeps_bind (keeps_for_end start) (λ u'. keeps_is)))))
    keeps_stmt result in_loop (continue line) = keeps_bind keeps_given (λ u. keeps_is)
    keeps_stmt result in_loop (break line) = keeps_bind keeps_given (λ u. keeps_is)
    keeps_stmt result in_loop (return line e) = keeps_bind (keeps_returned result e) (λ v. keeps_is)

    pub keeps_items : (result : CType) (in_loop : Test) (items : Items) → Keeps I (AreItems result in_loop items)
    keeps_items result in_loop no_items = keeps_is
    keeps_items result in_loop (declaration d rest) =
        keeps_bind (keeps_declared_in_block d) (λ locals. keeps_bind (keeps_items result in_loop rest) (λ others. keeps_is))
    keeps_items result in_loop (statement s rest) =
        keeps_bind (keeps_stmt result in_loop s) (λ first. keeps_bind (keeps_items result in_loop rest) (λ others. keeps_is))
