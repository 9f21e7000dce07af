-- Statements: the ordered function and the relation are one.
use Rattle.std.proofs.Common.{ℕ, Bool as Test, true, Option, Some, None}
use Rattle.c_types.specs.Types.{CType, is_void}
use Rattle.typing_rules.specs.declared.refusal.TypeRefusal.TheVariants.{Mismatch}
use Rattle.typing_rules.specs.Source.{Expr}
use Rattle.typing_rules.specs.SourceUnits.{ForStart, starts, declares, Stmt, block, empty, expression, if_only, if_else, while, do_while, for, continue, break, return, Items, no_items, declaration, statement}
use Rattle.typing_rules.specs.Terms.{operand_of, written_type}
use Rattle.typing_rules.specs.Exact.{Exact}
use Rattle.typing_rules.specs.OrderedStatements.{condition, condition_if, value_if, returned, for_start, for_end, stmt_of, items_of}
use Rattle.typing_rules.specs.TypingStatements.{IsCondition, IsConditionIf, IsValueIf, IsReturned, IsForStart, IsForEnd, IsStmt, AreItems}
use Rattle.typing_rules.proofs.Exactness.{exact_pure, exact_makes, exact_bind, exact_needs, exact_ruled, exact_unless}
use Rattle.typing_rules.proofs.RulesAllow.{tested_allows, conversion_allows}
use Rattle.typing_rules.proofs.PartsExact.{null_is_integer}
use Rattle.typing_rules.proofs.DeclarationsExact.{itself, exact_value, exact_declared_in_block}

exact_condition : (line : ℕ) (e : Expr) → Exact (condition line e) (IsCondition e)
exact_condition line e = exact_bind (exact_value e) (λ a. exact_bind (exact_ruled line _ _ (tested_allows (written_type a))) (λ u. exact_pure _))

exact_condition_if : (line : ℕ) (e : Option Expr) → Exact (condition_if line e) (IsConditionIf e)
exact_condition_if line None = exact_pure None
exact_condition_if line (Some e) = exact_bind (exact_condition line e) (λ v. exact_pure _)

exact_value_if : (e : Option Expr) → Exact (value_if e) (IsValueIf e)
exact_value_if None = exact_pure None
exact_value_if (Some e) = exact_bind (exact_value e) (λ a. exact_pure _)

exact_returned : (line : ℕ) (result : CType) (e : Option Expr) → Exact (returned line result e) (IsReturned result e)
exact_returned line result None = exact_bind (exact_needs _ _ (Mismatch line 19) (itself (is_void result))) (λ u. exact_pure None)
exact_returned line result (Some e) =
    exact_bind (exact_value e) (λ a. exact_unless (is_void result) (Mismatch line 19)
    (exact_bind (exact_ruled line _ _ (λ f. conversion_allows result (operand_of a.value) f (null_is_integer a.value))) (λ form. exact_pure _)))

exact_for_start : (start : ForStart) → Exact (for_start start) (IsForStart start)
exact_for_start (starts e) = exact_bind (exact_value_if e) (λ first. exact_pure _)
exact_for_start (declares d) = exact_bind (exact_makes _) (λ u. exact_bind (exact_declared_in_block d) (λ locals. exact_pure _))

exact_for_end : (start : ForStart) → Exact (for_end start) (IsForEnd start)
exact_for_end (starts e) = exact_pure tt
exact_for_end (declares d) = exact_makes _

mutual
  unfolding stmt_of IsStmt

  pub exact_stmt : (result : CType) (in_loop : Test) (s : Stmt) → Exact (stmt_of result in_loop s) (IsStmt result in_loop s)
  exact_stmt result in_loop (block line items end) =
      exact_bind (exact_makes _) (λ u. exact_bind (exact_items result in_loop items) (λ parts. exact_bind (exact_makes _) (λ u'. exact_pure _)))
  exact_stmt result in_loop (empty line) = exact_pure _
  exact_stmt result in_loop (expression line e) = exact_bind (exact_value e) (λ a. exact_pure _)
  exact_stmt result in_loop (if_only line e s) =
      exact_bind (exact_condition line e) (λ test. exact_bind (exact_stmt result in_loop s) (λ first. exact_pure _))
  exact_stmt result in_loop (if_else line e s u) =
      exact_bind (exact_condition line e) (λ test. exact_bind (exact_stmt result in_loop s)
      (λ first. exact_bind (exact_stmt result in_loop u) (λ second. exact_pure _)))
  exact_stmt result in_loop (while line e s) =
      exact_bind (exact_condition line e) (λ test. exact_bind (exact_stmt result true s) (λ body. exact_pure _))
  exact_stmt result in_loop (do_while line s e) =
      exact_bind (exact_stmt result true s) (λ body. exact_bind (exact_condition line e) (λ test. exact_pure _))
  exact_stmt result in_loop (for line start e u s) =
      exact_bind (exact_for_start start) (λ first.
      exact_bind (exact_condition_if line e) (λ test.
      exact_bind (exact_value_if u) (λ step.
      exact_bind (exact_stmt result true s) (λ body.
      exact_bind (exact_for_end start) (λ u'. exact_pure _)))))
  exact_stmt result in_loop (continue line) = exact_bind (exact_needs _ _ (Mismatch line 18) (itself in_loop)) (λ u. exact_pure _)
  exact_stmt result in_loop (break line) = exact_bind (exact_needs _ _ (Mismatch line 18) (itself in_loop)) (λ u. exact_pure _)
  exact_stmt result in_loop (return line e) = exact_bind (exact_returned line result e) (λ v. exact_pure _)

  pub exact_items : (result : CType) (in_loop : Test) (items : Items) → Exact (items_of result in_loop items) (AreItems result in_loop items)
  exact_items result in_loop no_items = exact_pure _
  exact_items result in_loop (declaration d rest) =
      exact_bind (exact_declared_in_block d) (λ locals. exact_bind (exact_items result in_loop rest) (λ others. exact_pure _))
  exact_items result in_loop (statement s rest) =
      exact_bind (exact_stmt result in_loop s) (λ first. exact_bind (exact_items result in_loop rest) (λ others. exact_pure _))
