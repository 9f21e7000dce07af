-- Statements keep that the contents of objects fit.
use Rattle.std.proofs.Common.{ℕ, Bool as Test, true, Option, Some, None, refl}
use Rattle.c_types.specs.Types.{CType}
use Rattle.typing_rules.specs.Source.{Expr}
use Rattle.typing_rules.specs.SourceUnits.{ForStart, starts, declares, Stmt, block, empty, expression, if_only, if_else, while, do_while, for, continue, break, return, Items, no_items, declaration, statement}
use Rattle.typing_rules.specs.TypingStatements.{IsCondition, IsConditionIf, IsValueIf, IsReturned, IsForStart, IsForEnd, IsStmt, AreItems}
use Rattle.typing_rules.proofs.Keeping.{Keeps, keeps_is, keeps_given, keeps_such, keeps_makes, keeps_bind}
use Rattle.typing_rules.proofs.DeclarationsKeep.{keeps_value, keeps_declared_in_block}

keeps_condition : (line : ℕ) (e : Expr) → Keeps (IsCondition e)
keeps_condition line e = keeps_bind (keeps_value e) (λ a. keeps_bind keeps_such (λ u. keeps_is))

keeps_condition_if : (line : ℕ) (e : Option Expr) → Keeps (IsConditionIf e)
keeps_condition_if line None = keeps_is
keeps_condition_if line (Some e) = keeps_bind (keeps_condition line e) (λ v. keeps_is)

keeps_value_if : (e : Option Expr) → Keeps (IsValueIf e)
keeps_value_if None = keeps_is
keeps_value_if (Some e) = keeps_bind (keeps_value e) (λ a. keeps_is)

keeps_returned : (line : ℕ) (result : CType) (e : Option Expr) → Keeps (IsReturned result e)
keeps_returned line result None = keeps_bind keeps_given (λ u. keeps_is)
keeps_returned line result (Some e) = keeps_bind (keeps_value e) (λ a. keeps_bind keeps_given (λ u. (keeps_bind keeps_such (λ form. keeps_is))))

keeps_for_start : (start : ForStart) → Keeps (IsForStart start)
keeps_for_start (starts e) = keeps_bind (keeps_value_if e) (λ first. keeps_is)
keeps_for_start (declares d) = keeps_bind (keeps_makes (λ k. refl)) (λ u. keeps_bind (keeps_declared_in_block d) (λ locals. keeps_is))

keeps_for_end : (start : ForStart) → Keeps (IsForEnd start)
keeps_for_end (starts e) = keeps_is
keeps_for_end (declares d) = keeps_makes (λ k. refl)

mutual
  unfolding IsStmt

  pub keeps_stmt : (result : CType) (in_loop : Test) (s : Stmt) → Keeps (IsStmt result in_loop s)
  keeps_stmt result in_loop (block line items end) =
      keeps_bind (keeps_makes (λ k. refl)) (λ u. keeps_bind (keeps_items result in_loop items) (λ parts.
      keeps_bind (keeps_makes (λ k. refl)) (λ u'. keeps_is)))
  keeps_stmt result in_loop (empty line) = keeps_is
  keeps_stmt result in_loop (expression line e) = keeps_bind (keeps_value e) (λ a. keeps_is)
  keeps_stmt result in_loop (if_only line e s) =
      keeps_bind (keeps_condition line e) (λ test. keeps_bind (keeps_stmt result in_loop s) (λ first. keeps_is))
  keeps_stmt result in_loop (if_else line e s u) =
      keeps_bind (keeps_condition line e) (λ test. keeps_bind (keeps_stmt result in_loop s) (λ first.
      keeps_bind (keeps_stmt result in_loop u) (λ second. keeps_is)))
  keeps_stmt result in_loop (while line e s) = keeps_bind (keeps_condition line e) (λ test. keeps_bind (keeps_stmt result true s) (λ body. keeps_is))
  keeps_stmt result in_loop (do_while line s e) =
      keeps_bind (keeps_stmt result true s) (λ body. keeps_bind (keeps_condition line e) (λ test. keeps_is))
  keeps_stmt result in_loop (for line start e u s) =
      keeps_bind (keeps_for_start start) (λ first. keeps_bind (keeps_condition_if line e) (λ test. keeps_bind (keeps_value_if u) (λ step.
      keeps_bind (keeps_stmt result true s) (λ body. keeps_bind (keeps_for_end start) (λ u'. keeps_is)))))
  keeps_stmt result in_loop (continue line) = keeps_bind keeps_given (λ u. keeps_is)
  keeps_stmt result in_loop (break line) = keeps_bind keeps_given (λ u. keeps_is)
  keeps_stmt result in_loop (return line e) = keeps_bind (keeps_returned line result e) (λ v. keeps_is)

  pub keeps_items : (result : CType) (in_loop : Test) (items : Items) → Keeps (AreItems result in_loop items)
  keeps_items result in_loop no_items = keeps_is
  keeps_items result in_loop (declaration d rest) =
      keeps_bind (keeps_declared_in_block d) (λ locals. keeps_bind (keeps_items result in_loop rest) (λ others. keeps_is))
  keeps_items result in_loop (statement s rest) =
      keeps_bind (keeps_stmt result in_loop s) (λ first. keeps_bind (keeps_items result in_loop rest) (λ others. keeps_is))
