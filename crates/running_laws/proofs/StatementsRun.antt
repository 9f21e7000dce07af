-- Statements run.
use Rattle.std.proofs.Common.{ℕ, Bool as Test, true, Option, Some, None}
use Rattle.c_types.specs.Types.{CType}
use Rattle.typing_rules.specs.Source.{Expr}
use Rattle.typing_rules.specs.SourceUnits.{ForStart, starts, declares, Stmt, block, empty, expression, if_only, if_else, while, do_while, for, continue, break, return, Items, no_items, declaration, statement}
use Rattle.typing_rules.specs.TypingStatements.{IsCondition, IsConditionIf, IsValueIf, IsReturned, IsForStart, IsForEnd, IsStmt, AreItems}
use Rattle.typing_rules.specs.Known.{Known, File}
use Rattle.typing_rules.proofs.Sound.{Sound, Any, sound_is, sound_such_as, sound_given, sound_bind}
use Rattle.typing_laws.specs.LanguagePrograms.{IfThere}
use Rattle.typing_laws.specs.HasItems.{ForStartHasItems, StmtHasItems, BlockHasItems}
use Rattle.running_laws.specs.HasNumbers.{ExprHasNumbers, ForStartHasNumbers, StmtHasNumbers, BlockHasNumbers}
use Rattle.running_laws.proofs.Running.{Runs}
use Rattle.running_laws.proofs.NodesRun.{converted_by_runs}
use Rattle.running_laws.proofs.Linkage.{frame}
use Rattle.running_laws.proofs.RunningStatements.{ForStartRuns, StmtRuns, ItemsRun}
use Rattle.running_laws.proofs.InsideRuns.{Inside, in_value_of, in_opened, in_closed}
use Rattle.running_laws.proofs.DeclarationsRun.{Locals, in_declared}

module _ (which : File) (functions counted : ℕ) where
  abbrev Here : Known → Type 0
  Here k = Inside (frame which functions counted) Locals k

  in_condition : (e : Expr) → ExprHasNumbers e → Sound Here Runs (IsCondition e)
  in_condition e n = sound_bind (in_value_of e n) (λ a p. sound_bind sound_such_as (λ u q. sound_is p.runs))

  in_condition_if : (e : Option Expr) → IfThere ExprHasNumbers e → Sound Here (IfThere Runs) (IsConditionIf e)
  in_condition_if None n = sound_is tt
  in_condition_if (Some e) n = sound_bind (in_condition e n) (λ v p. sound_is p)

  in_value_if : (e : Option Expr) → IfThere ExprHasNumbers e → Sound Here (IfThere Runs) (IsValueIf e)
  in_value_if None n = sound_is tt
  in_value_if (Some e) n = sound_bind (in_value_of e n) (λ a p. sound_is p.runs)

  in_returned : (result : CType) (e : Option Expr) → IfThere ExprHasNumbers e → Sound Here (IfThere Runs) (IsReturned result e)
  in_returned result None n = sound_bind sound_given (λ u p. sound_is tt)
  in_returned result (Some e) n =
      sound_bind (in_value_of e n) (λ a p. sound_bind sound_given (λ u q. sound_bind sound_such_as (λ form r.
      sound_is (converted_by_runs form result a p.runs))))

  in_for_start : (start : ForStart) → ForStartHasItems start → ForStartHasNumbers start → Sound Here ForStartRuns (IsForStart start)
  in_for_start (starts e) h n = sound_bind (in_value_if e n) (λ first p. sound_is p)
  in_for_start (declares d) h n = sound_bind in_opened (λ u p. sound_bind (in_declared which functions counted d h n) (λ locals q. sound_is q))

  in_for_end : (start : ForStart) → Sound Here Any (IsForEnd start)
  in_for_end (starts e) = sound_is tt
  in_for_end (declares d) = in_closed

  mutual
    unfolding IsStmt StmtHasItems StmtHasNumbers StmtRuns

    in_stmt : (result : CType) (in_loop : Test) (s : Stmt) → StmtHasItems s → StmtHasNumbers s → Sound Here StmtRuns (IsStmt result in_loop s)
    in_stmt result in_loop (block line items end) h n =
        sound_bind in_opened (λ u p. sound_bind (in_parts result in_loop items h n) (λ parts q. sound_bind in_closed (λ u' p'. sound_is q)))
    in_stmt result in_loop (empty line) h n = sound_is tt
    in_stmt result in_loop (expression line e) h n = sound_bind (in_value_of e n) (λ a p. sound_is p.runs)
    in_stmt result in_loop (if_only line e s) h n =
        sound_bind (in_condition e n.0) (λ test p. sound_bind (in_stmt result in_loop s h n.1) (λ first q. sound_is (p, q)))
    in_stmt result in_loop (if_else line e s u) h n =
        sound_bind (in_condition e n.0) (λ test p. sound_bind (in_stmt result in_loop s h.0 n.1) (λ first q.
        sound_bind (in_stmt result in_loop u h.1 n.2) (λ second r. sound_is (p, q, r))))
    in_stmt result in_loop (while line e s) h n =
        sound_bind (in_condition e n.0) (λ test p. sound_bind (in_stmt result true s h n.1) (λ body q. sound_is (p, q)))
    in_stmt result in_loop (do_while line s e) h n =
        sound_bind (in_stmt result true s h n.0) (λ body p. sound_bind (in_condition e n.1) (λ test q. sound_is (p, q)))
    in_stmt result in_loop (for line start e u s) h n =
        sound_bind (in_for_start start h.0 n.0) (λ first p. sound_bind (in_condition_if e n.1) (λ test q. sound_bind (in_value_if u n.2) (λ step r.
        sound_bind (in_stmt result true s h.1 n.3) (λ body b. sound_bind (in_for_end start) (λ v w. sound_is (p, q, r, b))))))
    in_stmt result in_loop (continue line) h n = sound_bind sound_given (λ u p. sound_is tt)
    in_stmt result in_loop (break line) h n = sound_bind sound_given (λ u p. sound_is tt)
    in_stmt result in_loop (return line e) h n = sound_bind (in_returned result e n) (λ v p. sound_is p)

    pub in_parts : (result : CType) (in_loop : Test) (items : Items) → BlockHasItems items → BlockHasNumbers items
        → Sound Here ItemsRun (AreItems result in_loop items)
    in_parts result in_loop no_items h n = sound_is tt
    in_parts result in_loop (declaration d rest) h n =
        sound_bind (in_declared which functions counted d h.0 n.0) (λ locals p.
        sound_bind (in_parts result in_loop rest h.1 n.1) (λ others q. sound_is (p, q)))
    in_parts result in_loop (statement s rest) h n =
        sound_bind (in_stmt result in_loop s h.0 n.0) (λ first p. sound_bind (in_parts result in_loop rest h.1 n.1) (λ others q. sound_is (p, q)))
