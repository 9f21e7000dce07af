-- Statements give no more events than they have tokens.
use Rattle.std.proofs.Common.{ℕ, ◌+◌, ◌≤◌, Bool as Test, true, Option, Some, None, arith}
use Rattle.c_types.specs.Types.{CType}
use Rattle.source_meaning.specs.EventLaws.{events_if, events_first, events_of_statement, events_of_items}
use Rattle.typing_rules.specs.Source.{Expr}
use Rattle.typing_rules.specs.SourceUnits.{ForStart, starts, declares, Stmt, block, empty, expression, if_only, if_else, while, do_while, for, continue, break, return, Items, no_items, declaration, statement}
use Rattle.typing_rules.specs.TypingStatements.{IsCondition, IsConditionIf, IsValueIf, IsReturned, IsForStart, IsStmt, AreItems}
use Rattle.event_laws.specs.TokensOf.{tokens_of, tokens_if, tokens_first, tokens_of_statement, tokens_of_items}
use Rattle.event_laws.proofs.Giving.{Gives, gives_is, gives_bind, gives_after}
use Rattle.event_laws.proofs.NodesFew.{Within, both, converted_by_within}
use Rattle.event_laws.proofs.DeclarationsFew.{value_within, declared_within}

condition_within : (e : Expr) → Gives (Within (tokens_of e)) (IsCondition e)
condition_within e = gives_bind (value_within e) (λ a p. gives_after (λ u. gives_is p))

condition_if_within : (e : Option Expr) → Gives (λ v. events_if v ≤ tokens_if e) (IsConditionIf e)
condition_if_within None = gives_is (omega arith)
condition_if_within (Some e) = gives_bind (condition_within e) (λ v p. gives_is p)

value_if_within : (e : Option Expr) → Gives (λ v. events_if v ≤ tokens_if e) (IsValueIf e)
value_if_within None = gives_is (omega arith)
value_if_within (Some e) = gives_bind (value_within e) (λ a p. gives_is p)

returned_within : (result : CType) (e : Option Expr) → Gives (λ v. events_if v ≤ tokens_if e) (IsReturned result e)
returned_within result None = gives_after (λ u. gives_is (omega arith))
returned_within result (Some e) =
    gives_bind (value_within e) (λ a p. gives_after (λ u. gives_after (λ form. gives_is (converted_by_within (tokens_of e) form result a p))))

start_within : (start : ForStart) → Gives (λ first. events_first first ≤ tokens_first start) (IsForStart start)
start_within (starts e) = gives_bind (value_if_within e) (λ first p. gives_is p)
start_within (declares d) = gives_after (λ u. gives_bind (declared_within d) (λ locals p. gives_is p))

loop_sums : (a b c d k l m n : ℕ) → a ≤ k → b ≤ l → c ≤ m → d ≤ n → a + (b + (d + c)) ≤ k + (l + (m + n))
loop_sums a b c d k l m n h i j o = omega (arith, h, i, j, o)

mutual
  unfolding IsStmt tokens_of_statement events_of_statement

  stmt_within : (result : CType) (in_loop : Test) (s : Stmt) → Gives (λ u. events_of_statement u ≤ tokens_of_statement s) (IsStmt result in_loop s)
  stmt_within result in_loop (block line items end) =
      gives_after (λ u. gives_bind (parts_within result in_loop items) (λ parts p. gives_after (λ u'. gives_is p)))
  stmt_within result in_loop (empty line) = gives_is (omega arith)
  stmt_within result in_loop (expression line e) = gives_bind (value_within e) (λ a p. gives_is p)
  stmt_within result in_loop (if_only line e s) =
      gives_bind (condition_within e) (λ test p. gives_bind (stmt_within result in_loop s) (λ first q. gives_is (both _ _ _ _ p q)))
  stmt_within result in_loop (if_else line e s u) =
      gives_bind (condition_within e) (λ test p. gives_bind (stmt_within result in_loop s) (λ first q.
      gives_bind (stmt_within result in_loop u) (λ second r. gives_is (both _ _ _ _ p (both _ _ _ _ q r)))))
  stmt_within result in_loop (while line e s) =
      gives_bind (condition_within e) (λ test p. gives_bind (stmt_within result true s) (λ body q. gives_is (both _ _ _ _ p q)))
  stmt_within result in_loop (do_while line s e) =
      gives_bind (stmt_within result true s) (λ body p. gives_bind (condition_within e) (λ test q. gives_is (both _ _ _ _ p q)))
  stmt_within result in_loop (for line start e u s) =
      gives_bind (start_within start) (λ first p. gives_bind (condition_if_within e) (λ test q. gives_bind (value_if_within u) (λ step r.
      gives_bind (stmt_within result true s) (λ body b. gives_after (λ v. gives_is (loop_sums _ _ _ _ _ _ _ _ p q r b))))))
  stmt_within result in_loop (continue line) = gives_after (λ u. gives_is (omega arith))
  stmt_within result in_loop (break line) = gives_after (λ u. gives_is (omega arith))
  stmt_within result in_loop (return line e) = gives_bind (returned_within result e) (λ v p. gives_is p)

  pub parts_within : (result : CType) (in_loop : Test) (items : Items)
      → Gives (λ parts. events_of_items parts ≤ tokens_of_items items) (AreItems result in_loop items)
  parts_within result in_loop no_items = gives_is (omega arith)
  parts_within result in_loop (declaration d rest) =
      gives_bind (declared_within d) (λ locals p. gives_bind (parts_within result in_loop rest) (λ others q. gives_is (both _ _ _ _ p q)))
  parts_within result in_loop (statement s rest) =
      gives_bind (stmt_within result in_loop s) (λ first p. gives_bind (parts_within result in_loop rest) (λ others q. gives_is (both _ _ _ _ p q)))
