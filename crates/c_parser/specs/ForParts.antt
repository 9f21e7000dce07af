-- Parts of the lines of statements (C11 6.8 to 6.8.6), each of which is a function of its own.
use Rattle.std.specs.Prelude.{ℕ, [], ◌∷◌, Option}
use Rattle.c_tree.specs.declared.expression.Expr.{Expr}
use Rattle.c_tree.specs.declared.expression.Declarator.{Declarator}
use Rattle.c_tree.specs.declared.statement.Stmt.{Stmt}
use Rattle.c_tree.specs.declared.statement.ForHead.{ForHead}
use Rattle.c_tree.specs.declared.statement.ForStart.{ForStart}
use Rattle.c_expr.specs.declared.start.Start.{Start}
use Rattle.c_expr.specs.declared.start.Naming.{Naming}
use Rattle.c_expr.specs.Codes.{close_paren, semicolon, break_word, continue_word, do_word, for_word, return_word, while_word}
use Rattle.c_parser.specs.StatementNodes.{for_head, for_stmt, if_stmt}
use Rattle.c_expr.specs.Reading.{Reader, ◌>>=◌, ◌>>◌, pure, one, begins, choose}
use Rattle.c_parser.specs.ReadingUnits.{optional, expr_statement, while_statement, do_statement, for_statement, return_statement, break_statement, continue_statement}
use Rattle.c_parser.specs.UnitParts.{second_branch}

module _ (expr : Start → Reader Expr) (declarator : Naming → Reader Declarator) (depth : ℕ) (stmt : Reader Stmt) where
  -- the body, with what stands before
  abbrev pub for_body : ℕ → ForHead → Reader Stmt
  for_body line head = stmt >>= (λ body. pure (for_stmt line head body))

  -- the step, the `)` and the body, with what stands before
  abbrev pub for_step : ℕ → ForStart → Option Expr → Reader Stmt
  for_step line start condition = do
    step ← optional expr declarator depth close_paren
    one close_paren
    for_body line (for_head start condition step)

  -- the condition and all that follows
  abbrev pub for_condition : ℕ → ForStart → Reader Stmt
  for_condition line start = do
    condition ← optional expr declarator depth semicolon
    one semicolon
    for_step line start condition

  -- what follows the first branch of an `if`, with what stands before
  abbrev pub if_second : ℕ → Expr → Stmt → Reader Stmt
  if_second line condition first = second_branch expr declarator depth stmt >>= (λ second. pure (if_stmt line condition first second))

  -- a jump statement, or an expression and `;`
  abbrev pub jump_line : Reader Stmt
  jump_line =
      choose (begins (return_word ∷ [])) (return_statement expr declarator depth stmt)
      (choose (begins (break_word ∷ [])) (break_statement expr declarator depth stmt)
      (choose (begins (continue_word ∷ [])) (continue_statement expr declarator depth stmt) (expr_statement expr declarator depth stmt)))

  -- an iteration statement, or one of those
  abbrev pub iteration_line : Reader Stmt
  iteration_line =
      choose (begins (while_word ∷ [])) (while_statement expr declarator depth stmt)
      (choose (begins (do_word ∷ [])) (do_statement expr declarator depth stmt)
      (choose (begins (for_word ∷ [])) (for_statement expr declarator depth stmt) jump_line))
