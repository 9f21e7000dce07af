-- What the code answers for declarations, statements and units, beside what a reader of lists answers.
use Rattle.std.specs.Prelude.{ℕ, Result, List}
use Rattle.std.specs.Fn.{Shared}
use Rattle.std.specs.Borrow.{Bor}
use Rattle.c_lexer.specs.declared.token.Token.{Token}
use Rattle.c_tree.specs.declared.expression.Expr.{Expr}
use Rattle.c_tree.specs.declared.expression.Declarator.{Declarator}
use Rattle.c_tree.specs.declared.statement.Stmt.{Stmt}
use Rattle.c_expr.specs.declared.fault.Fault.{Fault}
use Rattle.c_expr.specs.declared.start.Start.{Start}
use Rattle.c_expr.specs.declared.start.Naming.{Naming}
use Rattle.c_expr.specs.Nodes.{Bytes}
use Rattle.c_expr.specs.Reading.{Reader, expr_at, declarator_at}
use Rattle.c_parser.specs.ReadingUnits.{statement_at}
use Rattle.c_expr.specs.Outcome.{Gives, seen}

-- a line of the grammar of declarations, statements or units, at a source and a depth
abbrev pub at_source : {A : Type 0} → ((Start → Reader Expr) → (Naming → Reader Declarator) → A) → Bytes → ℕ → A
at_source line src depth = line (expr_at src depth) (declarator_at src depth)

-- statements that lead back to statements so many times at most
abbrev pub statement_of : Bytes → ℕ → ℕ → Reader Stmt
statement_of src depth left = at_source statement_at src depth depth left

-- a line of the grammar of statements, over these
abbrev pub at_statement : {A : Type 0} → ((Start → Reader Expr) → (Naming → Reader Declarator) → ℕ → Reader Stmt → A) → Bytes → ℕ → ℕ → A
at_statement line src depth left = at_source line src depth depth (statement_of src depth left)

-- A function of the code reads statements.
pub record LeadsToStatement {S : Type 0} (s : Shared S (Bor (List Token) × Unit {0}) (Result (Stmt × Bor (List Token)) Fault)) (stmt : S) (src : Bytes) (depth left : ℕ) : Type 0 where
  pub callable : (t : Bor (List Token)) → s.pre stmt (t, tt)
  pub gives : (t : Bor (List Token)) (r : Result (Stmt × Bor (List Token)) Fault) → s.post stmt (t, tt) r → Gives seen r (statement_of src depth left t.now)
