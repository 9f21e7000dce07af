-- The grammar of declarations, statements and units (C11 annex A.2.2 to A.2.4, in the accepted subset), over the
-- lines of expressions and declarators.
use Rattle.std.specs.Prelude.{ℕ, zero, suc, Bool, true, false, List, [], Option, Some, None}
use Rattle.c_lexer.specs.declared.token.Token.{Token}
use Rattle.c_tree.specs.declared.expression.Expr.{Expr}
use Rattle.c_tree.specs.declared.expression.Declarator.{Declarator}
use Rattle.c_tree.specs.declared.declaration.Declaration.{Declaration}
use Rattle.c_tree.specs.declared.declaration.Item.{Item}
use Rattle.c_tree.specs.declared.declaration.Initializer.{Initializer}
use Rattle.c_tree.specs.declared.declaration.Initializer.TheVariants as i
use Rattle.c_tree.specs.declared.statement.Stmt.{Stmt}
use Rattle.c_tree.specs.declared.statement.ForStart.{ForStart}
use Rattle.c_tree.specs.declared.statement.ForStart.TheVariants as f
use Rattle.c_tree.specs.declared.statement.Block.{Block}
use Rattle.c_tree.specs.declared.statement.BlockItem.{BlockItem}
use Rattle.c_tree.specs.declared.statement.BlockItem.TheVariants as b
use Rattle.c_tree.specs.declared.unit.Unit.{Unit as TheUnit}
use Rattle.c_tree.specs.declared.unit.External.{External}
use Rattle.c_tree.specs.declared.unit.External.TheVariants as x
use Rattle.c_expr.specs.declared.start.Start.{Start}
use Rattle.c_expr.specs.declared.start.Start.TheVariants as at
use Rattle.c_expr.specs.declared.start.Naming.{Naming}
use Rattle.c_expr.specs.declared.start.Naming.TheVariants as n
use Rattle.c_expr.specs.Codes.{open_brace, close_brace, open_paren, close_paren, semicolon, equals, break_word, continue_word, do_word, else_word, for_word, if_word, return_word, while_word}
use Rattle.c_expr.specs.Spelling.{Spelling, One, Is, ◌>>=◌, ◌>>◌, ◌<$>◌, ◌or◌, Never, Further, Listed, Maybe, In_parens}
use Rattle.c_expr.specs.Grammar.{IsSpecifiers, ExprAt, DeclaratorAt}
use Rattle.c_expr.specs.Nodes.{Bytes}
use Rattle.c_parser.specs.StatementNodes.{item_node, declaration_node, block_node, block_stmt, empty_stmt, expr_stmt, if_stmt, while_stmt, do_stmt, for_head, for_stmt, continue_stmt, break_stmt, return_stmt, function_node, unit_node}

-- an expression or a declarator, at whichever depth
abbrev pub AnyExpr : Bytes → Start → Spelling Expr
AnyExpr src start x w = (depth : ℕ) × ExprAt src depth start x w

abbrev pub AnyDeclarator : Bytes → Naming → Spelling Declarator
AnyDeclarator src naming x w = (depth : ℕ) × DeclaratorAt src depth naming x w

module _ (src : Bytes) where
  -- ---- declarations (C11 6.7)

  -- initializer (C11 6.7.9): an assignment expression, or a list in braces
  abbrev pub IsInitializerLine : Spelling Initializer → Spelling Initializer
  IsInitializerLine IsInner = (i.Value <$> AnyExpr src at.Assignment) or (do
    t ← One open_brace
    inner ← Listed IsInner
    One close_brace
    Is (i.List t.line inner))

  unfoldable pub InitializerAt : ℕ → Spelling Initializer
  InitializerAt zero x w = ⊥
  InitializerAt (suc depth) x w = IsInitializerLine (InitializerAt depth) x w

  abbrev pub IsInitializer : Spelling Initializer
  IsInitializer x w = (depth : ℕ) × InitializerAt depth x w

  -- `=` and an initializer
  abbrev pub IsGiven : Spelling Initializer
  IsGiven = One equals >> IsInitializer

  -- init-declarator
  abbrev pub IsItem : Spelling Item
  IsItem = do
    declarator ← AnyDeclarator src n.Named
    given ← Maybe IsGiven
    Is (item_node declarator given)

  -- declaration
  abbrev pub IsDeclaration : Spelling Declaration
  IsDeclaration = do
    ss ← IsSpecifiers
    items ← Listed IsItem
    One semicolon
    Is (declaration_node ss items)

  -- ---- statements (C11 6.8), each with whether it ends with an `if` to which an `else` behind it would belong

  module _ (IsStmt : Spelling (Stmt × Bool)) where
    -- block-item
    abbrev pub IsBlockItem : Spelling BlockItem
    IsBlockItem = (b.Declaration <$> IsDeclaration) or ((λ p. b.Statement p.0) <$> IsStmt)

    -- compound-statement
    abbrev pub IsBlock : Spelling Block
    IsBlock = do
      t ← One open_brace
      items ← Further IsBlockItem []
      u ← One close_brace
      Is (block_node t.line items u.line)

    abbrev pub IsBlockStmt : Spelling Stmt
    IsBlockStmt = block_stmt <$> IsBlock

    -- expression-statement
    abbrev pub IsExprStmt : Spelling Stmt
    IsExprStmt = do
      x ← AnyExpr src at.Expression
      One semicolon
      Is (expr_stmt x)

    abbrev pub IsEmptyStmt : Spelling Stmt
    IsEmptyStmt = (λ t. empty_stmt t.line) <$> One semicolon

    -- `else` and its branch, behind a branch to which it does not belong
    abbrev pub IsElse : Bool → Spelling (Option Stmt × Bool)
    IsElse true = Never
    IsElse false = One else_word >> ((λ p. (Some p.0, p.1)) <$> IsStmt)

    -- selection-statement: an `else` belongs to the nearest `if` that can take it
    abbrev pub IsIf : Spelling (Stmt × Bool)
    IsIf = do
      t ← One if_word
      x ← In_parens (AnyExpr src at.Expression)
      first ← IsStmt
      second ← IsElse first.1 or Is (None, true)
      Is (if_stmt t.line x first.0 second.0, second.1)

    -- iteration-statement
    abbrev pub IsWhile : Spelling (Stmt × Bool)
    IsWhile = do
      t ← One while_word
      x ← In_parens (AnyExpr src at.Expression)
      body ← IsStmt
      Is (while_stmt t.line x body.0, body.1)

    abbrev pub IsDo : Spelling Stmt
    IsDo = do
      t ← One do_word
      body ← IsStmt
      One while_word
      x ← In_parens (AnyExpr src at.Expression)
      One semicolon
      Is (do_stmt t.line body.0 x)

    abbrev pub IsOptional : Spelling (Option Expr)
    IsOptional = Maybe (AnyExpr src at.Expression)

    abbrev pub IsForStart : Spelling ForStart
    IsForStart = (f.Declaration <$> IsDeclaration) or (do
      x ← IsOptional
      One semicolon
      Is (f.Expr x))

    abbrev pub IsFor : Spelling (Stmt × Bool)
    IsFor = do
      t ← One for_word
      One open_paren
      start ← IsForStart
      x ← IsOptional
      One semicolon
      step ← IsOptional
      One close_paren
      body ← IsStmt
      Is (for_stmt t.line (for_head start x step) body.0, body.1)

    -- jump-statement
    abbrev pub IsContinue : Spelling Stmt
    IsContinue = do
      t ← One continue_word
      One semicolon
      Is (continue_stmt t.line)

    abbrev pub IsBreak : Spelling Stmt
    IsBreak = do
      t ← One break_word
      One semicolon
      Is (break_stmt t.line)

    abbrev pub IsReturn : Spelling Stmt
    IsReturn = do
      t ← One return_word
      x ← IsOptional
      One semicolon
      Is (return_stmt t.line x)

    -- a statement to which no `else` can belong
    abbrev pub Closed : Spelling Stmt → Spelling (Stmt × Bool)
    Closed S = (λ s. (s, false)) <$> S

    abbrev pub IsStmtLine : Spelling (Stmt × Bool)
    IsStmtLine =
        Closed IsBlockStmt or Closed IsEmptyStmt or IsIf or IsWhile or Closed IsDo or IsFor or Closed IsReturn or Closed IsBreak or Closed IsContinue or Closed IsExprStmt

  unfoldable pub StmtAt : ℕ → Spelling (Stmt × Bool)
  StmtAt zero p w = ⊥
  StmtAt (suc depth) p w = IsStmtLine (StmtAt depth) p w

  abbrev pub AnyStmt : Spelling (Stmt × Bool)
  AnyStmt p w = (depth : ℕ) × StmtAt depth p w

  -- ---- units (C11 6.9)

  -- function-definition
  abbrev pub IsFunctionDefinition : Spelling External
  IsFunctionDefinition = do
    ss ← IsSpecifiers
    declarator ← AnyDeclarator src n.Named
    body ← IsBlock AnyStmt
    Is (function_node ss declarator body)

  -- external-declaration
  abbrev pub IsExternal : Spelling External
  IsExternal = IsFunctionDefinition or (x.Declaration <$> IsDeclaration)

  -- translation-unit, which may be empty
  abbrev pub IsUnit : Spelling TheUnit
  IsUnit = unit_node <$> Further IsExternal []

-- The tokens of the source are this unit.
abbrev pub Derives : List Token → Bytes → TheUnit → Type 0
Derives tokens src unit = IsUnit src unit tokens
