-- A statement that the grammar derives has no more tokens than those that spell it.
use Rattle.std.proofs.Common.{◌≡◌, ℕ, zero, suc, ◌+◌, ◌≤◌, Bool, true, false, List, [], ◌∷◌, map, ap, ◌∙◌, Option, Some, None, arith}
use Rattle.std.specs.Prelude.{option_map}
use Rattle.c_tree.specs.declared.expression.Expr.{Expr}
use Rattle.c_tree.specs.declared.declaration.Declaration.{Declaration}
use Rattle.c_tree.specs.declared.statement.Stmt.{Stmt}
use Rattle.c_tree.specs.declared.statement.StmtNode.{StmtNode}
use Rattle.c_tree.specs.declared.statement.StmtNode.TheVariants as s
use Rattle.c_tree.specs.declared.statement.ForHead.{ForHead}
use Rattle.c_tree.specs.declared.statement.ForStart.{ForStart}
use Rattle.c_tree.specs.declared.statement.ForStart.TheVariants as f
use Rattle.c_tree.specs.declared.statement.Block.{Block}
use Rattle.c_tree.specs.declared.statement.BlockItem.{BlockItem}
use Rattle.c_tree.specs.declared.statement.BlockItem.TheVariants as b
use Rattle.c_expr.specs.declared.start.Start.TheVariants as at
use Rattle.c_expr.specs.Nodes.{Bytes}
use Rattle.c_expr.specs.Spelling.{Spelling, In_parens}
use Rattle.c_parser.specs.StatementNodes.{stmt_at, block_node, block_stmt, for_head}
use Rattle.c_parser.specs.Units.{AnyExpr, IsBlockItem, IsBlock, IsBlockStmt, IsExprStmt, IsEmptyStmt, IsElse, IsIf, IsWhile, IsDo, IsOptional, IsForStart, IsFor, IsContinue, IsBreak, IsReturn, Closed, IsStmtLine, StmtAt, AnyStmt}
use Rattle.typing_rules.specs.SourceUnits as t
use Rattle.typing_rules.specs.SourceViews.{all_items, for_start_view, expr_view, declaration_view, stmt_view, stmt_node_view, block_view, block_item_view}
use Rattle.typing_rules.proofs.SourceStatementViewLaws.{view_block, view_empty, view_expr, view_if_only, view_if_else, view_while, view_do, view_for, view_continue, view_break, view_return, view_stmt, view_items, view_declaration, view_statement}
use Rattle.event_laws.specs.TokensOf.{tokens_if, tokens_first, tokens_of_statement, tokens_of_items, tokens_of_declaration}
use Rattle.parsed_laws.proofs.Counting.{Takes, takes_so, takes_is, takes_never, takes_bind, takes_token, takes_map, takes_or, takes_maybe, AskedIf, Together, takes_further, takes_parens}
use Rattle.parsed_laws.proofs.ExpressionTokens.{tokens, HasExpr, expr_more}
use Rattle.parsed_laws.proofs.DeclarationTokens.{any_expr_takes, declaration_takes}

module _ (shift : ℕ → ℕ) where
  abbrev stmt_tokens : Stmt → ℕ
  stmt_tokens x = tokens_of_statement (stmt_view shift x)

  abbrev HasStmt : Stmt → ℕ → Type 0
  HasStmt x k = stmt_tokens x ≤ k

  abbrev Has : Stmt × Bool → ℕ → Type 0
  Has p k = HasStmt p.0 k

  -- a part of a block, with what stands behind it
  abbrev HasPart : BlockItem → ℕ → Type 0
  HasPart x k = (rest : t.Items) → tokens_of_items (block_item_view shift x rest) ≤ k + tokens_of_items rest

  abbrev block_tokens : Block → ℕ
  block_tokens x = tokens_of_items (block_view shift x).items

  abbrev pub HasBlock : Block → ℕ → Type 0
  HasBlock x k = block_tokens x ≤ k

  -- ---- nodes

  node_is : (line : ℕ) (node : StmtNode) (view : t.Stmt) → stmt_node_view shift node (shift line) ≡ view
      → stmt_tokens (stmt_at line node) ≡ tokens_of_statement view
  unfolding stmt_at
  node_is line node view e = ap tokens_of_statement (view_stmt shift (stmt_at line node)) ∙ ap tokens_of_statement e

  declaration_is : (d : Declaration) (rest : t.Items)
      → tokens_of_items (block_item_view shift (b.Declaration d) rest) ≡ tokens_of_declaration (declaration_view shift d) + tokens_of_items rest
  unfolding tokens_of_statement
  declaration_is d rest = ap tokens_of_items (view_declaration shift d rest)

  statement_is : (x : Stmt) (rest : t.Items) → tokens_of_items (block_item_view shift (b.Statement x) rest) ≡ stmt_tokens x + tokens_of_items rest
  unfolding tokens_of_statement
  statement_is x rest = ap tokens_of_items (view_statement shift x rest)

  parts_together : (xs : List BlockItem) (k : ℕ) → Together HasPart xs k → tokens_of_items (all_items (map (block_item_view shift) xs)) ≤ k
  unfolding tokens_of_statement
  parts_together [] k h = omega arith
  parts_together (x ∷ xs) k h = omega (arith, h.2 (all_items (map (block_item_view shift) xs)), parts_together xs h.1 h.3, h.4)

  block_is : (line : ℕ) (xs : List BlockItem) (end : ℕ) → block_tokens (block_node line xs end) ≡ tokens_of_items (all_items (map (block_item_view shift) xs))
  unfolding block_node
  block_is line xs end = ap (λ v. tokens_of_items v.items) (view_items shift line xs end)

  block_stmt_is : (x : Block) → stmt_tokens (block_stmt x) ≡ block_tokens x
  unfolding tokens_of_statement
  block_stmt_is x = node_is x.line (s.Block x) _ (view_block shift x (shift x.line))

  empty_is : (line : ℕ) → stmt_tokens (stmt_at line s.Empty) ≡ 0
  unfolding tokens_of_statement
  empty_is line = node_is line s.Empty _ (view_empty shift (shift line))

  expr_is : (line : ℕ) (e : Expr) → stmt_tokens (stmt_at line (s.Expr e)) ≡ tokens shift e
  unfolding tokens_of_statement
  expr_is line e = node_is line (s.Expr e) _ (view_expr shift e (shift line))

  if_has : (line : ℕ) (e : Expr) (x : Stmt) (y : Option Stmt) (j m k : ℕ) → HasExpr shift e j → HasStmt x m → AskedIf HasStmt y k
      → HasStmt (stmt_at line (s.If e x y)) (j + (m + k))
  unfolding tokens_of_statement
  if_has line e x None j m k p q r = omega (arith, p, q, node_is line (s.If e x None) _ (view_if_only shift e x (shift line)))
  if_has line e x (Some y) j m k p q r = omega (arith, p, q, r, node_is line (s.If e x (Some y)) _ (view_if_else shift e x y (shift line)))

  while_is : (line : ℕ) (e : Expr) (x : Stmt) → stmt_tokens (stmt_at line (s.While e x)) ≡ tokens shift e + stmt_tokens x
  unfolding tokens_of_statement
  while_is line e x = node_is line (s.While e x) _ (view_while shift e x (shift line))

  do_is : (line : ℕ) (x : Stmt) (e : Expr) → stmt_tokens (stmt_at line (s.Do x e)) ≡ stmt_tokens x + tokens shift e
  unfolding tokens_of_statement
  do_is line x e = node_is line (s.Do x e) _ (view_do shift x e (shift line))

  abbrev HasStart : ForStart → ℕ → Type 0
  HasStart start k = tokens_first (for_start_view shift start) ≤ k

  abbrev HasIf : Option Expr → ℕ → Type 0
  HasIf x k = tokens_if (option_map (expr_view shift) x) ≤ k

  for_is : (line : ℕ) (head : ForHead) (x : Stmt)
      → stmt_tokens (stmt_at line (s.For head x)) ≡ tokens_first (for_start_view shift head.start)
      + (tokens_if (option_map (expr_view shift) head.condition) + (tokens_if (option_map (expr_view shift) head.step) + stmt_tokens x))
  unfolding tokens_of_statement
  for_is line head x = node_is line (s.For head x) _ (view_for shift head x (shift line))

  continue_is : (line : ℕ) → stmt_tokens (stmt_at line s.Continue) ≡ 0
  unfolding tokens_of_statement
  continue_is line = node_is line s.Continue _ (view_continue shift (shift line))

  break_is : (line : ℕ) → stmt_tokens (stmt_at line s.Break) ≡ 0
  unfolding tokens_of_statement
  break_is line = node_is line s.Break _ (view_break shift (shift line))

  return_is : (line : ℕ) (e : Option Expr) → stmt_tokens (stmt_at line (s.Return e)) ≡ tokens_if (option_map (expr_view shift) e)
  unfolding tokens_of_statement
  return_is line e = node_is line (s.Return e) _ (view_return shift e (shift line))

  -- ---- lines of the grammar, over statements whose tokens are enough

  module _ (src : Bytes) {S : Spelling (Stmt × Bool)} (inner : Takes Has S) where
    closed : {T : Spelling Stmt} → Takes HasStmt T → Takes Has (Closed src S T)
    closed h = takes_map (λ x. (x, false)) h (λ x m p. p)

    takes_part : Takes HasPart (IsBlockItem src S)
    takes_part =
        takes_or (takes_map b.Declaration (declaration_takes shift src) (λ d m h rest. omega (arith, h, declaration_is d rest)))
        (takes_map (λ p. b.Statement p.0) inner (λ p m h rest. omega (arith, h, statement_is p.0 rest)))

    pub takes_block : Takes HasBlock (IsBlock src S)
    takes_block =
        takes_token (λ o. takes_bind (takes_further takes_part) (λ items m h. takes_token (λ c.
        takes_is (omega (arith, parts_together items m h, block_is o.line items c.line)))))

    takes_block_stmt : Takes HasStmt (IsBlockStmt src S)
    takes_block_stmt = takes_map block_stmt takes_block (λ x m h. omega (arith, h, block_stmt_is x))

    takes_expr_stmt : Takes HasStmt (IsExprStmt src S)
    takes_expr_stmt = takes_bind (any_expr_takes shift src _) (λ x m h. takes_token (λ c. takes_is (omega (arith, h, expr_is x.line x))))

    takes_empty_stmt : Takes HasStmt (IsEmptyStmt src S)
    takes_empty_stmt = takes_token (λ c. takes_is (omega (arith, empty_is c.line)))

    takes_test : Takes (HasExpr shift) (In_parens (AnyExpr src at.Expression))
    takes_test = takes_parens (expr_more shift) (any_expr_takes shift src _)

    abbrev HasElse : Option Stmt × Bool → ℕ → Type 0
    HasElse p k = AskedIf HasStmt p.0 k

    takes_else : (is_open : Bool) → Takes HasElse (IsElse src S is_open)
    takes_else true = takes_never
    takes_else false = takes_token (λ o. takes_map (λ p. (Some p.0, p.1)) inner (λ p m h. omega (arith, h)))

    takes_if : Takes Has (IsIf src S)
    takes_if =
        takes_token (λ o. takes_bind takes_test (λ x j p. takes_bind inner (λ first m q.
        takes_bind {P = HasElse} (takes_or (takes_else first.1) (takes_is tt)) (λ second k r.
        takes_is (omega (arith, if_has o.line x first.0 second.0 j m k p q r))))))

    takes_while : Takes Has (IsWhile src S)
    takes_while =
        takes_token (λ o. takes_bind takes_test (λ x j p. takes_bind inner (λ body m q. takes_is (omega (arith, p, q, while_is o.line x body.0)))))

    takes_do : Takes HasStmt (IsDo src S)
    takes_do =
        takes_token (λ o. takes_bind inner (λ body m q. takes_token (λ w. takes_bind takes_test (λ x j p.
        takes_token (λ c. takes_is (omega (arith, p, q, do_is o.line body.0 x)))))))

    takes_optional : Takes HasIf (IsOptional src S)
    takes_optional = takes_so (takes_maybe (any_expr_takes shift src _)) has
      where
        has : (x : Option Expr) (k : ℕ) → AskedIf (HasExpr shift) x k → HasIf x k
        has None k h = omega arith
        has (Some x) k h = h

    takes_for_start : Takes HasStart (IsForStart src S)
    takes_for_start =
        takes_or (takes_map f.Declaration (declaration_takes shift src) (λ d m h. h))
        (takes_bind takes_optional (λ x m h. takes_token (λ c. takes_is (omega (arith, h)))))

    takes_for : Takes Has (IsFor src S)
    takes_for =
        takes_token (λ o. takes_token (λ p. takes_bind takes_for_start (λ start i q. takes_bind takes_optional (λ x j r. takes_token (λ c.
        takes_bind takes_optional (λ step m u. takes_token (λ e. takes_bind inner (λ body n v.
        takes_is (omega (arith, q, r, u, v, for_is o.line (for_head start x step) body.0))))))))))

    takes_continue : Takes HasStmt (IsContinue src S)
    takes_continue = takes_token (λ o. takes_token (λ c. takes_is (omega (arith, continue_is o.line))))

    takes_break : Takes HasStmt (IsBreak src S)
    takes_break = takes_token (λ o. takes_token (λ c. takes_is (omega (arith, break_is o.line))))

    takes_return : Takes HasStmt (IsReturn src S)
    takes_return = takes_token (λ o. takes_bind takes_optional (λ x m h. takes_token (λ c. takes_is (omega (arith, h, return_is o.line x)))))

    takes_line : Takes Has (IsStmtLine src S)
    takes_line =
        takes_or (closed takes_block_stmt) (takes_or (closed takes_empty_stmt) (takes_or takes_if (takes_or takes_while (takes_or (closed takes_do)
        (takes_or takes_for (takes_or (closed takes_return) (takes_or (closed takes_break) (takes_or (closed takes_continue)
        (closed takes_expr_stmt)))))))))

  -- ---- whole statements

  stmt_takes : (src : Bytes) (depth : ℕ) → Takes Has (StmtAt src depth)
  unfolding StmtAt
  stmt_takes src zero = record { takes = λ p w h. absurd h }
  stmt_takes src (suc depth) = record { takes = λ p w h. (takes_line src (stmt_takes src depth)).takes p w h }

  any_stmt_takes : (src : Bytes) → Takes Has (AnyStmt src)
  any_stmt_takes src = record { takes = λ p w h. (stmt_takes src h.0).takes p w h.1 }

  pub block_takes : (src : Bytes) → Takes HasBlock (IsBlock src (AnyStmt src))
  block_takes src = takes_block src (any_stmt_takes src)
