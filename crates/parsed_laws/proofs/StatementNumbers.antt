-- The numbers of a statement that the grammar derives are those of its tokens.
use Rattle.std.proofs.Common.{ℕ, zero, suc, Bool, true, false, List, [], ◌∷◌, map, sym, subst, Option, Some, None}
use Rattle.std.specs.Prelude.{option_map}
use Rattle.c_tree.specs.declared.expression.Expr.{Expr}
use Rattle.c_tree.specs.declared.declaration.Declaration.{Declaration}
use Rattle.c_tree.specs.declared.statement.Stmt.{Stmt}
use Rattle.c_tree.specs.declared.statement.StmtNode.{StmtNode}
use Rattle.c_tree.specs.declared.statement.StmtNode.TheVariants as s
use Rattle.c_tree.specs.declared.statement.ForHead.{ForHead}
use Rattle.c_tree.specs.declared.statement.ForStart.{ForStart}
use Rattle.c_tree.specs.declared.statement.ForStart.TheVariants as f
use Rattle.c_tree.specs.declared.statement.Block.{Block}
use Rattle.c_tree.specs.declared.statement.BlockItem.{BlockItem}
use Rattle.c_tree.specs.declared.statement.BlockItem.TheVariants as b
use Rattle.c_expr.specs.Nodes.{Bytes}
use Rattle.c_expr.specs.Spelling.{Spelling}
use Rattle.c_parser.specs.StatementNodes.{stmt_at, block_node, block_stmt, for_head}
use Rattle.c_parser.specs.Units.{IsBlockItem, IsBlock, IsExprStmt, IsEmptyStmt, IsElse, IsIf, IsWhile, IsDo, IsOptional, IsForStart, IsFor, IsContinue, IsBreak, IsReturn, Closed, IsStmtLine, StmtAt, AnyStmt}
use Rattle.typing_rules.specs.SourceUnits as t
use Rattle.typing_rules.specs.SourceViews.{all_items, for_start_view, expr_view, stmt_view, stmt_node_view, block_view, block_item_view}
use Rattle.typing_rules.specs.Laws.{Each}
use Rattle.typing_rules.proofs.SourceStatementViewLaws.{view_block, view_empty, view_expr, view_if_only, view_if_else, view_while, view_do, view_for, view_continue, view_break, view_return, view_stmt, view_items, view_declaration, view_statement}
use Rattle.typing_laws.specs.LanguagePrograms.{IfThere}
use Rattle.running_laws.specs.HasNumbers.{ExprHasNumbers, ForStartHasNumbers, StmtHasNumbers, BlockHasNumbers}
use Rattle.parsed_laws.proofs.Fitting.{Fits, fits_is, fits_never, fits_bind, fits_then, fits_map, fits_or, fits_maybe, fits_parens, fits_further}
use Rattle.parsed_laws.proofs.ExpressionNumbers.{HasExpr}
use Rattle.parsed_laws.proofs.DeclarationNumbers.{any_expr_fits, HasDeclaration, declaration_fits}

module _ (shift : ℕ → ℕ) where
  abbrev HasStmt : Stmt → Type 0
  HasStmt x = StmtHasNumbers (stmt_view shift x)

  abbrev Has : Stmt × Bool → Type 0
  Has p = HasStmt p.0

  abbrev HasNode : ℕ → StmtNode → Type 0
  HasNode line node = StmtHasNumbers (stmt_node_view shift node (shift line))

  -- a part of a block, with what stands behind it
  abbrev HasPart : BlockItem → Type 0
  HasPart x = (rest : t.Items) → BlockHasNumbers rest → BlockHasNumbers (block_item_view shift x rest)

  abbrev pub HasBlock : Block → Type 0
  HasBlock x = BlockHasNumbers (block_view shift x).items

  -- ---- nodes

  node_has : (line : ℕ) (node : StmtNode) → HasNode line node → HasStmt (stmt_at line node)
  unfolding stmt_at
  node_has line node h = subst StmtHasNumbers (sym (view_stmt shift (stmt_at line node))) h

  declaration_part : (d : Declaration) → HasDeclaration shift d → HasPart (b.Declaration d)
  unfolding StmtHasNumbers
  declaration_part d h rest k = subst BlockHasNumbers (sym (view_declaration shift d rest)) (h, k)

  statement_part : (x : Stmt) → HasStmt x → HasPart (b.Statement x)
  unfolding StmtHasNumbers
  statement_part x h rest k = subst BlockHasNumbers (sym (view_statement shift x rest)) (h, k)

  parts_have : (xs : List BlockItem) → Each HasPart xs → BlockHasNumbers (all_items (map (block_item_view shift) xs))
  unfolding StmtHasNumbers
  parts_have [] h = tt
  parts_have (x ∷ xs) h = h.0 (all_items (map (block_item_view shift) xs)) (parts_have xs h.1)

  block_has : (line : ℕ) (xs : List BlockItem) (end : ℕ) → Each HasPart xs → HasBlock (block_node line xs end)
  unfolding block_node
  block_has line xs end h = subst (λ v. BlockHasNumbers v.items) (sym (view_items shift line xs end)) (parts_have xs h)

  block_stmt_has : (x : Block) → HasBlock x → HasStmt (block_stmt x)
  unfolding StmtHasNumbers
  block_stmt_has x h = node_has x.line (s.Block x) (subst StmtHasNumbers (sym (view_block shift x (shift x.line))) h)

  empty_has : (line : ℕ) → HasStmt (stmt_at line s.Empty)
  unfolding StmtHasNumbers
  empty_has line = node_has line s.Empty (subst StmtHasNumbers (sym (view_empty shift (shift line))) tt)

  expr_has : (line : ℕ) (e : Expr) → HasExpr shift e → HasStmt (stmt_at line (s.Expr e))
  unfolding StmtHasNumbers
  expr_has line e h = node_has line (s.Expr e) (subst StmtHasNumbers (sym (view_expr shift e (shift line))) h)

  if_has : (line : ℕ) (e : Expr) (x : Stmt) (y : Option Stmt) → HasExpr shift e → HasStmt x → IfThere HasStmt y → HasStmt (stmt_at line (s.If e x y))
  unfolding StmtHasNumbers
  if_has line e x None n h k = node_has line (s.If e x None) (subst StmtHasNumbers (sym (view_if_only shift e x (shift line))) (n, h))
  if_has line e x (Some y) n h k = node_has line (s.If e x (Some y)) (subst StmtHasNumbers (sym (view_if_else shift e x y (shift line))) (n, h, k))

  while_has : (line : ℕ) (e : Expr) (x : Stmt) → HasExpr shift e → HasStmt x → HasStmt (stmt_at line (s.While e x))
  unfolding StmtHasNumbers
  while_has line e x n h = node_has line (s.While e x) (subst StmtHasNumbers (sym (view_while shift e x (shift line))) (n, h))

  do_has : (line : ℕ) (x : Stmt) (e : Expr) → HasStmt x → HasExpr shift e → HasStmt (stmt_at line (s.Do x e))
  unfolding StmtHasNumbers
  do_has line x e h n = node_has line (s.Do x e) (subst StmtHasNumbers (sym (view_do shift x e (shift line))) (h, n))

  abbrev HasStart : ForStart → Type 0
  HasStart start = ForStartHasNumbers (for_start_view shift start)

  mapped : (x : Option Expr) → IfThere (HasExpr shift) x → IfThere ExprHasNumbers (option_map (expr_view shift) x)
  mapped None h = tt
  mapped (Some x) h = h

  for_has : (line : ℕ) (head : ForHead) (x : Stmt) → HasStart head.start → IfThere (HasExpr shift) head.condition → IfThere (HasExpr shift) head.step
      → HasStmt x → HasStmt (stmt_at line (s.For head x))
  unfolding StmtHasNumbers
  for_has line head x k m n h =
      node_has line (s.For head x)
      (subst StmtHasNumbers (sym (view_for shift head x (shift line))) (k, mapped head.condition m, mapped head.step n, h))

  continue_has : (line : ℕ) → HasStmt (stmt_at line s.Continue)
  unfolding StmtHasNumbers
  continue_has line = node_has line s.Continue (subst StmtHasNumbers (sym (view_continue shift (shift line))) tt)

  break_has : (line : ℕ) → HasStmt (stmt_at line s.Break)
  unfolding StmtHasNumbers
  break_has line = node_has line s.Break (subst StmtHasNumbers (sym (view_break shift (shift line))) tt)

  return_has : (line : ℕ) (e : Option Expr) → IfThere (HasExpr shift) e → HasStmt (stmt_at line (s.Return e))
  unfolding StmtHasNumbers
  return_has line e n = node_has line (s.Return e) (subst StmtHasNumbers (sym (view_return shift e (shift line))) (mapped e n))

  -- ---- lines of the grammar, over statements whose numbers fit

  module _ (src : Bytes) {S : Spelling (Stmt × Bool)} (inner : Fits Has S) where
    closed_has : {T : Spelling Stmt} → Fits HasStmt T → Fits Has (Closed src S T)
    closed_has h = fits_map (λ x. (x, false)) h (λ x p. p)

    fits_part : Fits HasPart (IsBlockItem src S)
    fits_part =
        fits_or (fits_map b.Declaration (declaration_fits shift src) declaration_part)
        (fits_map (λ p. b.Statement p.0) inner (λ p h. statement_part p.0 h))

    pub fits_block : Fits HasBlock (IsBlock src S)
    fits_block = fits_then (λ o. fits_bind (fits_further {P = HasPart} [] tt fits_part) (λ items h. fits_then (λ c. fits_is (block_has o.line items c.line h))))

    fits_expr_stmt : Fits HasStmt (IsExprStmt src S)
    fits_expr_stmt = fits_bind (any_expr_fits shift src _) (λ x h. fits_then (λ c. fits_is (expr_has x.line x h)))

    fits_empty_stmt : Fits HasStmt (IsEmptyStmt src S)
    fits_empty_stmt = fits_then (λ c. fits_is (empty_has c.line))

    abbrev HasElse : Option Stmt × Bool → Type 0
    HasElse p = IfThere HasStmt p.0

    fits_else : (is_open : Bool) → Fits HasElse (IsElse src S is_open)
    fits_else true = fits_never
    fits_else false = fits_then (λ o. fits_map (λ p. (Some p.0, p.1)) inner (λ p h. h))

    fits_if : Fits Has (IsIf src S)
    fits_if =
        fits_then (λ o. fits_bind (fits_parens (any_expr_fits shift src _)) (λ x n. fits_bind inner (λ first h.
        fits_bind {P = HasElse} (fits_or (fits_else first.1) (fits_is tt)) (λ second k. fits_is (if_has o.line x first.0 second.0 n h k)))))

    fits_while : Fits Has (IsWhile src S)
    fits_while =
        fits_then (λ o. fits_bind (fits_parens (any_expr_fits shift src _)) (λ x n. fits_bind inner (λ body h. fits_is (while_has o.line x body.0 n h))))

    fits_do : Fits HasStmt (IsDo src S)
    fits_do =
        fits_then (λ o. fits_bind inner (λ body h. fits_then (λ w. fits_bind (fits_parens (any_expr_fits shift src _)) (λ x n.
        fits_then (λ c. fits_is (do_has o.line body.0 x h n))))))

    fits_optional : Fits (IfThere (HasExpr shift)) (IsOptional src S)
    fits_optional = fits_maybe (any_expr_fits shift src _)

    fits_for_start : Fits HasStart (IsForStart src S)
    fits_for_start =
        fits_or (fits_map f.Declaration (declaration_fits shift src) (λ d h. h))
        (fits_bind fits_optional (λ x h. fits_then (λ c. fits_is (mapped x h))))

    fits_for : Fits Has (IsFor src S)
    fits_for =
        fits_then (λ o. fits_then (λ p. fits_bind fits_for_start (λ start k. fits_bind fits_optional (λ x m. fits_then (λ c.
        fits_bind fits_optional (λ step n. fits_then (λ e. fits_bind inner (λ body h.
        fits_is (for_has o.line (for_head start x step) body.0 k m n h)))))))))

    fits_continue : Fits HasStmt (IsContinue src S)
    fits_continue = fits_then (λ o. fits_then (λ c. fits_is (continue_has o.line)))

    fits_break : Fits HasStmt (IsBreak src S)
    fits_break = fits_then (λ o. fits_then (λ c. fits_is (break_has o.line)))

    fits_return : Fits HasStmt (IsReturn src S)
    fits_return = fits_then (λ o. fits_bind fits_optional (λ x n. fits_then (λ c. fits_is (return_has o.line x n))))

    fits_line : Fits Has (IsStmtLine src S)
    fits_line =
        fits_or (closed_has (fits_map block_stmt fits_block block_stmt_has)) (fits_or (closed_has fits_empty_stmt) (fits_or fits_if
        (fits_or fits_while (fits_or (closed_has fits_do) (fits_or fits_for (fits_or (closed_has fits_return)
        (fits_or (closed_has fits_break) (fits_or (closed_has fits_continue) (closed_has fits_expr_stmt)))))))))

  -- ---- whole statements

  stmt_fits : (src : Bytes) (depth : ℕ) → Fits Has (StmtAt src depth)
  unfolding StmtAt
  stmt_fits src zero = record { fits = λ p w k h. absurd h }
  stmt_fits src (suc depth) = record { fits = λ p w k h. (fits_line src (stmt_fits src depth)).fits p w k h }

  pub any_stmt_fits : (src : Bytes) → Fits Has (AnyStmt src)
  any_stmt_fits src = record { fits = λ p w k h. (stmt_fits src h.0).fits p w k h.1 }
