-- The lists in braces of the declarations of a statement that the grammar derives have items.
use Rattle.std.proofs.Common.{ℕ, suc, Bool, true, false, List, [], ◌∷◌, map, sym, subst, Option, Some, None}
use Rattle.std.specs.Prelude.{zero}
use Rattle.c_tree.specs.declared.expression.Expr.{Expr}
use Rattle.c_tree.specs.declared.declaration.Declaration.{Declaration}
use Rattle.c_tree.specs.declared.statement.Stmt.{Stmt}
use Rattle.c_tree.specs.declared.statement.StmtNode.{StmtNode}
use Rattle.c_tree.specs.declared.statement.StmtNode.TheVariants as s
use Rattle.c_tree.specs.declared.statement.ForHead.{ForHead}
use Rattle.c_tree.specs.declared.statement.ForStart.{ForStart}
use Rattle.c_tree.specs.declared.statement.ForStart.TheVariants as f
use Rattle.c_tree.specs.declared.statement.Block.{Block}
use Rattle.c_tree.specs.declared.statement.BlockItem.{BlockItem}
use Rattle.c_tree.specs.declared.statement.BlockItem.TheVariants as b
use Rattle.c_expr.specs.Nodes.{Bytes}
use Rattle.c_expr.specs.Spelling.{Spelling}
use Rattle.c_parser.specs.StatementNodes.{stmt_at, block_node, block_stmt, for_head}
use Rattle.c_parser.specs.Units.{IsBlockItem, IsBlock, IsExprStmt, IsEmptyStmt, IsElse, IsIf, IsWhile, IsDo, IsForStart, IsFor, IsContinue, IsBreak, IsReturn, Closed, IsStmtLine, StmtAt, AnyStmt}
use Rattle.typing_rules.specs.SourceUnits as t
use Rattle.typing_rules.specs.SourceViews.{all_items, for_start_view, stmt_view, stmt_node_view, block_view, block_item_view}
use Rattle.typing_rules.specs.Laws.{Each}
use Rattle.typing_rules.proofs.SourceStatementViewLaws.{view_block, view_empty, view_expr, view_if_only, view_if_else, view_while, view_do, view_for, view_continue, view_break, view_return, view_stmt, view_items, view_declaration, view_statement}
use Rattle.typing_laws.specs.LanguagePrograms.{IfThere}
use Rattle.typing_laws.specs.HasItems.{ForStartHasItems, StmtHasItems, BlockHasItems}
use Rattle.parsed_laws.proofs.Spelled.{Spells, Any, spells_any, spells_is, spells_never, spells_bind, spells_map, spells_or, spells_further}
use Rattle.parsed_laws.proofs.DeclarationsHave.{HasDeclaration, declaration_has}

module _ (shift : ℕ → ℕ) where
  abbrev HasStmt : Stmt → Type 0
  HasStmt x = StmtHasItems (stmt_view shift x)

  abbrev Has : Stmt × Bool → Type 0
  Has p = HasStmt p.0

  abbrev HasNode : ℕ → StmtNode → Type 0
  HasNode line node = StmtHasItems (stmt_node_view shift node (shift line))

  -- a part of a block, with what stands behind it
  abbrev HasPart : BlockItem → Type 0
  HasPart x = (rest : t.Items) → BlockHasItems rest → BlockHasItems (block_item_view shift x rest)

  abbrev pub HasBlock : Block → Type 0
  HasBlock x = BlockHasItems (block_view shift x).items

  -- ---- nodes

  node_has : (line : ℕ) (node : StmtNode) → HasNode line node → HasStmt (stmt_at line node)
  unfolding stmt_at
  node_has line node h = subst StmtHasItems (sym (view_stmt shift (stmt_at line node))) h

  declaration_part : (d : Declaration) → HasDeclaration shift d → HasPart (b.Declaration d)
  unfolding BlockHasItems
  declaration_part d h rest k = subst BlockHasItems (sym (view_declaration shift d rest)) (h, k)

  statement_part : (x : Stmt) → HasStmt x → HasPart (b.Statement x)
  unfolding BlockHasItems StmtHasItems
  statement_part x h rest k = subst BlockHasItems (sym (view_statement shift x rest)) (h, k)

  parts_have : (xs : List BlockItem) → Each HasPart xs → BlockHasItems (all_items (map (block_item_view shift) xs))
  unfolding BlockHasItems
  parts_have [] h = tt
  parts_have (x ∷ xs) h = h.0 (all_items (map (block_item_view shift) xs)) (parts_have xs h.1)

  block_has : (line : ℕ) (xs : List BlockItem) (end : ℕ) → Each HasPart xs → HasBlock (block_node line xs end)
  unfolding block_node
  block_has line xs end h = subst (λ v. BlockHasItems v.items) (sym (view_items shift line xs end)) (parts_have xs h)

  block_stmt_has : (x : Block) → HasBlock x → HasStmt (block_stmt x)
  unfolding StmtHasItems
  block_stmt_has x h = node_has x.line (s.Block x) (subst StmtHasItems (sym (view_block shift x (shift x.line))) h)

  empty_has : (line : ℕ) → HasStmt (stmt_at line s.Empty)
  unfolding StmtHasItems
  empty_has line = node_has line s.Empty (subst StmtHasItems (sym (view_empty shift (shift line))) tt)

  expr_has : (line : ℕ) (e : Expr) → HasStmt (stmt_at line (s.Expr e))
  unfolding StmtHasItems
  expr_has line e = node_has line (s.Expr e) (subst StmtHasItems (sym (view_expr shift e (shift line))) tt)

  if_has : (line : ℕ) (e : Expr) (x : Stmt) (y : Option Stmt) → HasStmt x → IfThere HasStmt y → HasStmt (stmt_at line (s.If e x y))
  unfolding StmtHasItems
  if_has line e x None h k = node_has line (s.If e x None) (subst StmtHasItems (sym (view_if_only shift e x (shift line))) h)
  if_has line e x (Some y) h k = node_has line (s.If e x (Some y)) (subst StmtHasItems (sym (view_if_else shift e x y (shift line))) (h, k))

  while_has : (line : ℕ) (e : Expr) (x : Stmt) → HasStmt x → HasStmt (stmt_at line (s.While e x))
  unfolding StmtHasItems
  while_has line e x h = node_has line (s.While e x) (subst StmtHasItems (sym (view_while shift e x (shift line))) h)

  do_has : (line : ℕ) (x : Stmt) (e : Expr) → HasStmt x → HasStmt (stmt_at line (s.Do x e))
  unfolding StmtHasItems
  do_has line x e h = node_has line (s.Do x e) (subst StmtHasItems (sym (view_do shift x e (shift line))) h)

  abbrev HasStart : ForStart → Type 0
  HasStart start = ForStartHasItems (for_start_view shift start)

  for_has : (line : ℕ) (head : ForHead) (x : Stmt) → HasStart head.start → HasStmt x → HasStmt (stmt_at line (s.For head x))
  unfolding StmtHasItems
  for_has line head x k h = node_has line (s.For head x) (subst StmtHasItems (sym (view_for shift head x (shift line))) (k, h))

  continue_has : (line : ℕ) → HasStmt (stmt_at line s.Continue)
  unfolding StmtHasItems
  continue_has line = node_has line s.Continue (subst StmtHasItems (sym (view_continue shift (shift line))) tt)

  break_has : (line : ℕ) → HasStmt (stmt_at line s.Break)
  unfolding StmtHasItems
  break_has line = node_has line s.Break (subst StmtHasItems (sym (view_break shift (shift line))) tt)

  return_has : (line : ℕ) (e : Option Expr) → HasStmt (stmt_at line (s.Return e))
  unfolding StmtHasItems
  return_has line e = node_has line (s.Return e) (subst StmtHasItems (sym (view_return shift e (shift line))) tt)

  -- ---- lines of the grammar, over statements that have items

  module _ (src : Bytes) {S : Spelling (Stmt × Bool)} (inner : Spells Has S) where
    closed_has : {T : Spelling Stmt} → Spells HasStmt T → Spells Has (Closed src S T)
    closed_has h = spells_map (λ x. (x, false)) h (λ x p. p)

    spells_part : Spells HasPart (IsBlockItem src S)
    spells_part =
        spells_or (spells_map b.Declaration (declaration_has shift src) declaration_part)
        (spells_map (λ p. b.Statement p.0) inner (λ p h. statement_part p.0 h))

    pub spells_block : Spells HasBlock (IsBlock src S)
    spells_block =
        spells_bind {P = Any} spells_any (λ t u. spells_bind (spells_further {P = HasPart} [] tt spells_part) (λ items p.
        spells_bind {P = Any} spells_any (λ v u'. spells_is (block_has t.line items v.line p))))

    spells_expr_stmt : Spells HasStmt (IsExprStmt src S)
    spells_expr_stmt = spells_bind {P = Any} spells_any (λ x u. spells_bind {P = Any} spells_any (λ t u'. spells_is (expr_has x.line x)))

    spells_empty_stmt : Spells HasStmt (IsEmptyStmt src S)
    spells_empty_stmt = spells_map {P = Any} _ spells_any (λ t u. empty_has t.line)

    abbrev HasElse : Option Stmt × Bool → Type 0
    HasElse p = IfThere HasStmt p.0

    spells_else : (is_open : Bool) → Spells HasElse (IsElse src S is_open)
    spells_else true = spells_never
    spells_else false = spells_bind {P = Any} spells_any (λ t u. spells_map (λ p. (Some p.0, p.1)) inner (λ p h. h))

    spells_if : Spells Has (IsIf src S)
    spells_if =
        spells_bind {P = Any} spells_any (λ t u. spells_bind {P = Any} spells_any (λ x u'. spells_bind inner (λ first h.
        spells_bind {P = HasElse} (spells_or (spells_else first.1) (spells_is tt)) (λ second k. spells_is (if_has t.line x first.0 second.0 h k)))))

    spells_while : Spells Has (IsWhile src S)
    spells_while =
        spells_bind {P = Any} spells_any (λ t u. spells_bind {P = Any} spells_any (λ x u'. spells_bind inner (λ body h.
        spells_is (while_has t.line x body.0 h))))

    spells_do : Spells HasStmt (IsDo src S)
    spells_do =
        spells_bind {P = Any} spells_any (λ t u. spells_bind inner (λ body h. spells_bind {P = Any} spells_any (λ t' u'.
        spells_bind {P = Any} spells_any (λ x v. spells_bind {P = Any} spells_any (λ t'' v'. spells_is (do_has t.line body.0 x h))))))

    spells_for_start : Spells HasStart (IsForStart src S)
    spells_for_start =
        spells_or (spells_map f.Declaration (declaration_has shift src) (λ d h. h))
        (spells_bind {P = Any} spells_any (λ x u. spells_bind {P = Any} spells_any (λ t u'. spells_is tt)))

    spells_for : Spells Has (IsFor src S)
    spells_for =
        spells_bind {P = Any} spells_any (λ t u. spells_bind {P = Any} spells_any (λ t' u'. spells_bind spells_for_start (λ start k.
        spells_bind {P = Any} spells_any (λ x v. spells_bind {P = Any} spells_any (λ t'' v'. spells_bind {P = Any} spells_any (λ step w.
        spells_bind {P = Any} spells_any (λ t''' w'. spells_bind inner (λ body h. spells_is (for_has t.line (for_head start x step) body.0 k h)))))))))

    spells_continue : Spells HasStmt (IsContinue src S)
    spells_continue = spells_bind {P = Any} spells_any (λ t u. spells_bind {P = Any} spells_any (λ t' u'. spells_is (continue_has t.line)))

    spells_break : Spells HasStmt (IsBreak src S)
    spells_break = spells_bind {P = Any} spells_any (λ t u. spells_bind {P = Any} spells_any (λ t' u'. spells_is (break_has t.line)))

    spells_return : Spells HasStmt (IsReturn src S)
    spells_return =
        spells_bind {P = Any} spells_any (λ t u. spells_bind {P = Any} spells_any (λ x u'. spells_bind {P = Any} spells_any (λ t' v.
        spells_is (return_has t.line x))))

    spells_line : Spells Has (IsStmtLine src S)
    spells_line =
        spells_or (closed_has (spells_map block_stmt spells_block block_stmt_has)) (spells_or (closed_has spells_empty_stmt) (spells_or spells_if
        (spells_or spells_while (spells_or (closed_has spells_do) (spells_or spells_for (spells_or (closed_has spells_return)
        (spells_or (closed_has spells_break) (spells_or (closed_has spells_continue) (closed_has spells_expr_stmt)))))))))

  -- ---- whole statements

  stmt_has : (src : Bytes) (depth : ℕ) → Spells Has (StmtAt src depth)
  unfolding StmtAt
  stmt_has src zero = record { spelled = λ p w h. absurd h }
  stmt_has src (suc depth) = spells_line src (stmt_has src depth)

  pub any_stmt_has : (src : Bytes) → Spells Has (AnyStmt src)
  any_stmt_has src = record { spelled = λ p w h. (stmt_has src h.0).spelled p w h.1 }
