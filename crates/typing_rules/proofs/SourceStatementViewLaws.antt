-- What the view of a statement is, a constructor at a time.
use Rattle.std.proofs.Common.{◌≡◌, ℕ, List, map, Option, Some, None, ap, sym, ◌∙◌}
use Rattle.std.specs.Prelude.{option_map}
use Rattle.c_tree.specs.declared.expression.Expr as tree_expr
use Rattle.c_tree.specs.declared.declaration.Declaration as tree_declaration
use Rattle.c_tree.specs.declared.declaration.Initializer as tree_initializer
use Rattle.c_tree.specs.declared.declaration.Initializer.{Initializer-F}
use Rattle.c_tree.specs.declared.declaration.Initializer.TheVariants as ini
use Rattle.c_tree.specs.declared.statement.ForHead.{ForHead}
use Rattle.c_tree.specs.declared.statement.BlockItem as tree_block_item
use Rattle.c_tree.specs.declared.statement.BlockItem.{BlockItem-F}
use Rattle.c_tree.specs.declared.statement.BlockItem.TheVariants as bi
use Rattle.c_tree.specs.declared.statement.StmtNode as tree_stmt_node
use Rattle.c_tree.specs.declared.statement.StmtNode.{StmtNode-F}
use Rattle.c_tree.specs.declared.statement.StmtNode.TheVariants as sn
use Rattle.c_tree.specs.declared.statement.Block as tree_block
use Rattle.c_tree.specs.declared.statement.Stmt as tree_stmt
use Rattle.typing_rules.specs.SourceUnits.{Initial, single, braced, Stmt, empty, expression, if_only, if_else, while, do_while, for, continue, break, return, Items, declaration, statement}
use Rattle.typing_rules.specs.SourceViews.{BlockView, all_items, block_from, initials_from, block_item_from, stmt_node_from, block_view_from, stmt_from, for_start_view, declaration_view, initial_from, initial_view, expr_view, stmt_view, stmt_node_view, block_view, block_item_view}

module _ (shift : ℕ → ℕ) where
  pub view_block : (b : tree_block.Block) (line : ℕ) → stmt_node_view shift (sn.Block b) line ≡ block_from (block_view shift b)
  unfolding stmt_node_view stmt_view block_view
  view_block b line =
      ap (λ n. stmt_node_view shift n line) (sym (sn.rolls-Block b)) ∙ ap (λ f. f line) (tree_stmt_node.fold-roll-StmtNode (Items → Items) (ℕ → Stmt) BlockView Stmt (block_item_from shift) (stmt_node_from shift) (block_view_from shift) (stmt_from shift) (StmtNode-F.Block b))

  pub view_empty : (line : ℕ) → stmt_node_view shift sn.Empty line ≡ empty line
  unfolding stmt_node_view stmt_view block_view
  view_empty line =
      ap (λ n. stmt_node_view shift n line) (sym sn.rolls-Empty) ∙ ap (λ f. f line) (tree_stmt_node.fold-roll-StmtNode (Items → Items) (ℕ → Stmt) BlockView Stmt (block_item_from shift) (stmt_node_from shift) (block_view_from shift) (stmt_from shift) StmtNode-F.Empty)

  pub view_expr : (x : tree_expr.Expr) (line : ℕ) → stmt_node_view shift (sn.Expr x) line ≡ expression line (expr_view shift x)
  unfolding stmt_node_view stmt_view block_view
  view_expr x line =
      ap (λ n. stmt_node_view shift n line) (sym (sn.rolls-Expr x)) ∙ ap (λ f. f line) (tree_stmt_node.fold-roll-StmtNode (Items → Items) (ℕ → Stmt) BlockView Stmt (block_item_from shift) (stmt_node_from shift) (block_view_from shift) (stmt_from shift) (StmtNode-F.Expr x))

  pub view_if_only : (x : tree_expr.Expr) (s : tree_stmt.Stmt) (line : ℕ) → stmt_node_view shift (sn.If x s None) line ≡ if_only line (expr_view shift x) (stmt_view shift s)
  unfolding stmt_node_view stmt_view
  view_if_only x s line =
      ap (λ n. stmt_node_view shift n line) (sym (sn.rolls-If x s None)) ∙ ap (λ f. f line) (tree_stmt_node.fold-roll-StmtNode (Items → Items) (ℕ → Stmt) BlockView Stmt (block_item_from shift) (stmt_node_from shift) (block_view_from shift) (stmt_from shift) (StmtNode-F.If x s None))

  pub view_if_else : (x : tree_expr.Expr) (s u : tree_stmt.Stmt) (line : ℕ) → stmt_node_view shift (sn.If x s (Some u)) line ≡ if_else line (expr_view shift x) (stmt_view shift s) (stmt_view shift u)
  unfolding stmt_node_view stmt_view
  view_if_else x s u line =
      ap (λ n. stmt_node_view shift n line) (sym (sn.rolls-If x s (Some u))) ∙ ap (λ f. f line) (tree_stmt_node.fold-roll-StmtNode (Items → Items) (ℕ → Stmt) BlockView Stmt (block_item_from shift) (stmt_node_from shift) (block_view_from shift) (stmt_from shift) (StmtNode-F.If x s (Some u)))

  pub view_while : (x : tree_expr.Expr) (s : tree_stmt.Stmt) (line : ℕ) → stmt_node_view shift (sn.While x s) line ≡ while line (expr_view shift x) (stmt_view shift s)
  unfolding stmt_node_view stmt_view block_view
  view_while x s line =
      ap (λ n. stmt_node_view shift n line) (sym (sn.rolls-While x s)) ∙ ap (λ f. f line) (tree_stmt_node.fold-roll-StmtNode (Items → Items) (ℕ → Stmt) BlockView Stmt (block_item_from shift) (stmt_node_from shift) (block_view_from shift) (stmt_from shift) (StmtNode-F.While x s))

  pub view_do : (s : tree_stmt.Stmt) (x : tree_expr.Expr) (line : ℕ) → stmt_node_view shift (sn.Do s x) line ≡ do_while line (stmt_view shift s) (expr_view shift x)
  unfolding stmt_node_view stmt_view block_view
  view_do s x line =
      ap (λ n. stmt_node_view shift n line) (sym (sn.rolls-Do s x)) ∙ ap (λ f. f line) (tree_stmt_node.fold-roll-StmtNode (Items → Items) (ℕ → Stmt) BlockView Stmt (block_item_from shift) (stmt_node_from shift) (block_view_from shift) (stmt_from shift) (StmtNode-F.Do s x))

  pub view_for : (head : ForHead) (s : tree_stmt.Stmt) (line : ℕ) → stmt_node_view shift (sn.For head s) line ≡ for line (for_start_view shift head.start) (option_map (expr_view shift) head.condition) (option_map (expr_view shift) head.step) (stmt_view shift s)
  unfolding stmt_node_view stmt_view block_view
  view_for head s line =
      ap (λ n. stmt_node_view shift n line) (sym (sn.rolls-For head s)) ∙ ap (λ f. f line) (tree_stmt_node.fold-roll-StmtNode (Items → Items) (ℕ → Stmt) BlockView Stmt (block_item_from shift) (stmt_node_from shift) (block_view_from shift) (stmt_from shift) (StmtNode-F.For head s))

  pub view_return : (x : Option tree_expr.Expr) (line : ℕ) → stmt_node_view shift (sn.Return x) line ≡ return line (option_map (expr_view shift) x)
  unfolding stmt_node_view stmt_view block_view
  view_return x line =
      ap (λ n. stmt_node_view shift n line) (sym (sn.rolls-Return x)) ∙ ap (λ f. f line) (tree_stmt_node.fold-roll-StmtNode (Items → Items) (ℕ → Stmt) BlockView Stmt (block_item_from shift) (stmt_node_from shift) (block_view_from shift) (stmt_from shift) (StmtNode-F.Return x))

  pub view_continue : (line : ℕ) → stmt_node_view shift sn.Continue line ≡ continue line
  unfolding stmt_node_view stmt_view block_view
  view_continue line =
      ap (λ n. stmt_node_view shift n line) (sym sn.rolls-Continue) ∙ ap (λ f. f line) (tree_stmt_node.fold-roll-StmtNode (Items → Items) (ℕ → Stmt) BlockView Stmt (block_item_from shift) (stmt_node_from shift) (block_view_from shift) (stmt_from shift) StmtNode-F.Continue)

  pub view_break : (line : ℕ) → stmt_node_view shift sn.Break line ≡ break line
  unfolding stmt_node_view stmt_view block_view
  view_break line =
      ap (λ n. stmt_node_view shift n line) (sym sn.rolls-Break) ∙ ap (λ f. f line) (tree_stmt_node.fold-roll-StmtNode (Items → Items) (ℕ → Stmt) BlockView Stmt (block_item_from shift) (stmt_node_from shift) (block_view_from shift) (stmt_from shift) StmtNode-F.Break)

  pub view_stmt : (s : tree_stmt.Stmt) → stmt_view shift s ≡ stmt_node_view shift s.node (shift s.line)
  unfolding stmt_node_view stmt_view
  view_stmt s =
      ap (stmt_view shift) (sym (tree_stmt.rolls-Stmt' (record { line = s.line; node = s.node }))) ∙ tree_stmt.fold-roll-Stmt (Items → Items) (ℕ → Stmt) BlockView Stmt (block_item_from shift) (stmt_node_from shift) (block_view_from shift) (stmt_from shift) (record { line = s.line; node = s.node })

  pub view_items : (line : ℕ) (items : List tree_block_item.BlockItem) (end : ℕ)
      → block_view shift (tree_block.roll-Block (record { line = line; items = items; end = end })) ≡ record { line = shift line; items = all_items (map (block_item_view shift) items); end = shift end }
  unfolding block_view block_item_view
  view_items line items end = tree_block.fold-roll-Block (Items → Items) (ℕ → Stmt) BlockView Stmt (block_item_from shift) (stmt_node_from shift) (block_view_from shift) (stmt_from shift) (record { line = line; items = items; end = end })

  pub view_declaration : (d : tree_declaration.Declaration) (rest : Items) → block_item_view shift (bi.Declaration d) rest ≡ declaration (declaration_view shift d) rest
  unfolding block_item_view
  view_declaration d rest =
      ap (λ x. block_item_view shift x rest) (sym (bi.rolls-Declaration d)) ∙ ap (λ f. f rest) (tree_block_item.fold-roll-BlockItem (Items → Items) (ℕ → Stmt) BlockView Stmt (block_item_from shift) (stmt_node_from shift) (block_view_from shift) (stmt_from shift) (BlockItem-F.Declaration d))

  pub view_statement : (s : tree_stmt.Stmt) (rest : Items) → block_item_view shift (bi.Statement s) rest ≡ statement (stmt_view shift s) rest
  unfolding block_item_view stmt_view
  view_statement s rest =
      ap (λ x. block_item_view shift x rest) (sym (bi.rolls-Statement s)) ∙ ap (λ f. f rest) (tree_block_item.fold-roll-BlockItem (Items → Items) (ℕ → Stmt) BlockView Stmt (block_item_from shift) (stmt_node_from shift) (block_view_from shift) (stmt_from shift) (BlockItem-F.Statement s))

  pub view_single : (x : tree_expr.Expr) → initial_view shift (ini.Value x) ≡ single (expr_view shift x)
  unfolding initial_view
  view_single x = ap (initial_view shift) (sym (ini.rolls-Value x)) ∙ tree_initializer.fold-roll-Initializer Initial (initial_from shift) (Initializer-F.Value x)

  pub view_braced : (line : ℕ) (xs : List tree_initializer.Initializer) → initial_view shift (ini.List line xs) ≡ braced (shift line) (initials_from (map (initial_view shift) xs))
  unfolding initial_view
  view_braced line xs = ap (initial_view shift) (sym (ini.rolls-List line xs)) ∙ tree_initializer.fold-roll-Initializer Initial (initial_from shift) (Initializer-F.List line xs)
