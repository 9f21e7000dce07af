-- What the view of a typed statement is, a constructor at a time.
use Rattle.std.proofs.Common.{◌≡◌, ℕ, List, map, Option, Some, None, ap, sym, ◌∙◌}
use Rattle.std.specs.Prelude.{option_map}
use Rattle.c_types.specs.declared.type_ref.TypeRef.{TypeRef}
use Rattle.c_types.specs.Types.{CType}
use Rattle.c_typed.specs.declared.value.Value as v
use Rattle.c_typed.specs.declared.statement.LocalItem.{LocalItem}
use Rattle.c_typed.specs.declared.statement.ForHead.{ForHead}
use Rattle.c_typed.specs.declared.statement.BlockItem as code_block_item
use Rattle.c_typed.specs.declared.statement.BlockItem.{BlockItem-F}
use Rattle.c_typed.specs.declared.statement.BlockItem.TheVariants as bi
use Rattle.c_typed.specs.declared.statement.StmtNode as code_stmt_node
use Rattle.c_typed.specs.declared.statement.StmtNode.{StmtNode-F}
use Rattle.c_typed.specs.declared.statement.StmtNode.TheVariants as sn
use Rattle.c_typed.specs.declared.statement.Block as code_block
use Rattle.c_typed.specs.declared.statement.Stmt as code_stmt
use Rattle.c_typed.specs.Views.{value_view}
use Rattle.c_typed.specs.Statements.{Stmt, block, empty, expression, if_only, if_else, while, do_while, for, continue, break, return, Items, declaration, statement}
use Rattle.c_typed.specs.StatementViews.{BlockView, all_items, local_item_view, for_start_view, block_item_from, stmt_node_from, block_from, stmt_from, stmt_view, stmt_node_view, block_view, block_item_view}

module _ (types : TypeRef → CType) where
  pub view_block : (b : code_block.Block) (line : ℕ) → stmt_node_view types (sn.Block b) line ≡ block (block_view types b).line (block_view types b).items (block_view types b).end
  unfolding stmt_node_view stmt_view block_view
  view_block b line =
      ap (λ n. stmt_node_view types n line) (sym (sn.rolls-Block b)) ∙ ap (λ f. f line) (code_stmt_node.fold-roll-StmtNode (Items → Items) (ℕ → Stmt) BlockView Stmt (block_item_from types) (stmt_node_from types) (block_from types) (stmt_from types) (StmtNode-F.Block b))

  pub view_empty : (line : ℕ) → stmt_node_view types sn.Empty line ≡ empty line
  unfolding stmt_node_view stmt_view block_view
  view_empty line =
      ap (λ n. stmt_node_view types n line) (sym sn.rolls-Empty) ∙ ap (λ f. f line) (code_stmt_node.fold-roll-StmtNode (Items → Items) (ℕ → Stmt) BlockView Stmt (block_item_from types) (stmt_node_from types) (block_from types) (stmt_from types) StmtNode-F.Empty)

  pub view_value : (x : v.Value) (line : ℕ) → stmt_node_view types (sn.Value x) line ≡ expression line (value_view types x)
  unfolding stmt_node_view stmt_view block_view
  view_value x line =
      ap (λ n. stmt_node_view types n line) (sym (sn.rolls-Value x)) ∙ ap (λ f. f line) (code_stmt_node.fold-roll-StmtNode (Items → Items) (ℕ → Stmt) BlockView Stmt (block_item_from types) (stmt_node_from types) (block_from types) (stmt_from types) (StmtNode-F.Value x))

  pub view_if_only : (x : v.Value) (s : code_stmt.Stmt) (line : ℕ) → stmt_node_view types (sn.If x s None) line ≡ if_only line (value_view types x) (stmt_view types s)
  unfolding stmt_node_view stmt_view
  view_if_only x s line =
      ap (λ n. stmt_node_view types n line) (sym (sn.rolls-If x s None)) ∙ ap (λ f. f line) (code_stmt_node.fold-roll-StmtNode (Items → Items) (ℕ → Stmt) BlockView Stmt (block_item_from types) (stmt_node_from types) (block_from types) (stmt_from types) (StmtNode-F.If x s None))

  pub view_if_else : (x : v.Value) (s u : code_stmt.Stmt) (line : ℕ) → stmt_node_view types (sn.If x s (Some u)) line ≡ if_else line (value_view types x) (stmt_view types s) (stmt_view types u)
  unfolding stmt_node_view stmt_view
  view_if_else x s u line =
      ap (λ n. stmt_node_view types n line) (sym (sn.rolls-If x s (Some u))) ∙ ap (λ f. f line) (code_stmt_node.fold-roll-StmtNode (Items → Items) (ℕ → Stmt) BlockView Stmt (block_item_from types) (stmt_node_from types) (block_from types) (stmt_from types) (StmtNode-F.If x s (Some u)))

  pub view_while : (x : v.Value) (s : code_stmt.Stmt) (line : ℕ) → stmt_node_view types (sn.While x s) line ≡ while line (value_view types x) (stmt_view types s)
  unfolding stmt_node_view stmt_view block_view
  view_while x s line =
      ap (λ n. stmt_node_view types n line) (sym (sn.rolls-While x s)) ∙ ap (λ f. f line) (code_stmt_node.fold-roll-StmtNode (Items → Items) (ℕ → Stmt) BlockView Stmt (block_item_from types) (stmt_node_from types) (block_from types) (stmt_from types) (StmtNode-F.While x s))

  pub view_do : (s : code_stmt.Stmt) (x : v.Value) (line : ℕ) → stmt_node_view types (sn.Do s x) line ≡ do_while line (stmt_view types s) (value_view types x)
  unfolding stmt_node_view stmt_view block_view
  view_do s x line =
      ap (λ n. stmt_node_view types n line) (sym (sn.rolls-Do s x)) ∙ ap (λ f. f line) (code_stmt_node.fold-roll-StmtNode (Items → Items) (ℕ → Stmt) BlockView Stmt (block_item_from types) (stmt_node_from types) (block_from types) (stmt_from types) (StmtNode-F.Do s x))

  pub view_for : (head : ForHead) (s : code_stmt.Stmt) (line : ℕ) → stmt_node_view types (sn.For head s) line ≡ for line (for_start_view types head.start) (option_map (value_view types) head.test) (option_map (value_view types) head.step) (stmt_view types s)
  unfolding stmt_node_view stmt_view block_view
  view_for head s line =
      ap (λ n. stmt_node_view types n line) (sym (sn.rolls-For head s)) ∙ ap (λ f. f line) (code_stmt_node.fold-roll-StmtNode (Items → Items) (ℕ → Stmt) BlockView Stmt (block_item_from types) (stmt_node_from types) (block_from types) (stmt_from types) (StmtNode-F.For head s))

  pub view_return : (x : Option v.Value) (line : ℕ) → stmt_node_view types (sn.Return x) line ≡ return line (option_map (value_view types) x)
  unfolding stmt_node_view stmt_view block_view
  view_return x line =
      ap (λ n. stmt_node_view types n line) (sym (sn.rolls-Return x)) ∙ ap (λ f. f line) (code_stmt_node.fold-roll-StmtNode (Items → Items) (ℕ → Stmt) BlockView Stmt (block_item_from types) (stmt_node_from types) (block_from types) (stmt_from types) (StmtNode-F.Return x))

  pub view_continue : (line : ℕ) → stmt_node_view types sn.Continue line ≡ continue line
  unfolding stmt_node_view stmt_view block_view
  view_continue line =
      ap (λ n. stmt_node_view types n line) (sym sn.rolls-Continue) ∙ ap (λ f. f line) (code_stmt_node.fold-roll-StmtNode (Items → Items) (ℕ → Stmt) BlockView Stmt (block_item_from types) (stmt_node_from types) (block_from types) (stmt_from types) StmtNode-F.Continue)

  pub view_break : (line : ℕ) → stmt_node_view types sn.Break line ≡ break line
  unfolding stmt_node_view stmt_view block_view
  view_break line =
      ap (λ n. stmt_node_view types n line) (sym sn.rolls-Break) ∙ ap (λ f. f line) (code_stmt_node.fold-roll-StmtNode (Items → Items) (ℕ → Stmt) BlockView Stmt (block_item_from types) (stmt_node_from types) (block_from types) (stmt_from types) StmtNode-F.Break)

  pub view_stmt : (s : code_stmt.Stmt) → stmt_view types s ≡ stmt_node_view types s.node (s.line)
  unfolding stmt_node_view stmt_view
  view_stmt s =
      ap (stmt_view types) (sym (code_stmt.rolls-Stmt' (record { line = s.line; node = s.node }))) ∙ code_stmt.fold-roll-Stmt (Items → Items) (ℕ → Stmt) BlockView Stmt (block_item_from types) (stmt_node_from types) (block_from types) (stmt_from types) (record { line = s.line; node = s.node })

  pub view_items : (line : ℕ) (items : List code_block_item.BlockItem) (end : ℕ)
      → block_view types (code_block.roll-Block (record { line = line; items = items; end = end })) ≡ record { line = line; items = all_items (map (block_item_view types) items); end = end }
  unfolding block_view block_item_view
  view_items line items end = code_block.fold-roll-Block (Items → Items) (ℕ → Stmt) BlockView Stmt (block_item_from types) (stmt_node_from types) (block_from types) (stmt_from types) (record { line = line; items = items; end = end })

  pub view_declaration : (d : List LocalItem) (rest : Items) → block_item_view types (bi.Declaration d) rest ≡ declaration (map (local_item_view types) d) rest
  unfolding block_item_view
  view_declaration d rest =
      ap (λ x. block_item_view types x rest) (sym (bi.rolls-Declaration d)) ∙ ap (λ f. f rest) (code_block_item.fold-roll-BlockItem (Items → Items) (ℕ → Stmt) BlockView Stmt (block_item_from types) (stmt_node_from types) (block_from types) (stmt_from types) (BlockItem-F.Declaration d))

  pub view_statement : (s : code_stmt.Stmt) (rest : Items) → block_item_view types (bi.Statement s) rest ≡ statement (stmt_view types s) rest
  unfolding block_item_view stmt_view
  view_statement s rest =
      ap (λ x. block_item_view types x rest) (sym (bi.rolls-Statement s)) ∙ ap (λ f. f rest) (code_block_item.fold-roll-BlockItem (Items → Items) (ℕ → Stmt) BlockView Stmt (block_item_from types) (stmt_node_from types) (block_from types) (stmt_from types) (BlockItem-F.Statement s))
