-- What typed statements of the code stand for, in a table of types and in all that have more.
use Rattle.std.specs.Prelude.{◌≡◌, ℕ, List, map, Option, option_map}
use Rattle.c_types.specs.declared.type_ref.Row.{Row}
use Rattle.c_types.specs.Table.{type_at, Extends}
use Rattle.c_typed.specs.declared.value.Value as v
use Rattle.c_typed.specs.declared.statement.Block as code_block
use Rattle.c_typed.specs.declared.statement.Stmt as code_stmt
use Rattle.c_typed.specs.declared.statement.StmtNode as code_node
use Rattle.c_typed.specs.declared.statement.BlockItem as code_item
use Rattle.c_typed.specs.declared.statement.ForStart as code_start
use Rattle.c_typed.specs.declared.statement.ForHead as code_head
use Rattle.c_typed.specs.Typed.{Value}
use Rattle.c_typed.specs.Statements.{Stmt, Items, ForStart}
use Rattle.c_typed.specs.Views.{value_view}
use Rattle.c_typed.specs.StatementViews.{block_view, stmt_view, stmt_node_view, block_item_view, for_start_view}
use Rattle.c_statements.specs.Steps.{Head}

pub record MeansValueIf (rows : List Row) (x : Option v.Value) (t : Option Value) : Type 0 where
  pub always : (later : List Row) → Extends rows later → option_map (value_view (type_at later)) x ≡ t

-- a block with its lines, and the parts that it has
pub record IsBlock (line end : ℕ) (rows : List Row) (x : code_block.Block) (items : Items) : Type 0 where
  pub always : (later : List Row) → Extends rows later → block_view (type_at later) x ≡ record { line = line; items = items; end = end }

pub record IsStmt (rows : List Row) (x : code_stmt.Stmt) (s : Stmt) : Type 0 where
  pub always : (later : List Row) → Extends rows later → stmt_view (type_at later) x ≡ s

pub record IsStmtIf (rows : List Row) (x : Option code_stmt.Stmt) (s : Option Stmt) : Type 0 where
  pub always : (later : List Row) → Extends rows later → option_map (stmt_view (type_at later)) x ≡ s

-- what a statement is that begins on a line
pub record IsNode (line : ℕ) (rows : List Row) (x : code_node.StmtNode) (s : Stmt) : Type 0 where
  pub always : (later : List Row) → Extends rows later → stmt_node_view (type_at later) x line ≡ s

pub record IsStart (rows : List Row) (x : code_start.ForStart) (s : ForStart) : Type 0 where
  pub always : (later : List Row) → Extends rows later → for_start_view (type_at later) x ≡ s

pub record IsHead (rows : List Row) (x : code_head.ForHead) (h : Head) : Type 0 where
  pub start : IsStart rows x.start h.start
  pub test : MeansValueIf rows x.test h.test
  pub step : MeansValueIf rows x.step h.step

-- a part of a block makes what a block has of what stands behind it
pub record IsPart (rows : List Row) (x : code_item.BlockItem) (f : Items → Items) : Type 0 where
  pub always : (later : List Row) → Extends rows later → block_item_view (type_at later) x ≡ f

pub record AreParts (rows : List Row) (xs : List code_item.BlockItem) (fs : List (Items → Items)) : Type 0 where
  pub always : (later : List Row) → Extends rows later → map (block_item_view (type_at later)) xs ≡ fs
