-- Typed statements, functions and programs of the code as plain data.
use Rattle.std.specs.Prelude.{ℕ, List, [], ◌∷◌, map, Option, Some, None, option_map}
use Rattle.c_types.specs.declared.type_ref.TypeRef.{TypeRef}
use Rattle.c_types.specs.Types.{CType}
use Rattle.c_types.specs.Table.{type_at}
use Rattle.c_typed.specs.declared.statement.Cell.{Cell as CodeCell}
use Rattle.c_typed.specs.declared.statement.Initializer.{Initializer as CodeInitializer}
use Rattle.c_typed.specs.declared.statement.Initializer.TheVariants as initializer
use Rattle.c_typed.specs.declared.statement.LocalItem.{LocalItem as CodeLocalItem}
use Rattle.c_typed.specs.declared.statement.ForStart.{ForStart as CodeForStart}
use Rattle.c_typed.specs.declared.statement.ForStart.TheVariants as for_start
use Rattle.c_typed.specs.declared.statement.BlockItem.{BlockItem-F}
use Rattle.c_typed.specs.declared.statement.StmtNode.{StmtNode-F}
use Rattle.c_typed.specs.declared.statement.BlockItem as code_block_item
use Rattle.c_typed.specs.declared.statement.StmtNode as code_stmt_node
use Rattle.c_typed.specs.declared.statement.Block as code_block
use Rattle.c_typed.specs.declared.statement.Stmt as code_stmt
use Rattle.c_typed.specs.declared.program.LocalRow.{LocalRow as CodeLocalRow}
use Rattle.c_typed.specs.declared.program.Function.{Function as CodeFunction}
use Rattle.c_typed.specs.declared.program.Static.{Static as CodeStatic}
use Rattle.c_typed.specs.declared.program.TypedFile.{TypedFile as CodeFile}
use Rattle.c_typed.specs.declared.program.TypedProgram.{TypedProgram}
use Rattle.c_typed.specs.Typed.{Value}
use Rattle.c_typed.specs.Views.{value_view, qualified_from}
use Rattle.c_typed.specs.Statements.{Cell, Initializer, scalar, cells, LocalItem, ForStart, starts, declares, Stmt, block, empty, expression, if_only, if_else, while, do_while, for, continue, break, return, Items, no_items, declaration, statement, LocalRow, Function, Static, TypedFile, Program}

-- a block with its lines
pub record BlockView : Type 0 where
  pub line : ℕ
  pub items : Items
  pub end : ℕ

abbrev pub all_items : List (Items → Items) → Items
all_items [] = no_items
all_items (f ∷ fs) = f (all_items fs)

abbrev pub if_from : ℕ → Value → Stmt → Option Stmt → Stmt
if_from line e s None = if_only line e s
if_from line e s (Some u) = if_else line e s u

module _ (types : TypeRef → CType) where
  abbrev pub cell_view : CodeCell → Cell
  cell_view c = record { index = c.index; value = value_view types c.value }

  abbrev pub initializer_view : CodeInitializer → Initializer
  initializer_view (initializer.Scalar v) = scalar (value_view types v)
  initializer_view (initializer.Cells xs) = cells (map cell_view xs)

  abbrev pub local_item_view : CodeLocalItem → LocalItem
  local_item_view x = record { number = x.number; initializer = option_map initializer_view x.initializer }

  abbrev pub for_start_view : CodeForStart → ForStart
  for_start_view (for_start.Value v) = starts (option_map (value_view types) v)
  for_start_view (for_start.Locals xs) = declares (map local_item_view xs)

  abbrev pub block_item_from : BlockItem-F (Items → Items) (ℕ → Stmt) BlockView Stmt → Items → Items
  block_item_from (BlockItem-F.Declaration xs) rest = declaration (map local_item_view xs) rest
  block_item_from (BlockItem-F.Statement s) rest = statement s rest

  abbrev pub stmt_node_from : StmtNode-F (Items → Items) (ℕ → Stmt) BlockView Stmt → ℕ → Stmt
  stmt_node_from (StmtNode-F.Block b) line = block b.line b.items b.end
  stmt_node_from StmtNode-F.Empty line = empty line
  stmt_node_from (StmtNode-F.Value v) line = expression line (value_view types v)
  stmt_node_from (StmtNode-F.If v s u) line = if_from line (value_view types v) s u
  stmt_node_from (StmtNode-F.While v s) line = while line (value_view types v) s
  stmt_node_from (StmtNode-F.Do s v) line = do_while line s (value_view types v)
  stmt_node_from (StmtNode-F.For head s) line =
      for line (for_start_view head.start) (option_map (value_view types) head.test) (option_map (value_view types) head.step) s
  stmt_node_from StmtNode-F.Continue line = continue line
  stmt_node_from StmtNode-F.Break line = break line
  stmt_node_from (StmtNode-F.Return v) line = return line (option_map (value_view types) v)

  abbrev pub block_from : code_block.Block-F (Items → Items) (ℕ → Stmt) BlockView Stmt → BlockView
  block_from b = record { line = b.line; items = all_items b.items; end = b.end }

  abbrev pub stmt_from : code_stmt.Stmt-F (Items → Items) (ℕ → Stmt) BlockView Stmt → Stmt
  stmt_from s = s.node s.line

  unfoldable pub stmt_view : code_stmt.Stmt → Stmt
  stmt_view = code_stmt.fold-Stmt (Items → Items) (ℕ → Stmt) BlockView Stmt block_item_from stmt_node_from block_from stmt_from

  unfoldable pub stmt_node_view : code_stmt_node.StmtNode → ℕ → Stmt
  stmt_node_view =
      code_stmt_node.fold-StmtNode (Items → Items) (ℕ → Stmt) BlockView Stmt block_item_from stmt_node_from block_from stmt_from

  unfoldable pub block_item_view : code_block_item.BlockItem → Items → Items
  block_item_view =
      code_block_item.fold-BlockItem (Items → Items) (ℕ → Stmt) BlockView Stmt block_item_from stmt_node_from block_from stmt_from

  unfoldable pub block_view : code_block.Block → BlockView
  block_view = code_block.fold-Block (Items → Items) (ℕ → Stmt) BlockView Stmt block_item_from stmt_node_from block_from stmt_from

  abbrev pub row_view : CodeLocalRow → LocalRow
  row_view r = record { line = r.line; first = r.first; type = qualified_from types r.ty; is_placed = r.is_placed }

  unfoldable pub function_view : CodeFunction → Function
  function_view f =
      record {
        entity = f.entity;
        line = f.line;
        type = types f.ty;
        parameters = f.parameters;
        locals = map row_view f.locals;
        begin =
            (block_view f.body).line;
        body = (block_view f.body).items;
        end = (block_view f.body).end;
      }

  abbrev pub static_view : CodeStatic → Static
  static_view s = record { entity = s.entity; line = s.line; type = qualified_from types s.ty; cells = s.cells }

  unfoldable pub file_view : CodeFile → TypedFile
  file_view f = record { functions = map function_view f.functions; statics = map static_view f.statics; texts = f.texts }

-- a program, whose references stand for the types of its table
unfoldable pub program_view : TypedProgram → Program
program_view p =
    record {
      main_file = file_view (type_at p.types) p.main_file;
      binary_file = file_view (type_at p.types) p.binary_file;
      entities = p.entities;
      main = p.main;
    }
