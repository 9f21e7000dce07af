-- The nodes of declarations, statements and units.
use Rattle.std.specs.Prelude.{ℕ, List, Option}
use Rattle.c_tree.specs.declared.specifier.Specifier.{Specifier}
use Rattle.c_tree.specs.declared.expression.Expr.{Expr}
use Rattle.c_tree.specs.declared.expression.Declarator.{Declarator}
use Rattle.c_tree.specs.declared.declaration.Declaration.{Declaration}
use Rattle.c_tree.specs.declared.declaration.Item.{Item}
use Rattle.c_tree.specs.declared.declaration.Initializer.{Initializer}
use Rattle.c_tree.specs.declared.statement.Stmt.{Stmt}
use Rattle.c_tree.specs.declared.statement.StmtNode.{StmtNode}
use Rattle.c_tree.specs.declared.statement.StmtNode.TheVariants as s
use Rattle.c_tree.specs.declared.statement.ForHead.{ForHead}
use Rattle.c_tree.specs.declared.statement.ForStart.{ForStart}
use Rattle.c_tree.specs.declared.statement.Block.{Block, roll-Block}
use Rattle.c_tree.specs.declared.statement.BlockItem.{BlockItem}
use Rattle.c_tree.specs.declared.unit.Unit.{Unit as TheUnit}
use Rattle.c_tree.specs.declared.unit.External.{External}
use Rattle.c_tree.specs.declared.unit.External.TheVariants as x
use Rattle.c_expr.specs.Nodes.{first_line}

-- ---- declarations

abbrev pub item_node : Declarator → Option Initializer → Item
item_node declarator initializer = record { declarator = declarator; initializer = initializer }

abbrev pub declaration_node : List Specifier → List Item → Declaration
declaration_node specifiers items = record { line = first_line specifiers; specifiers = specifiers; items = items }

-- ---- statements

unfoldable pub stmt_at : ℕ → StmtNode → Stmt
stmt_at line node = record { line = line; node = node }

unfoldable pub block_node : ℕ → List BlockItem → ℕ → Block
block_node line items end = roll-Block (record { line = line; items = items; end = end })

abbrev pub block_stmt : Block → Stmt
block_stmt block = stmt_at block.line (s.Block block)

abbrev pub empty_stmt : ℕ → Stmt
empty_stmt line = stmt_at line s.Empty

abbrev pub expr_stmt : Expr → Stmt
expr_stmt x = stmt_at x.line (s.Expr x)

abbrev pub if_stmt : ℕ → Expr → Stmt → Option Stmt → Stmt
if_stmt line x first second = stmt_at line (s.If x first second)

abbrev pub while_stmt : ℕ → Expr → Stmt → Stmt
while_stmt line x body = stmt_at line (s.While x body)

abbrev pub do_stmt : ℕ → Stmt → Expr → Stmt
do_stmt line body x = stmt_at line (s.Do body x)

abbrev pub for_head : ForStart → Option Expr → Option Expr → ForHead
for_head start x step = record { start = start; condition = x; step = step }

abbrev pub for_stmt : ℕ → ForHead → Stmt → Stmt
for_stmt line head body = stmt_at line (s.For head body)

abbrev pub continue_stmt : ℕ → Stmt
continue_stmt line = stmt_at line s.Continue

abbrev pub break_stmt : ℕ → Stmt
break_stmt line = stmt_at line s.Break

abbrev pub return_stmt : ℕ → Option Expr → Stmt
return_stmt line x = stmt_at line (s.Return x)

-- ---- units

abbrev pub function_node : List Specifier → Declarator → Block → External
function_node specifiers declarator body = x.Function (record { line = first_line specifiers; specifiers = specifiers; declarator = declarator; body = body })

abbrev pub unit_node : List External → TheUnit
unit_node externals = record { externals = externals }
