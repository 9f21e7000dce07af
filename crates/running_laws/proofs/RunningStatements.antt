-- What statements ask for so that they can run: each of their expressions runs.
use Rattle.std.specs.Prelude.{List, [], ◌∷◌, Option, Some, None}
use Rattle.c_typed.specs.Typed.{Value}
use Rattle.c_typed.specs.Statements.{Cell, Initializer, scalar, cells, LocalItem, ForStart, starts, declares, Stmt, block, empty, expression, if_only, if_else, while, do_while, for, continue, break, return, Items, no_items, declaration, statement}
use Rattle.source_meaning.specs.Values.{MayHaveValues, HaveCells, HasInitial, HaveInitials, HasStart, HasStatement, HasItems}
use Rattle.source_meaning.specs.Sound.{MayHaveOperands, CellsHaveOperands, InitialHasOperands, LocalsHaveOperands, StartHasOperands, StmtHasOperands, ItemsHaveOperands}
use Rattle.typing_rules.specs.Laws.{Each}
use Rattle.typing_laws.specs.LanguagePrograms.{IfThere}
use Rattle.running_laws.proofs.Running.{Runs, has_operands, has_values}

abbrev pub CellRuns : Cell → Type 0
CellRuns c = Runs c.value

abbrev pub InitializerRuns : Initializer → Type 0
InitializerRuns (scalar v) = Runs v
InitializerRuns (cells given) = Each CellRuns given

abbrev pub LocalRuns : LocalItem → Type 0
LocalRuns l = IfThere InitializerRuns l.initializer

abbrev pub ForStartRuns : ForStart → Type 0
ForStartRuns (starts first) = IfThere Runs first
ForStartRuns (declares locals) = Each LocalRuns locals

unfoldable mutual
  pub StmtRuns : Stmt → Type 0
  StmtRuns (block line items end) = ItemsRun items
  StmtRuns (empty line) = Unit {0}
  StmtRuns (expression line v) = Runs v
  StmtRuns (if_only line test s) = Runs test × StmtRuns s
  StmtRuns (if_else line test s u) = Runs test × StmtRuns s × StmtRuns u
  StmtRuns (while line test s) = Runs test × StmtRuns s
  StmtRuns (do_while line s test) = StmtRuns s × Runs test
  StmtRuns (for line start test step s) = ForStartRuns start × IfThere Runs test × IfThere Runs step × StmtRuns s
  StmtRuns (continue line) = Unit {0}
  StmtRuns (break line) = Unit {0}
  StmtRuns (return line v) = IfThere Runs v

  pub ItemsRun : Items → Type 0
  ItemsRun no_items = Unit {0}
  ItemsRun (declaration locals rest) = Each LocalRuns locals × ItemsRun rest
  ItemsRun (statement s rest) = StmtRuns s × ItemsRun rest

-- ---- their operands

may_have_operands : (v : Option Value) → IfThere Runs v → MayHaveOperands v
may_have_operands None h = tt
may_have_operands (Some v) h = has_operands v h

cells_have_operands : (given : List Cell) → Each CellRuns given → CellsHaveOperands given
cells_have_operands [] h = tt
cells_have_operands (c ∷ rest) h = (has_operands c.value h.0, cells_have_operands rest h.1)

initial_has_operands : (x : Option Initializer) → IfThere InitializerRuns x → InitialHasOperands x
initial_has_operands None h = tt
initial_has_operands (Some (scalar v)) h = has_operands v h
initial_has_operands (Some (cells given)) h = cells_have_operands given h

locals_have_operands : (locals : List LocalItem) → Each LocalRuns locals → LocalsHaveOperands locals
locals_have_operands [] h = tt
locals_have_operands (l ∷ rest) h = (initial_has_operands l.initializer h.0, locals_have_operands rest h.1)

start_has_operands : (x : ForStart) → ForStartRuns x → StartHasOperands x
start_has_operands (starts first) h = may_have_operands first h
start_has_operands (declares locals) h = locals_have_operands locals h

mutual
  unfolding StmtRuns StmtHasOperands

  stmt_has_operands : (s : Stmt) → StmtRuns s → StmtHasOperands s
  stmt_has_operands (block line items end) h = items_have_operands items h
  stmt_has_operands (empty line) h = tt
  stmt_has_operands (expression line v) h = has_operands v h
  stmt_has_operands (if_only line test s) h = (has_operands test h.0, stmt_has_operands s h.1)
  stmt_has_operands (if_else line test s u) h = (has_operands test h.0, stmt_has_operands s h.1, stmt_has_operands u h.2)
  stmt_has_operands (while line test s) h = (has_operands test h.0, stmt_has_operands s h.1)
  stmt_has_operands (do_while line s test) h = (stmt_has_operands s h.0, has_operands test h.1)
  stmt_has_operands (for line start test step s) h =
      (start_has_operands start h.0, may_have_operands test h.1, may_have_operands step h.2, stmt_has_operands s h.3)
  stmt_has_operands (continue line) h = tt
  stmt_has_operands (break line) h = tt
  stmt_has_operands (return line v) h = may_have_operands v h

  pub items_have_operands : (items : Items) → ItemsRun items → ItemsHaveOperands items
  items_have_operands no_items h = tt
  items_have_operands (declaration locals rest) h = (locals_have_operands locals h.0, items_have_operands rest h.1)
  items_have_operands (statement s rest) h = (stmt_has_operands s h.0, items_have_operands rest h.1)

-- ---- their values

may_have_values : (v : Option Value) → IfThere Runs v → MayHaveValues v
may_have_values None h = tt
may_have_values (Some v) h = has_values v h

cells_have_values : (given : List Cell) → Each CellRuns given → HaveCells given
cells_have_values [] h = tt
cells_have_values (c ∷ rest) h = (has_values c.value h.0, cells_have_values rest h.1)

initial_has_values : (x : Option Initializer) → IfThere InitializerRuns x → HasInitial x
initial_has_values None h = tt
initial_has_values (Some (scalar v)) h = has_values v h
initial_has_values (Some (cells given)) h = cells_have_values given h

locals_have_values : (locals : List LocalItem) → Each LocalRuns locals → HaveInitials locals
locals_have_values [] h = tt
locals_have_values (l ∷ rest) h = (initial_has_values l.initializer h.0, locals_have_values rest h.1)

start_has_values : (x : ForStart) → ForStartRuns x → HasStart x
start_has_values (starts first) h = may_have_values first h
start_has_values (declares locals) h = locals_have_values locals h

mutual
  unfolding StmtRuns HasStatement

  stmt_has_values : (s : Stmt) → StmtRuns s → HasStatement s
  stmt_has_values (block line items end) h = items_have_values items h
  stmt_has_values (empty line) h = tt
  stmt_has_values (expression line v) h = has_values v h
  stmt_has_values (if_only line test s) h = (has_values test h.0, stmt_has_values s h.1)
  stmt_has_values (if_else line test s u) h = (has_values test h.0, stmt_has_values s h.1, stmt_has_values u h.2)
  stmt_has_values (while line test s) h = (has_values test h.0, stmt_has_values s h.1)
  stmt_has_values (do_while line s test) h = (stmt_has_values s h.0, has_values test h.1)
  stmt_has_values (for line start test step s) h =
      (start_has_values start h.0, may_have_values test h.1, may_have_values step h.2, stmt_has_values s h.3)
  stmt_has_values (continue line) h = tt
  stmt_has_values (break line) h = tt
  stmt_has_values (return line v) h = may_have_values v h

  pub items_have_values : (items : Items) → ItemsRun items → HasItems items
  items_have_values no_items h = tt
  items_have_values (declaration locals rest) h = (locals_have_values locals h.0, items_have_values rest h.1)
  items_have_values (statement s rest) h = (stmt_has_values s h.0, items_have_values rest h.1)
