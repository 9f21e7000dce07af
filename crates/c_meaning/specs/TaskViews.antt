-- The evaluator's tasks as plain data, where references stand for these types.
use Rattle.std.specs.Prelude.{List, map}
use Rattle.c_types.specs.declared.type_ref.TypeRef.{TypeRef}
use Rattle.c_types.specs.Types.{CType}
use Rattle.c_typed.specs.declared.value.Value as v
use Rattle.c_typed.specs.declared.statement.BlockItem as code_block_item
use Rattle.c_typed.specs.Views.{value_view, place_view, values_from}
use Rattle.c_typed.specs.StatementViews.{cell_view, local_item_view, all_items, block_item_view, stmt_view, function_view}
use Rattle.c_typed.specs.Statements.{Items}
use Rattle.c_typed.specs.Typed.{Values}
use Rattle.c_meaning.specs.declared.task.Current.{Current as CodeCurrent}
use Rattle.c_meaning.specs.declared.task.Task.{Task as CodeTask}
use Rattle.c_meaning.specs.declared.task.Task.TheVariants as task
use Rattle.c_meaning.specs.declared.task.ValueWork.TheVariants as value_work
use Rattle.c_meaning.specs.declared.task.ValuesWork.TheVariants as values_work
use Rattle.c_meaning.specs.declared.task.PlaceWork.TheVariants as place_work
use Rattle.c_meaning.specs.declared.task.StmtWork.TheVariants as stmt_work
use Rattle.c_meaning.specs.declared.task.ItemsWork.TheVariants as items_work
use Rattle.c_meaning.specs.declared.task.LocalsWork.TheVariants as locals_work
use Rattle.c_meaning.specs.Pending.{evaluate, evaluate_all, evaluate_dropped, locate, point, hold, hold_above, decide, finish, forget, initialize_all, give, give_cells, give_cell, Task, does, execute, execute_items, end_block, end_locals, choose, at_top, tested, after_body, again, answer, leave, Current}

module _ (types : TypeRef → CType) where
  abbrev pub values_view : List v.Value → Values
  values_view es = values_from (map (value_view types) es)

  abbrev pub items_view : List code_block_item.BlockItem → Items
  items_view items = all_items (map (block_item_view types) items)

  abbrev pub current_view : CodeCurrent → Current
  current_view c = record { part = c.part; function = function_view types c.function.now }

  abbrev pub task_view : CodeTask → Task
  task_view (task.Value value_work.Evaluate e) = does (evaluate (value_view types e.now))
  task_view (task.Value value_work.Decide e) = does (decide (value_view types e.now))
  task_view (task.Value value_work.Finish e) = does (finish (value_view types e.now))
  task_view (task.Values values_work.Evaluate es) = does (evaluate_all (values_view es.now))
  task_view (task.Values values_work.Drop es) = does (evaluate_dropped (values_view es.now))
  task_view (task.Place place_work.Locate p) = does (locate (place_view types p.now))
  task_view (task.Place place_work.Point p) = does (point (place_view types p.now))
  task_view (task.Place place_work.Hold p) = does (hold (place_view types p.now))
  task_view (task.Place place_work.HoldAbove p) = does (hold_above (place_view types p.now))
  task_view task.Forget = does forget
  task_view (task.Stmt stmt_work.Execute a) = execute (stmt_view types a.now)
  task_view (task.Stmt stmt_work.Choose a) = choose (stmt_view types a.now)
  task_view (task.Stmt stmt_work.Top a) = at_top (stmt_view types a.now)
  task_view (task.Stmt stmt_work.Tested a) = tested (stmt_view types a.now)
  task_view (task.Stmt stmt_work.AfterBody a) = after_body (stmt_view types a.now)
  task_view (task.Stmt stmt_work.Again a) = again (stmt_view types a.now)
  task_view (task.Items items_work.Execute items) = execute_items (items_view items.now)
  task_view (task.Items items_work.End items) = end_block (items_view items.now)
  task_view (task.Locals locals_work.Initialize locals) = does (initialize_all (map (local_item_view types) locals.now))
  task_view (task.Locals locals_work.End locals) = end_locals (map (local_item_view types) locals.now)
  task_view (task.Give n) = does (give n)
  task_view (task.Cells n given) = does (give_cells n (map (cell_view types) given.now))
  task_view (task.Cell n index) = does (give_cell n index)
  task_view task.Answer = answer
  task_view (task.Leave caller locals) = leave (current_view caller) locals

  abbrev pub tasks_view : List CodeTask → List Task
  tasks_view tasks = map task_view tasks
