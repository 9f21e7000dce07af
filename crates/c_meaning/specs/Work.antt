-- A measure of pending work: each task weighs more than the tasks that stand in its place.
use Rattle.std.specs.Prelude.{ℕ, suc, ◌+◌, List, [], ◌∷◌, Option, Some, None}
use Rattle.c_typed.specs.Typed.{Place, place, local, static, text, pointed, element, Value, value, constant, null, read, first_element, address, function, minus, complement, negation, arithmetic, sum, difference, comparison, conjunction, disjunction, choice, sequence, assignment, update, move, conversion, to_bool, requalified, discarded, call, call_through, putchar, getchar, exit, Values, no_values, first_value}
use Rattle.c_typed.specs.Statements.{Cell, Initializer, scalar, cells, LocalItem, ForStart, starts, declares, Stmt, block, empty, expression, if_only, if_else, while, do_while, for, continue, break, return, Items, no_items, declaration, statement}
use Rattle.c_meaning.specs.Pending.{Step, evaluate, evaluate_all, evaluate_dropped, locate, point, hold, hold_above, decide, finish, forget, initialize_all, give, give_cells, give_cell, Task, does, execute, execute_items, end_block, end_locals, choose, at_top, tested, after_body, again, answer, leave}

unfoldable mutual
  pub value_work : Value → ℕ
  value_work (value line t (constant n)) = 1
  value_work (value line t null) = 1
  value_work (value line t (read p)) = suc (place_work p + 1)
  value_work (value line t (first_element p)) = suc (place_work p)
  value_work (value line t (address p)) = suc (place_work p)
  value_work (value line t (function n)) = 1
  value_work (value line t (minus e)) = suc (value_work e + 1)
  value_work (value line t (complement e)) = suc (value_work e + 1)
  value_work (value line t (negation e)) = suc (value_work e + 1)
  value_work (value line t (arithmetic op at a b)) = suc (value_work a + (value_work b + 1))
  value_work (value line t (sum at is_less pointer_first a b)) = suc (value_work a + (value_work b + 1))
  value_work (value line t (difference at a b)) = suc (value_work a + (value_work b + 1))
  value_work (value line t (comparison op at a b)) = suc (value_work a + (value_work b + 1))
  value_work (value line t (conjunction a b)) = suc (value_work a + suc (value_work b + 1))
  value_work (value line t (disjunction a b)) = suc (value_work a + suc (value_work b + 1))
  value_work (value line t (choice e a b)) = suc (value_work e + suc (value_work a + value_work b))
  value_work (value line t (sequence dropped last)) = suc (dropped_work dropped + value_work last)
  value_work (value line t (assignment p e)) = suc (place_work p + (value_work e + 1))
  value_work (value line t (update is_after p first op at ty e)) = suc (place_work p + (1 + (value_work e + 1)))
  value_work (value line t (move is_after p is_less at e)) = suc (place_work p + (1 + (value_work e + 1)))
  value_work (value line t (conversion first e)) = suc (value_work e + 1)
  value_work (value line t (to_bool first e)) = suc (value_work e + 1)
  value_work (value line t (requalified e)) = suc (value_work e)
  value_work (value line t (discarded e)) = suc (value_work e)
  value_work (value line t (call at n es)) = suc (all_work es + 1)
  value_work (value line t (call_through at e es)) = suc (value_work e + (all_work es + 1))
  value_work (value line t (putchar at e)) = suc (value_work e + 1)
  value_work (value line t (getchar at)) = 2
  value_work (value line t (exit at e)) = suc (value_work e + 1)

  pub place_work : Place → ℕ
  place_work (place line t (local n)) = 1
  place_work (place line t (static n)) = 1
  place_work (place line t (text n)) = 1
  place_work (place line t (pointed e)) = suc (value_work e)
  place_work (place line t (element at pointer_first a b)) = suc (value_work a + (value_work b + 1))

  pub all_work : Values → ℕ
  all_work no_values = 1
  all_work (first_value e es) = suc (value_work e + all_work es)

  pub dropped_work : Values → ℕ
  dropped_work no_values = 1
  dropped_work (first_value e es) = suc (value_work e + (1 + dropped_work es))

-- after the first operand
abbrev pub decide_work : Value → ℕ
decide_work (value line t (conjunction a b)) = suc (value_work b + 1)
decide_work (value line t (disjunction a b)) = suc (value_work b + 1)
decide_work (value line t (choice e a b)) = suc (value_work a + value_work b)
decide_work other = 1

abbrev pub cells_work : List Cell → ℕ
cells_work [] = 1
cells_work (x ∷ rest) = suc (value_work x.value + (1 + cells_work rest))

abbrev pub initial_work : Option Initializer → ℕ
initial_work None = 0
initial_work (Some (scalar e)) = value_work e + 1
initial_work (Some (cells given)) = cells_work given

abbrev pub locals_work : List LocalItem → ℕ
locals_work [] = 1
locals_work (l ∷ rest) = suc (initial_work l.initializer + locals_work rest)

abbrev pub optional_work : Option Value → ℕ
optional_work None = 0
optional_work (Some e) = value_work e + 1

-- a `for` before its first round
abbrev pub for_work : ForStart → ℕ
for_work (starts first) = optional_work first + 1
for_work (declares locals) = locals_work locals + (1 + 1)

-- after the body of a loop
abbrev pub round_work : Stmt → ℕ
round_work (while line e a) = 2
round_work (do_while line a e) = suc (value_work e + 2)
round_work (for line first e step a) = suc (optional_work step + 1)
round_work other = 1

unfoldable mutual
  pub stmt_work : Stmt → ℕ
  stmt_work (block line items end) = suc (items_work items + 1)
  stmt_work (empty line) = 1
  stmt_work (expression line e) = suc (value_work e + 1)
  stmt_work (if_only line e a) = suc (value_work e + suc (stmt_work a))
  stmt_work (if_else line e a b) = suc (value_work e + suc (stmt_work a + stmt_work b))
  stmt_work (while line e a) = 2
  stmt_work (do_while line a e) = 2
  stmt_work (for line first e step a) = suc (for_work first)
  stmt_work (continue line) = 1
  stmt_work (break line) = 1
  stmt_work (return line None) = 1
  stmt_work (return line (Some e)) = suc (value_work e + 1)

  pub items_work : Items → ℕ
  items_work no_items = 1
  items_work (declaration locals rest) = suc (locals_work locals + items_work rest)
  items_work (statement first rest) = suc (stmt_work first + items_work rest)

-- the branches of an `if`, and a loop after its test
abbrev pub choice_work : Stmt → ℕ
choice_work (if_only line e a) = suc (stmt_work a)
choice_work (if_else line e a b) = suc (stmt_work a + stmt_work b)
choice_work other = 1

abbrev pub tested_work : Stmt → ℕ
tested_work (while line e a) = suc (stmt_work a + round_work (while line e a))
tested_work (do_while line a e) = suc (stmt_work a + round_work (do_while line a e))
tested_work (for line first e step a) = suc (stmt_work a + round_work (for line first e step a))
tested_work other = 1

abbrev pub step_work : Step → ℕ
step_work (evaluate e) = value_work e
step_work (evaluate_all es) = all_work es
step_work (evaluate_dropped es) = dropped_work es
step_work (locate p) = place_work p
step_work (point p) = 1
step_work (hold p) = 1
step_work (hold_above p) = 1
step_work (decide e) = decide_work e
step_work (finish e) = 1
step_work forget = 1
step_work (initialize_all locals) = locals_work locals
step_work (give n) = 1
step_work (give_cells n given) = cells_work given
step_work (give_cell n index) = 1

-- a task at the top of a loop takes a turn, and so does a call
abbrev pub task_work : Task → ℕ
task_work (does step) = step_work step
task_work (execute a) = stmt_work a
task_work (execute_items items) = items_work items
task_work (end_block items) = 1
task_work (end_locals locals) = 1
task_work (choose a) = choice_work a
task_work (at_top a) = 1
task_work (tested a) = tested_work a
task_work (after_body a) = round_work a
task_work (again a) = 2
task_work answer = 1
task_work (leave caller locals) = 1

abbrev pub work_of : List Task → ℕ
work_of [] = 0
work_of (t ∷ ts) = task_work t + work_of ts
