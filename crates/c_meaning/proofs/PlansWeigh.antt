-- Each task weighs more than the tasks that stand in its place.
use Rattle.std.proofs.Common.{◌≡◌, ℕ, ◌+◌, ◌==◌, ◌<◌, ◌≤◌, Bool, if◌then◌else◌, List, [], ◌∷◌, ◌++◌, Option, Some, None, arith}
use Rattle.c_types.specs.Types.{CType}
use Rattle.c_typed.specs.Typed.{Place, place, local, static, text, pointed, element, Value, value, constant, null, read, first_element, address, function, minus, complement, negation, arithmetic, sum, difference, comparison, conjunction, disjunction, choice, sequence, assignment, update, move, conversion, to_bool, requalified, discarded, call, call_through, putchar, getchar, exit, Values, no_values, first_value}
use Rattle.c_typed.specs.Statements.{Cell, Initializer, scalar, cells, LocalItem, starts, declares, Stmt, block, empty, expression, if_only, if_else, while, do_while, for, continue, break, return, Items, no_items, declaration, statement}
use Rattle.c_meaning.specs.Pending.{Step, evaluate, evaluate_all, evaluate_dropped, locate, point, hold, hold_above, decide, finish, forget, initialize_all, give, give_cells, give_cell, Task, does, execute, execute_items, end_block, end_locals, choose, at_top, tested, after_body, again, answer, leave}
use Rattle.c_meaning.specs.Plans.{value_plan, all_plan, dropped_plan, place_plan, statement_plan, items_plan, choice_plan, tested_plan, round_plan, again_plan, initial_plan, cell_plan}
use Rattle.c_meaning.specs.Work.{value_work, place_work, all_work, dropped_work, decide_work, cells_work, locals_work, stmt_work, items_work, choice_work, tested_work, round_work, step_work, task_work, work_of}
use Rattle.c_meaning.proofs.PlansRun.{either_plan}

pub work_of_both : (xs ys : List Task) → work_of (xs ++ ys) ≡ work_of xs + work_of ys
work_of_both [] ys = omega arith
work_of_both (x ∷ xs) ys = omega (arith, work_of_both xs ys)

pub value_weighs : (e : Value) → work_of (value_plan e) < value_work e
unfolding value_work
value_weighs (value line t (constant n)) = omega arith
value_weighs (value line t null) = omega arith
value_weighs (value line t (read p)) = omega arith
value_weighs (value line t (first_element p)) = omega arith
value_weighs (value line t (address p)) = omega arith
value_weighs (value line t (function n)) = omega arith
value_weighs (value line t (minus e)) = omega arith
value_weighs (value line t (complement e)) = omega arith
value_weighs (value line t (negation e)) = omega arith
value_weighs (value line t (arithmetic op at a b)) = omega arith
value_weighs (value line t (sum at is_less pointer_first a b)) = omega arith
value_weighs (value line t (difference at a b)) = omega arith
value_weighs (value line t (comparison op at a b)) = omega arith
value_weighs (value line t (conjunction a b)) = omega arith
value_weighs (value line t (disjunction a b)) = omega arith
value_weighs (value line t (choice e a b)) = omega arith
value_weighs (value line t (sequence dropped last)) = omega arith
value_weighs (value line t (assignment p e)) = omega arith
value_weighs (value line t (update is_after p first op at ty e)) = omega arith
value_weighs (value line t (move is_after p is_less at e)) = omega arith
value_weighs (value line t (conversion first e)) = omega arith
value_weighs (value line t (to_bool first e)) = omega arith
value_weighs (value line t (requalified e)) = omega arith
value_weighs (value line t (discarded e)) = omega arith
value_weighs (value line t (call at n es)) = omega arith
value_weighs (value line t (call_through at e es)) = omega arith
value_weighs (value line t (putchar at e)) = omega arith
value_weighs (value line t (getchar at)) = omega arith
value_weighs (value line t (exit at e)) = omega arith

pub place_weighs : (p : Place) → work_of (place_plan p) < place_work p
unfolding place_work
place_weighs (place line t (local n)) = omega arith
place_weighs (place line t (static n)) = omega arith
place_weighs (place line t (text n)) = omega arith
place_weighs (place line t (pointed e)) = omega arith
place_weighs (place line t (element at pointer_first a b)) = omega arith

pub values_weighs : (es : Values) → work_of (all_plan es) < all_work es
unfolding all_work
values_weighs no_values = omega arith
values_weighs (first_value e es) = omega arith

pub dropped_weighs : (es : Values) → work_of (dropped_plan es) < dropped_work es
unfolding dropped_work
dropped_weighs no_values = omega arith
dropped_weighs (first_value e es) = omega arith

-- after the first operand, the second is evaluated, or one of two
pub conjunction_weighs : (line : ℕ) (t : CType) (a b : Value)
    → work_of (does (evaluate b) ∷ does (finish (value line t (conjunction a b))) ∷ []) < decide_work (value line t (conjunction a b))
conjunction_weighs line t a b = omega arith

pub disjunction_weighs : (line : ℕ) (t : CType) (a b : Value)
    → work_of (does (evaluate b) ∷ does (finish (value line t (disjunction a b))) ∷ []) < decide_work (value line t (disjunction a b))
disjunction_weighs line t a b = omega arith

pub first_choice_weighs : (line : ℕ) (t : CType) (e a b : Value) → value_work a < decide_work (value line t (choice e a b))
first_choice_weighs line t e a b = omega arith

pub second_choice_weighs : (line : ℕ) (t : CType) (e a b : Value) → value_work b < decide_work (value line t (choice e a b))
second_choice_weighs line t e a b = omega arith

-- ---- statements

pub statement_weighs : (a : Stmt) → work_of (statement_plan a) < stmt_work a
unfolding stmt_work
statement_weighs (block line items end) = omega arith
statement_weighs (empty line) = omega arith
statement_weighs (expression line e) = omega arith
statement_weighs (if_only line e a) = omega arith
statement_weighs (if_else line e a b) = omega arith
statement_weighs (while line e a) = omega arith
statement_weighs (do_while line a e) = omega arith
statement_weighs (for line (starts None) e step a) = omega arith
statement_weighs (for line (starts (Some first)) e step a) = omega arith
statement_weighs (for line (declares locals) e step a) = omega arith
statement_weighs (continue line) = omega arith
statement_weighs (break line) = omega arith
statement_weighs (return line None) = omega arith
statement_weighs (return line (Some e)) = omega arith

pub items_weighs : (items : Items) → work_of (items_plan items) < items_work items
unfolding items_work
items_weighs no_items = omega arith
items_weighs (declaration locals rest) = omega arith
items_weighs (statement first rest) = omega arith

-- each branch weighs less
either_weighs : (n : ℕ) (b : Bool) (xs ys : List Task) → work_of xs < n → work_of ys < n → work_of (if b then xs else ys) < n
either_weighs n = either_plan (λ plan. work_of plan < n)

pub choice_weighs : (a : Stmt) (x : ℕ) → work_of (choice_plan a x) < choice_work a
choice_weighs (if_only line e a) x = either_weighs _ (x == 0) [] (execute a ∷ []) (omega arith) (omega arith)
choice_weighs (if_else line e a b) x = either_weighs _ (x == 0) (execute b ∷ []) (execute a ∷ []) (omega arith) (omega arith)
choice_weighs other x = omega arith

pub tested_weighs : (a : Stmt) (x : ℕ) → work_of (tested_plan a x) < tested_work a
tested_weighs (while line e a) x =
    either_weighs _ (x == 0) [] (execute a ∷ after_body (while line e a) ∷ []) (omega arith) (omega arith)
tested_weighs (do_while line a e) x =
    either_weighs _ (x == 0) [] (execute a ∷ after_body (do_while line a e) ∷ []) (omega arith) (omega arith)
tested_weighs (for line first e step a) x =
    either_weighs _ (x == 0) [] (execute a ∷ after_body (for line first e step a) ∷ []) (omega arith) (omega arith)
tested_weighs other x = omega arith

pub round_weighs : (a : Stmt) → work_of (round_plan a) < round_work a
round_weighs (while line e a) = omega arith
round_weighs (do_while line a e) = omega arith
round_weighs (for line first e None a) = omega arith
round_weighs (for line first e (Some step) a) = omega arith
round_weighs other = omega arith

pub again_weighs : (a : Stmt) (x : ℕ) → work_of (again_plan a x) < 2
again_weighs a x = either_weighs 2 (x == 0) [] (at_top a ∷ []) (omega arith) (omega arith)

-- ---- initializers

pub initial_weighs : (l : LocalItem) (rest : List LocalItem) → work_of (initial_plan l) + locals_work rest < locals_work (l ∷ rest)
initial_weighs l rest = by_initializer l.number l.initializer
  where
    by_initializer : (n : ℕ) (i : Option Initializer)
        → work_of (initial_plan (record { number = n; initializer = i })) + locals_work rest < locals_work (record { number = n; initializer = i } ∷ rest)
    by_initializer n None = omega arith
    by_initializer n (Some (scalar e)) = omega arith
    by_initializer n (Some (cells given)) = omega arith

pub cell_weighs : (n : ℕ) (x : Cell) (rest : List Cell) → work_of (cell_plan n x) + cells_work rest < cells_work (x ∷ rest)
cell_weighs n x rest = omega arith

-- ---- each task weighs something

decide_weighs : (e : Value) → 1 ≤ decide_work e
decide_weighs (value line t (conjunction a b)) = omega arith
decide_weighs (value line t (disjunction a b)) = omega arith
decide_weighs (value line t (choice e a b)) = omega arith
decide_weighs other = omega arith

locals_weigh : (locals : List LocalItem) → 1 ≤ locals_work locals
locals_weigh [] = omega arith
locals_weigh (l ∷ rest) = omega arith

cells_weigh : (given : List Cell) → 1 ≤ cells_work given
cells_weigh [] = omega arith
cells_weigh (x ∷ rest) = omega arith

step_weighs : (step : Step) → 1 ≤ step_work step
step_weighs (evaluate e) = omega (arith, value_weighs e)
step_weighs (evaluate_all es) = omega (arith, values_weighs es)
step_weighs (evaluate_dropped es) = omega (arith, dropped_weighs es)
step_weighs (locate p) = omega (arith, place_weighs p)
step_weighs (point p) = omega arith
step_weighs (hold p) = omega arith
step_weighs (hold_above p) = omega arith
step_weighs (decide e) = omega (arith, decide_weighs e)
step_weighs (finish e) = omega arith
step_weighs forget = omega arith
step_weighs (initialize_all locals) = omega (arith, locals_weigh locals)
step_weighs (give n) = omega arith
step_weighs (give_cells n given) = omega (arith, cells_weigh given)
step_weighs (give_cell n index) = omega arith

pub task_weighs : (t : Task) → 1 ≤ task_work t
task_weighs (does step) = step_weighs step
task_weighs (execute a) = omega (arith, statement_weighs a)
task_weighs (execute_items items) = omega (arith, items_weighs items)
task_weighs (end_block items) = omega arith
task_weighs (end_locals locals) = omega arith
task_weighs (choose a) = omega (arith, choice_weighs a 0)
task_weighs (at_top a) = omega arith
task_weighs (tested a) = omega (arith, tested_weighs a 0)
task_weighs (after_body a) = omega (arith, round_weighs a)
task_weighs (again a) = omega arith
task_weighs answer = omega arith
task_weighs (leave caller locals) = omega arith
