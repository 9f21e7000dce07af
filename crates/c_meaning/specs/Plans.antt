-- What stands in the place of a task: the smaller tasks that come to the same.
use Rattle.std.specs.Prelude.{ℕ, ◌==◌, if◌then◌else◌, List, [], ◌∷◌, Option, Some, None, slice_index}
use Rattle.c_typed.specs.Typed.{Place, place, local, static, text, pointed, element, Value, value, constant, null, read, first_element, address, function, minus, complement, negation, arithmetic, sum, difference, comparison, conjunction, disjunction, choice, sequence, assignment, update, move, conversion, to_bool, requalified, discarded, call, call_through, putchar, getchar, exit, Values, no_values, first_value}
use Rattle.c_typed.specs.Statements.{Cell, Initializer, scalar, cells, LocalItem, ForStart, starts, declares, Stmt, block, empty, expression, if_only, if_else, while, do_while, for, continue, break, return, Items, no_items, declaration, statement}
use Rattle.source_meaning.specs.Places.{Setting, row_of}
use Rattle.source_meaning.specs.Statements.{Completion, normal, continues, breaks, returns, locals_of, numbers_of}
use Rattle.c_meaning.specs.Pending.{evaluate, evaluate_all, evaluate_dropped, locate, point, hold, hold_above, decide, finish, forget, initialize_all, give, give_cells, give_cell, Task, does, execute, execute_items, end_block, end_locals, choose, at_top, tested, after_body, again, answer}

-- a value that has operands, or that changes the world
abbrev pub value_plan : Value → List Task
value_plan (value line t (constant n)) = []
value_plan (value line t null) = []
value_plan (value line t (read p)) = does (locate p) ∷ does (hold p) ∷ []
value_plan (value line t (first_element p)) = does (locate p) ∷ []
value_plan (value line t (address p)) = does (locate p) ∷ []
value_plan (value line t (function n)) = []
value_plan (value line t (minus e)) = does (evaluate e) ∷ does (finish (value line t (minus e))) ∷ []
value_plan (value line t (complement e)) = does (evaluate e) ∷ does (finish (value line t (complement e))) ∷ []
value_plan (value line t (negation e)) = does (evaluate e) ∷ does (finish (value line t (negation e))) ∷ []
value_plan (value line t (arithmetic op at a b)) =
    does (evaluate a) ∷ does (evaluate b) ∷ does (finish (value line t (arithmetic op at a b))) ∷ []
value_plan (value line t (sum at is_less pointer_first a b)) =
    does (evaluate a) ∷ does (evaluate b) ∷ does (finish (value line t (sum at is_less pointer_first a b))) ∷ []
value_plan (value line t (difference at a b)) =
    does (evaluate a) ∷ does (evaluate b) ∷ does (finish (value line t (difference at a b))) ∷ []
value_plan (value line t (comparison op at a b)) =
    does (evaluate a) ∷ does (evaluate b) ∷ does (finish (value line t (comparison op at a b))) ∷ []
value_plan (value line t (conjunction a b)) = does (evaluate a) ∷ does (decide (value line t (conjunction a b))) ∷ []
value_plan (value line t (disjunction a b)) = does (evaluate a) ∷ does (decide (value line t (disjunction a b))) ∷ []
value_plan (value line t (choice e a b)) = does (evaluate e) ∷ does (decide (value line t (choice e a b))) ∷ []
value_plan (value line t (sequence dropped last)) = does (evaluate_dropped dropped) ∷ does (evaluate last) ∷ []
value_plan (value line t (assignment p e)) =
    does (locate p) ∷ does (evaluate e) ∷ does (finish (value line t (assignment p e))) ∷ []
value_plan (value line t (update is_after p first op at ty e)) =
    does (locate p) ∷ does (hold_above p) ∷ does (evaluate e) ∷ does (finish (value line t (update is_after p first op at ty e))) ∷ []
value_plan (value line t (move is_after p is_less at e)) =
    does (locate p) ∷ does (hold_above p) ∷ does (evaluate e) ∷ does (finish (value line t (move is_after p is_less at e))) ∷ []
value_plan (value line t (conversion first e)) = does (evaluate e) ∷ does (finish (value line t (conversion first e))) ∷ []
value_plan (value line t (to_bool first e)) = does (evaluate e) ∷ does (finish (value line t (to_bool first e))) ∷ []
value_plan (value line t (requalified e)) = does (evaluate e) ∷ []
value_plan (value line t (discarded e)) = does (evaluate e) ∷ []
value_plan (value line t (call at n es)) = does (evaluate_all es) ∷ does (finish (value line t (call at n es))) ∷ []
value_plan (value line t (call_through at e es)) =
    does (evaluate e) ∷ does (evaluate_all es) ∷ does (finish (value line t (call_through at e es))) ∷ []
value_plan (value line t (putchar at e)) = does (evaluate e) ∷ does (finish (value line t (putchar at e))) ∷ []
value_plan (value line t (getchar at)) = does (finish (value line t (getchar at))) ∷ []
value_plan (value line t (exit at e)) = does (evaluate e) ∷ does (finish (value line t (exit at e))) ∷ []

abbrev pub all_plan : Values → List Task
all_plan no_values = []
all_plan (first_value e es) = does (evaluate e) ∷ does (evaluate_all es) ∷ []

abbrev pub dropped_plan : Values → List Task
dropped_plan no_values = []
dropped_plan (first_value e es) = does (evaluate e) ∷ does forget ∷ does (evaluate_dropped es) ∷ []

-- a place whose address is computed
abbrev pub place_plan : Place → List Task
place_plan (place line t (local n)) = []
place_plan (place line t (static n)) = []
place_plan (place line t (text n)) = []
place_plan (place line t (pointed e)) = does (evaluate e) ∷ []
place_plan (place line t (element at pointer_first a b)) =
    does (evaluate a) ∷ does (evaluate b) ∷ does (point (place line t (element at pointer_first a b))) ∷ []

-- ---- statements

-- the locals that begin before a statement
abbrev pub begun_first : Stmt → List ℕ
begun_first (block line items end) = locals_of items
begun_first (for line (declares locals) e step a) = numbers_of locals
begun_first other = []

-- a jump leaves the work that follows (C11 6.8.6)
abbrev pub jump_of : Stmt → Completion
jump_of (continue line) = continues
jump_of (break line) = breaks
jump_of (return line None) = returns 0
jump_of other = normal

abbrev pub statement_plan : Stmt → List Task
statement_plan (block line items end) = execute_items items ∷ end_block items ∷ []
statement_plan (empty line) = []
statement_plan (expression line e) = does (evaluate e) ∷ does forget ∷ []
statement_plan (if_only line e a) = does (evaluate e) ∷ choose (if_only line e a) ∷ []
statement_plan (if_else line e a b) = does (evaluate e) ∷ choose (if_else line e a b) ∷ []
statement_plan (while line e a) = at_top (while line e a) ∷ []
statement_plan (do_while line a e) = at_top (do_while line a e) ∷ []
statement_plan (for line (starts None) e step a) = at_top (for line (starts None) e step a) ∷ []
statement_plan (for line (starts (Some first)) e step a) =
    does (evaluate first) ∷ does forget ∷ at_top (for line (starts (Some first)) e step a) ∷ []
statement_plan (for line (declares locals) e step a) =
    does (initialize_all locals) ∷ at_top (for line (declares locals) e step a) ∷ end_locals locals ∷ []
statement_plan (continue line) = []
statement_plan (break line) = []
statement_plan (return line None) = []
statement_plan (return line (Some e)) = does (evaluate e) ∷ answer ∷ []

-- a `for`, whose locals have begun, where its top is this task
abbrev pub for_plan : ForStart → Task → List Task
for_plan (starts None) top = top ∷ []
for_plan (starts (Some first)) top = does (evaluate first) ∷ does forget ∷ top ∷ []
for_plan (declares locals) top = does (initialize_all locals) ∷ top ∷ end_locals locals ∷ []

abbrev pub items_plan : Items → List Task
items_plan no_items = []
items_plan (declaration locals rest) = does (initialize_all locals) ∷ execute_items rest ∷ []
items_plan (statement first rest) = execute first ∷ execute_items rest ∷ []

-- the branch that the test of an `if` chooses
abbrev pub choice_plan : Stmt → ℕ → List Task
choice_plan (if_only line e a) x = if x == 0 then [] else execute a ∷ []
choice_plan (if_else line e a b) x = if x == 0 then execute b ∷ [] else execute a ∷ []
choice_plan other x = []

-- what a loop does after its turn
abbrev pub top_plan : Stmt → List Task
top_plan (while line e a) = does (evaluate e) ∷ tested (while line e a) ∷ []
top_plan (do_while line a e) = execute a ∷ after_body (do_while line a e) ∷ []
top_plan (for line first None step a) = execute a ∷ after_body (for line first None step a) ∷ []
top_plan (for line first (Some e) step a) = does (evaluate e) ∷ tested (for line first (Some e) step a) ∷ []
top_plan other = []

-- what it does after its test
abbrev pub tested_plan : Stmt → ℕ → List Task
tested_plan (while line e a) x = if x == 0 then [] else execute a ∷ after_body (while line e a) ∷ []
tested_plan (do_while line a e) x = if x == 0 then [] else execute a ∷ after_body (do_while line a e) ∷ []
tested_plan (for line first e step a) x = if x == 0 then [] else execute a ∷ after_body (for line first e step a) ∷ []
tested_plan other x = []

-- what it does after its body
abbrev pub round_plan : Stmt → List Task
round_plan (while line e a) = at_top (while line e a) ∷ []
round_plan (do_while line a e) = does (evaluate e) ∷ again (do_while line a e) ∷ []
round_plan (for line first e None a) = at_top (for line first e None a) ∷ []
round_plan (for line first e (Some step) a) = does (evaluate step) ∷ does forget ∷ at_top (for line first e (Some step) a) ∷ []
round_plan other = []

abbrev pub again_plan : Stmt → ℕ → List Task
again_plan a x = if x == 0 then [] else at_top a ∷ []

-- ---- initializers

-- the address of a local goes below its value
abbrev pub address_of_local : Setting → ℕ → List ℕ → ℕ
address_of_local s n locals = if (row_of s n).is_placed then slice_index locals n else 0

-- what a local takes first
abbrev pub initial_plan : LocalItem → List Task
initial_plan l = by_initializer l.initializer
  where
    by_initializer : Option Initializer → List Task
    by_initializer None = []
    by_initializer (Some (scalar e)) = does (evaluate e) ∷ does (give l.number) ∷ []
    by_initializer (Some (cells given)) = does (give_cells l.number given) ∷ []

-- the address goes onto the stack where a scalar is given
abbrev pub initial_stack : Setting → LocalItem → List ℕ → List ℕ → List ℕ
initial_stack s l locals vs = by_initializer l.initializer
  where
    by_initializer : Option Initializer → List ℕ
    by_initializer None = vs
    by_initializer (Some (scalar e)) = address_of_local s l.number locals ∷ vs
    by_initializer (Some (cells given)) = vs

abbrev pub cell_plan : ℕ → Cell → List Task
cell_plan n x = does (evaluate x.value) ∷ does (give_cell n x.index) ∷ []
