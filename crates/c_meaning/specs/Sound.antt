-- Pending work that can run: its operators have operands of the types that they ask for.
use Rattle.std.specs.Prelude.{ℕ, ◌+◌, List, [], ◌∷◌}
use Rattle.source_meaning.specs.Sound.{HasOperands, PlaceHasOperands, HaveOperands, LocalsHaveOperands, CellsHaveOperands, StmtHasOperands, ItemsHaveOperands, FunctionCanRun}
use Rattle.c_meaning.specs.Pending.{Step, evaluate, evaluate_all, evaluate_dropped, locate, point, hold, hold_above, decide, finish, forget, initialize_all, give, give_cells, give_cell, Task, does, execute, execute_items, end_block, end_locals, choose, at_top, tested, after_body, again, answer, leave, Current}

abbrev pub IsReady : Current → Type 0
IsReady c = FunctionCanRun c.function

abbrev pub StepCanRun : Step → Type 0
StepCanRun (evaluate e) = HasOperands e
StepCanRun (evaluate_all es) = HaveOperands es
StepCanRun (evaluate_dropped es) = HaveOperands es
StepCanRun (locate p) = PlaceHasOperands p
StepCanRun (point p) = PlaceHasOperands p
StepCanRun (hold p) = PlaceHasOperands p
StepCanRun (hold_above p) = PlaceHasOperands p
StepCanRun (decide e) = HasOperands e
StepCanRun (finish e) = HasOperands e
StepCanRun forget = Unit {0}
StepCanRun (initialize_all locals) = LocalsHaveOperands locals
StepCanRun (give n) = Unit {0}
StepCanRun (give_cells n given) = CellsHaveOperands given
StepCanRun (give_cell n index) = Unit {0}

abbrev pub TaskCanRun : Task → Type 0
TaskCanRun (does step) = StepCanRun step
TaskCanRun (execute a) = StmtHasOperands a
TaskCanRun (execute_items items) = ItemsHaveOperands items
TaskCanRun (end_block items) = Unit {0}
TaskCanRun (end_locals locals) = Unit {0}
TaskCanRun (choose a) = StmtHasOperands a
TaskCanRun (at_top a) = StmtHasOperands a
TaskCanRun (tested a) = StmtHasOperands a
TaskCanRun (after_body a) = StmtHasOperands a
TaskCanRun (again a) = StmtHasOperands a
TaskCanRun answer = Unit {0}
TaskCanRun (leave caller locals) = IsReady caller

abbrev pub AllCanRun : List Task → Type 0
AllCanRun [] = Unit {0}
AllCanRun (t ∷ ts) = TaskCanRun t × AllCanRun ts

-- how many functions are still to be left
abbrev pub is_leave : Task → ℕ
is_leave (leave caller locals) = 1
is_leave (does step) = 0
is_leave (execute a) = 0
is_leave (execute_items items) = 0
is_leave (end_block items) = 0
is_leave (end_locals locals) = 0
is_leave (choose a) = 0
is_leave (at_top a) = 0
is_leave (tested a) = 0
is_leave (after_body a) = 0
is_leave (again a) = 0
is_leave answer = 0

abbrev pub leaves_of : List Task → ℕ
leaves_of [] = 0
leaves_of (t ∷ ts) = is_leave t + leaves_of ts
