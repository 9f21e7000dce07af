-- The tasks that stand in the place of one can run where it can, and none of them leaves a function.
use Rattle.std.proofs.Common.{◌≡◌, ℕ, ◌+◌, ◌==◌, Bool, true, false, if◌then◌else◌, List, [], ◌∷◌, ◌++◌, Option, Some, None, refl, arith}
use Rattle.c_typed.specs.Typed.{Place, place, local, static, text, pointed, element, Value, value, constant, null, read, first_element, address, function, minus, complement, negation, arithmetic, sum, difference, comparison, conjunction, disjunction, choice, sequence, assignment, update, move, conversion, to_bool, requalified, discarded, call, call_through, putchar, getchar, exit, Values, no_values, first_value}
use Rattle.c_typed.specs.Statements.{Cell, Initializer, scalar, cells, LocalItem, starts, declares, Stmt, block, empty, expression, if_only, if_else, while, do_while, for, continue, break, return, Items, no_items, declaration, statement}
use Rattle.source_meaning.specs.Sound.{HasOperands, PlaceHasOperands, HaveOperands, CellsHaveOperands, InitialHasOperands, LocalsHaveOperands, StmtHasOperands, ItemsHaveOperands}
use Rattle.c_meaning.specs.Pending.{Task, execute, at_top, after_body}
use Rattle.c_meaning.specs.Plans.{value_plan, all_plan, dropped_plan, place_plan, statement_plan, items_plan, choice_plan, top_plan, tested_plan, round_plan, again_plan, initial_plan, cell_plan}
use Rattle.c_meaning.specs.Sound.{AllCanRun, leaves_of}

-- what holds of both branches of a plan
pub either_plan : (P : List Task → Type 0) (b : Bool) (m n : List Task) → P m → P n → P (if b then m else n)
either_plan P true m n h k = h
either_plan P false m n h k = k

pub all_can_run : (xs ys : List Task) → AllCanRun xs → AllCanRun ys → AllCanRun (xs ++ ys)
all_can_run [] ys h k = k
all_can_run (x ∷ xs) ys h k = (h.0, all_can_run xs ys h.1 k)

pub value_can_run : (e : Value) → HasOperands e → AllCanRun (value_plan e)
unfolding HasOperands
value_can_run (value line t (constant n)) h = tt
value_can_run (value line t null) h = tt
value_can_run (value line t (read p)) h = (h, (h, tt))
value_can_run (value line t (first_element p)) h = (h, tt)
value_can_run (value line t (address p)) h = (h, tt)
value_can_run (value line t (function n)) h = tt
value_can_run (value line t (minus e)) h = (h.1, (h, tt))
value_can_run (value line t (complement e)) h = (h.1, (h, tt))
value_can_run (value line t (negation e)) h = (h, (h, tt))
value_can_run (value line t (arithmetic op at a b)) h = (h.1, (h.2, (h, tt)))
value_can_run (value line t (sum at is_less pointer_first a b)) h = (h.1, (h.2, (h, tt)))
value_can_run (value line t (difference at a b)) h = (h.1, (h.2, (h, tt)))
value_can_run (value line t (comparison op at a b)) h = (h.1, (h.2, (h, tt)))
value_can_run (value line t (conjunction a b)) h = (h.0, (h, tt))
value_can_run (value line t (disjunction a b)) h = (h.0, (h, tt))
value_can_run (value line t (choice e a b)) h = (h.0, (h, tt))
value_can_run (value line t (sequence dropped last)) h = (h.0, (h.1, tt))
value_can_run (value line t (assignment p e)) h = (h.0, (h.1, (h, tt)))
value_can_run (value line t (update is_after p first op at ty e)) h = (h.1, (h.1, (h.2, (h, tt))))
value_can_run (value line t (move is_after p is_less at e)) h = (h.1, (h.1, (h.2, (h, tt))))
value_can_run (value line t (conversion first e)) h = (h, (h, tt))
value_can_run (value line t (to_bool first e)) h = (h, (h, tt))
value_can_run (value line t (requalified e)) h = (h, tt)
value_can_run (value line t (discarded e)) h = (h, tt)
value_can_run (value line t (call at n es)) h = (h, (h, tt))
value_can_run (value line t (call_through at e es)) h = (h.0, (h.1, (h, tt)))
value_can_run (value line t (putchar at e)) h = (h, (h, tt))
value_can_run (value line t (getchar at)) h = (h, tt)
value_can_run (value line t (exit at e)) h = (h, (h, tt))

pub place_can_run : (p : Place) → PlaceHasOperands p → AllCanRun (place_plan p)
unfolding PlaceHasOperands
place_can_run (place line t (local n)) h = tt
place_can_run (place line t (static n)) h = tt
place_can_run (place line t (text n)) h = tt
place_can_run (place line t (pointed e)) h = (h, tt)
place_can_run (place line t (element at pointer_first a b)) h = (h.1, (h.2, (h, tt)))

pub values_can_run : (es : Values) → HaveOperands es → AllCanRun (all_plan es)
unfolding HaveOperands
values_can_run no_values h = tt
values_can_run (first_value e es) h = (h.0, (h.1, tt))

pub dropped_can_run : (es : Values) → HaveOperands es → AllCanRun (dropped_plan es)
unfolding HaveOperands
dropped_can_run no_values h = tt
dropped_can_run (first_value e es) h = (h.0, (tt, (h.1, tt)))

-- ---- statements

pub statement_can_run : (a : Stmt) → StmtHasOperands a → AllCanRun (statement_plan a)
unfolding StmtHasOperands
statement_can_run (block line items end) h = (h, (tt, tt))
statement_can_run (empty line) h = tt
statement_can_run (expression line e) h = (h, (tt, tt))
statement_can_run (if_only line e a) h = (h.0, (h, tt))
statement_can_run (if_else line e a b) h = (h.0, (h, tt))
statement_can_run (while line e a) h = (h, tt)
statement_can_run (do_while line a e) h = (h, tt)
statement_can_run (for line (starts None) e step a) h = (h, tt)
statement_can_run (for line (starts (Some first)) e step a) h = (h.0, (tt, (h, tt)))
statement_can_run (for line (declares locals) e step a) h = (h.0, (h, (tt, tt)))
statement_can_run (continue line) h = tt
statement_can_run (break line) h = tt
statement_can_run (return line None) h = tt
statement_can_run (return line (Some e)) h = (h, (tt, tt))

pub items_can_run : (items : Items) → ItemsHaveOperands items → AllCanRun (items_plan items)
unfolding ItemsHaveOperands
items_can_run no_items h = tt
items_can_run (declaration locals rest) h = (h.0, (h.1, tt))
items_can_run (statement first rest) h = (h.0, (h.1, tt))

pub choice_can_run : (a : Stmt) (x : ℕ) → StmtHasOperands a → AllCanRun (choice_plan a x)
unfolding StmtHasOperands
choice_can_run (if_only line e a) x h = either_plan AllCanRun (x == 0) [] (execute a ∷ []) tt (h.1, tt)
choice_can_run (if_else line e a b) x h = either_plan AllCanRun (x == 0) (execute b ∷ []) (execute a ∷ []) (h.2, tt) (h.1, tt)
choice_can_run other x h = tt

pub top_can_run : (a : Stmt) → StmtHasOperands a → AllCanRun (top_plan a)
unfolding StmtHasOperands
top_can_run (while line e a) h = (h.0, (h, tt))
top_can_run (do_while line a e) h = (h.0, (h, tt))
top_can_run (for line first None step a) h = (h.3, (h, tt))
top_can_run (for line first (Some e) step a) h = (h.1, (h, tt))
top_can_run other h = tt

pub tested_can_run : (a : Stmt) (x : ℕ) → StmtHasOperands a → AllCanRun (tested_plan a x)
unfolding StmtHasOperands
tested_can_run (while line e a) x h =
    either_plan AllCanRun (x == 0) [] (execute a ∷ after_body (while line e a) ∷ []) tt (h.1, (h, tt))
tested_can_run (do_while line a e) x h =
    either_plan AllCanRun (x == 0) [] (execute a ∷ after_body (do_while line a e) ∷ []) tt (h.0, (h, tt))
tested_can_run (for line first e step a) x h =
    either_plan AllCanRun (x == 0) [] (execute a ∷ after_body (for line first e step a) ∷ []) tt (h.3, (h, tt))
tested_can_run other x h = tt

pub round_can_run : (a : Stmt) → StmtHasOperands a → AllCanRun (round_plan a)
unfolding StmtHasOperands
round_can_run (while line e a) h = (h, tt)
round_can_run (do_while line a e) h = (h.1, (h, tt))
round_can_run (for line first e None a) h = (h, tt)
round_can_run (for line first e (Some step) a) h = (h.2, (tt, (h, tt)))
round_can_run other h = tt

pub again_can_run : (a : Stmt) (x : ℕ) → StmtHasOperands a → AllCanRun (again_plan a x)
again_can_run a x h = either_plan AllCanRun (x == 0) [] (at_top a ∷ []) tt (h, tt)

-- ---- initializers

pub initial_can_run : (l : LocalItem) → InitialHasOperands l.initializer → AllCanRun (initial_plan l)
initial_can_run l h = by_initializer l.number l.initializer h
  where
    by_initializer : (n : ℕ) (i : Option Initializer) → InitialHasOperands i → AllCanRun (initial_plan (record { number = n; initializer = i }))
    by_initializer n None h = tt
    by_initializer n (Some (scalar e)) h = (h, (tt, tt))
    by_initializer n (Some (cells given)) h = (h, tt)

pub first_local_can_run : (l : LocalItem) (rest : List LocalItem) → LocalsHaveOperands (l ∷ rest) → AllCanRun (initial_plan l) × LocalsHaveOperands rest
first_local_can_run l rest h = (initial_can_run l h.0, h.1)

pub cell_can_run : (n : ℕ) (x : Cell) (rest : List Cell) → CellsHaveOperands (x ∷ rest) → AllCanRun (cell_plan n x) × CellsHaveOperands rest
cell_can_run n x rest h = ((h.0, (tt, tt)), h.1)

-- ---- no plan leaves a function

pub leaves_of_both : (xs ys : List Task) → leaves_of (xs ++ ys) ≡ leaves_of xs + leaves_of ys
leaves_of_both [] ys = omega arith
leaves_of_both (x ∷ xs) ys = omega (arith, leaves_of_both xs ys)

pub leave_of_others : (xs ys : List Task) → leaves_of xs ≡ 0 → leaves_of (xs ++ ys) ≡ leaves_of ys
leave_of_others xs ys none = omega (arith, leaves_of_both xs ys, none)

value_none : (e : Value) → leaves_of (value_plan e) ≡ 0
value_none (value line t (constant n)) = refl
value_none (value line t null) = refl
value_none (value line t (read p)) = refl
value_none (value line t (first_element p)) = refl
value_none (value line t (address p)) = refl
value_none (value line t (function n)) = refl
value_none (value line t (minus e)) = refl
value_none (value line t (complement e)) = refl
value_none (value line t (negation e)) = refl
value_none (value line t (arithmetic op at a b)) = refl
value_none (value line t (sum at is_less pointer_first a b)) = refl
value_none (value line t (difference at a b)) = refl
value_none (value line t (comparison op at a b)) = refl
value_none (value line t (conjunction a b)) = refl
value_none (value line t (disjunction a b)) = refl
value_none (value line t (choice e a b)) = refl
value_none (value line t (sequence dropped last)) = refl
value_none (value line t (assignment p e)) = refl
value_none (value line t (update is_after p first op at ty e)) = refl
value_none (value line t (move is_after p is_less at e)) = refl
value_none (value line t (conversion first e)) = refl
value_none (value line t (to_bool first e)) = refl
value_none (value line t (requalified e)) = refl
value_none (value line t (discarded e)) = refl
value_none (value line t (call at n es)) = refl
value_none (value line t (call_through at e es)) = refl
value_none (value line t (putchar at e)) = refl
value_none (value line t (getchar at)) = refl
value_none (value line t (exit at e)) = refl

pub value_leaves : (e : Value) (ts : List Task) → leaves_of (value_plan e ++ ts) ≡ leaves_of ts
value_leaves e ts = leave_of_others (value_plan e) ts (value_none e)

place_none : (p : Place) → leaves_of (place_plan p) ≡ 0
place_none (place line t (local n)) = refl
place_none (place line t (static n)) = refl
place_none (place line t (text n)) = refl
place_none (place line t (pointed e)) = refl
place_none (place line t (element at pointer_first a b)) = refl

pub place_leaves : (p : Place) (ts : List Task) → leaves_of (place_plan p ++ ts) ≡ leaves_of ts
place_leaves p ts = leave_of_others (place_plan p) ts (place_none p)

values_none : (es : Values) → leaves_of (all_plan es) ≡ 0
values_none no_values = refl
values_none (first_value e es) = refl

pub values_leaves : (es : Values) (ts : List Task) → leaves_of (all_plan es ++ ts) ≡ leaves_of ts
values_leaves es ts = leave_of_others (all_plan es) ts (values_none es)

dropped_none : (es : Values) → leaves_of (dropped_plan es) ≡ 0
dropped_none no_values = refl
dropped_none (first_value e es) = refl

pub dropped_leaves : (es : Values) (ts : List Task) → leaves_of (dropped_plan es ++ ts) ≡ leaves_of ts
dropped_leaves es ts = leave_of_others (dropped_plan es) ts (dropped_none es)

statement_none : (a : Stmt) → leaves_of (statement_plan a) ≡ 0
statement_none (block line items end) = refl
statement_none (empty line) = refl
statement_none (expression line e) = refl
statement_none (if_only line e a) = refl
statement_none (if_else line e a b) = refl
statement_none (while line e a) = refl
statement_none (do_while line a e) = refl
statement_none (for line (starts None) e step a) = refl
statement_none (for line (starts (Some first)) e step a) = refl
statement_none (for line (declares locals) e step a) = refl
statement_none (continue line) = refl
statement_none (break line) = refl
statement_none (return line None) = refl
statement_none (return line (Some e)) = refl

pub statement_leaves : (a : Stmt) (ts : List Task) → leaves_of (statement_plan a ++ ts) ≡ leaves_of ts
statement_leaves a ts = leave_of_others (statement_plan a) ts (statement_none a)

items_none : (items : Items) → leaves_of (items_plan items) ≡ 0
items_none no_items = refl
items_none (declaration locals rest) = refl
items_none (statement first rest) = refl

pub items_leaves : (items : Items) (ts : List Task) → leaves_of (items_plan items ++ ts) ≡ leaves_of ts
items_leaves items ts = leave_of_others (items_plan items) ts (items_none items)

top_none : (a : Stmt) → leaves_of (top_plan a) ≡ 0
top_none (while line e a) = refl
top_none (do_while line a e) = refl
top_none (for line first None step a) = refl
top_none (for line first (Some e) step a) = refl
top_none other = refl

pub top_leaves : (a : Stmt) (ts : List Task) → leaves_of (top_plan a ++ ts) ≡ leaves_of ts
top_leaves a ts = leave_of_others (top_plan a) ts (top_none a)

round_none : (a : Stmt) → leaves_of (round_plan a) ≡ 0
round_none (while line e a) = refl
round_none (do_while line a e) = refl
round_none (for line first e None a) = refl
round_none (for line first e (Some step) a) = refl
round_none other = refl

pub round_leaves : (a : Stmt) (ts : List Task) → leaves_of (round_plan a ++ ts) ≡ leaves_of ts
round_leaves a ts = leave_of_others (round_plan a) ts (round_none a)

either_none : (b : Bool) (m n : List Task) → leaves_of m ≡ 0 → leaves_of n ≡ 0 → leaves_of (if b then m else n) ≡ 0
either_none = either_plan (λ plan. leaves_of plan ≡ 0)

choice_none : (a : Stmt) (x : ℕ) → leaves_of (choice_plan a x) ≡ 0
choice_none (if_only line e a) x = either_none (x == 0) [] (execute a ∷ []) refl refl
choice_none (if_else line e a b) x = either_none (x == 0) (execute b ∷ []) (execute a ∷ []) refl refl
choice_none other x = refl

pub choice_leaves : (a : Stmt) (x : ℕ) (ts : List Task) → leaves_of (choice_plan a x ++ ts) ≡ leaves_of ts
choice_leaves a x ts = leave_of_others (choice_plan a x) ts (choice_none a x)

tested_none : (a : Stmt) (x : ℕ) → leaves_of (tested_plan a x) ≡ 0
tested_none (while line e a) x = either_none (x == 0) [] (execute a ∷ after_body (while line e a) ∷ []) refl refl
tested_none (do_while line a e) x = either_none (x == 0) [] (execute a ∷ after_body (do_while line a e) ∷ []) refl refl
tested_none (for line first e step a) x = either_none (x == 0) [] (execute a ∷ after_body (for line first e step a) ∷ []) refl refl
tested_none other x = refl

pub tested_leaves : (a : Stmt) (x : ℕ) (ts : List Task) → leaves_of (tested_plan a x ++ ts) ≡ leaves_of ts
tested_leaves a x ts = leave_of_others (tested_plan a x) ts (tested_none a x)

again_none : (a : Stmt) (x : ℕ) → leaves_of (again_plan a x) ≡ 0
again_none a x = either_none (x == 0) [] (at_top a ∷ []) refl refl

pub again_leaves : (a : Stmt) (x : ℕ) (ts : List Task) → leaves_of (again_plan a x ++ ts) ≡ leaves_of ts
again_leaves a x ts = leave_of_others (again_plan a x) ts (again_none a x)

pub initial_leaves : (l : LocalItem) (ts : List Task) → leaves_of (initial_plan l ++ ts) ≡ leaves_of ts
initial_leaves l ts = leave_of_others (initial_plan l) ts (by_initializer l.number l.initializer)
  where
    by_initializer : (n : ℕ) (i : Option Initializer) → leaves_of (initial_plan (record { number = n; initializer = i })) ≡ 0
    by_initializer n None = refl
    by_initializer n (Some (scalar e)) = refl
    by_initializer n (Some (cells given)) = refl

pub cell_leaves : (n : ℕ) (x : Cell) (ts : List Task) → leaves_of (cell_plan n x ++ ts) ≡ leaves_of ts
cell_leaves n x ts = leave_of_others (cell_plan n x) ts refl
