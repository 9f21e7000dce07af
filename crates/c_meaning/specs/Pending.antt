-- What a list of pending work still does, in the words of the meaning.
--
-- An evaluator keeps its pending work in a list of tasks, the next one first, and a stack of values, the last one first.
-- `goes` says what the rest of the run is. Where a task finds no value, it finds 0: no typed program comes to that.
use Rattle.std.specs.Prelude.{ℕ, suc, ◌+◌, ◌%◌, ◌==◌, true, false, if◌then◌else◌, List, [], ◌∷◌, ◌++◌, take, drop, reverse, None}
use Rattle.srmt_base.specs.declared.event.Event.TheVariants.{Byte}
use Rattle.srmt_base.specs.declared.op.Op.TheVariants.{Sub, Xor}
use Rattle.srmt_base.specs.declared.part.Part.{Part}
use Rattle.srmt_base.specs.Arith.{arith_of}
use Rattle.srmt_base.specs.Budgets.{leave_of}
use Rattle.srmt_base.specs.Convert.{convert_of}
use Rattle.srmt_base.specs.Memory.{write_of}
use Rattle.srmt_base.specs.Pointer.{pointer_difference_of, pointer_comparison_of}
use Rattle.c_types.specs.Types.{ty_of}
use Rattle.c_typed.specs.Typed.{Place, place, local, static, text, pointed, element, Value, value, minus, complement, negation, arithmetic, sum, difference, comparison, conjunction, disjunction, choice, assignment, update, move, conversion, to_bool, call, call_through, putchar, getchar, exit, Values, no_values, first_value, type_of, place_type}
use Rattle.c_typed.specs.Statements.{Cell, LocalItem, Stmt, if_only, if_else, while, do_while, for, Items, Function, Program}
use Rattle.source_meaning.specs.World.{Doing, ◌>>=◌, ◌>>◌, pure, becomes, either, computed, exits, happens, reads_byte, remembers}
use Rattle.source_meaning.specs.Places.{Setting, Location, register, cell_of, address_in, row_of, value_of_entity, fetch, store, all_end}
use Rattle.source_meaning.specs.Expressions.{scale_of, moved, truth, call_of_value, location_of, value_of, values_of}
use Rattle.source_meaning.specs.Statements.{Completion, normal, breaks, returns, if_normal, if_continued, if_again, rounds, round_of_for, round_of_do, locals_of, numbers_of, cells_given, all_initialize, value_or, executes, executes_items}
use Rattle.source_meaning.specs.Calls.{numbers_below, value_returned, calls}

-- the function that runs, and its part
pub record Current : Type 0 where
  pub part : Part
  pub function : Function

-- a task that only changes the stack of values and the world
pub data Step : Type 0 where
  -- a value goes onto the stack, values in order, or nothing of them
  evaluate : (e : Value) → Step
  evaluate_all : (es : Values) → Step
  evaluate_dropped : (es : Values) → Step
  -- the address of a place goes onto the stack, 0 for a local in a register
  locate : (p : Place) → Step
  -- its operands are on the stack
  point : (p : Place) → Step
  -- what a place holds takes the place of its address, or stands above it
  hold : (p : Place) → Step
  hold_above : (p : Place) → Step
  -- the first operand of `&&`, `||`, `?:` is on the stack, or all operands of another value
  decide : (e : Value) → Step
  finish : (e : Value) → Step
  forget : Step
  -- locals take their first values; a local takes the value on the stack, above its address, or a cell of it does
  initialize_all : (locals : List LocalItem) → Step
  give : (n : ℕ) → Step
  give_cells : (n : ℕ) (given : List Cell) → Step
  give_cell : (n index : ℕ) → Step

pub data Task : Type 0 where
  does : (step : Step) → Task
  execute : (a : Stmt) → Task
  execute_items : (items : Items) → Task
  -- the locals of a block end
  end_block : (items : Items) → Task
  end_locals : (locals : List LocalItem) → Task
  -- the test of an `if` is on the stack
  choose : (a : Stmt) → Task
  -- a loop is at its top, its test is on the stack, its body is left, the test of a `do` is on the stack
  at_top : (a : Stmt) → Task
  tested : (a : Stmt) → Task
  after_body : (a : Stmt) → Task
  again : (a : Stmt) → Task
  -- the value of a `return` is on the stack
  answer : Task
  -- a function is left for its caller, which has these locals
  leave : (caller : Current) (locals : List ℕ) → Task

-- ---- the stack of values

abbrev pub top_of : List ℕ → ℕ
top_of [] = 0
top_of (v ∷ vs) = v

abbrev pub below : List ℕ → List ℕ
below [] = []
below (v ∷ vs) = vs

-- the values that were put there, in order
abbrev pub last_values : ℕ → List ℕ → List ℕ
last_values n vs = reverse (take n vs)

abbrev pub with_values : List ℕ → List ℕ → List ℕ
with_values xs vs = reverse xs ++ vs

abbrev pub count_of : Values → ℕ
count_of no_values = 0
count_of (first_value e es) = suc (count_of es)

-- ---- expressions

-- a place, where its address is known
abbrev pub located : Setting → Place → ℕ → Location
located s (place line t (local n)) a = if (row_of s n).is_placed then cell_of t line a else register n
located s (place line t (static entity)) a = cell_of t line a
located s (place line t (text n)) a = cell_of t line a
located s (place line t (pointed p)) a = cell_of t line a
located s (place line t (element at pointer_first x y)) a = cell_of t at a

abbrev pub Rest : Type 0
Rest = List ℕ → Doing ⊥

-- the address of an element, whose operands are on the stack
abbrev pub pointed_at : Place → List ℕ → Rest → Doing ⊥
pointed_at (place line t (element at pointer_first a b)) vs k =
    moved at false pointer_first (type_of a) (type_of b) (top_of (below vs)) (top_of vs) >>= (λ v. k (v ∷ below (below vs)))
pointed_at other vs k = k vs

-- an operand is left out, or evaluated
abbrev pub decided : Setting → Value → List ℕ → Rest → Doing ⊥
decided s (value line t (conjunction a b)) vs k =
    either (top_of vs == 0) (k (0 ∷ below vs)) (value_of s b >>= (λ y. k (truth y ∷ below vs)))
decided s (value line t (disjunction a b)) vs k =
    either (top_of vs == 0) (value_of s b >>= (λ y. k (truth y ∷ below vs))) (k (1 ∷ below vs))
decided s (value line t (choice e a b)) vs k =
    either (top_of vs == 0) (value_of s b >>= (λ y. k (y ∷ below vs))) (value_of s a >>= (λ y. k (y ∷ below vs)))
decided s other vs k = k vs

-- what an operator makes of its operands
abbrev pub finished : Setting → Value → List ℕ → Rest → Doing ⊥
finished s (value line t (minus e)) vs k = computed line (arith_of Sub (ty_of (type_of e)) 0 (top_of vs)) >>= (λ v. k (v ∷ below vs))
finished s (value line t (complement e)) vs k =
    computed line (arith_of Xor (ty_of (type_of e)) (top_of vs) 4294967295) >>= (λ v. k (v ∷ below vs))
finished s (value line t (negation e)) vs k = k ((if top_of vs == 0 then 1 else 0) ∷ below vs)
finished s (value line t (arithmetic op at a b)) vs k =
    computed at (arith_of op (ty_of (type_of a)) (top_of (below vs)) (top_of vs)) >>= (λ v. k (v ∷ below (below vs)))
finished s (value line t (sum at is_less pointer_first a b)) vs k =
    moved at is_less pointer_first (type_of a) (type_of b) (top_of (below vs)) (top_of vs) >>= (λ v. k (v ∷ below (below vs)))
finished s (value line t (difference at a b)) vs k =
    computed at (pointer_difference_of (top_of (below vs)) (top_of vs) (scale_of (type_of a))) >>= (λ v. k (v ∷ below (below vs)))
finished s (value line t (comparison op at a b)) vs k =
    computed at (pointer_comparison_of op (top_of (below vs)) (top_of vs)) >>= (λ v. k (v ∷ below (below vs)))
finished s (value line t (conjunction a b)) vs k = k (truth (top_of vs) ∷ below vs)
finished s (value line t (disjunction a b)) vs k = k (truth (top_of vs) ∷ below vs)
finished s (value line t (assignment p e)) vs k =
    store (located s p (top_of (below vs))) (top_of vs) >> k (top_of vs ∷ below (below vs))
finished s (value line t (update is_after p first op at ty e)) vs k =
    let old = top_of (below vs) in
    computed at (arith_of op ty (convert_of (ty_of (place_type p).type) ty old) (top_of vs)) >>= (λ result.
    let new = convert_of ty (ty_of (place_type p).type) result in
    store (located s p (top_of (below (below vs)))) new >> k ((if is_after then old else new) ∷ below (below (below vs))))
finished s (value line t (move is_after p is_less at e)) vs k =
    let old = top_of (below vs) in
    moved at is_less true (place_type p).type (type_of e) old (top_of vs) >>= (λ new.
    store (located s p (top_of (below (below vs)))) new >> k ((if is_after then old else new) ∷ below (below (below vs))))
finished s (value line t (conversion first e)) vs k = k (convert_of (ty_of (type_of e)) (ty_of t) (top_of vs) ∷ below vs)
finished s (value line t (to_bool first e)) vs k = k (truth (top_of vs) ∷ below vs)
finished s (value line t (call at entity es)) vs k =
    s.call at (value_of_entity s.program entity) (last_values (count_of es) vs) >>= (λ v. k (v ∷ drop (count_of es) vs))
finished s (value line t (call_through at e es)) vs k =
    let rest = drop (count_of es) vs in
    call_of_value s at (top_of rest) (last_values (count_of es) vs) >>= (λ v. k (v ∷ below rest))
finished s (value line t (putchar at e)) vs k = happens (Byte (top_of vs % 256)) >> k (top_of vs % 256 ∷ below vs)
finished s (value line t (getchar at)) vs k = reads_byte >>= (λ v. k (v ∷ vs))
finished s (value line t (exit at e)) vs k = exits (top_of vs)
finished s other vs k = k vs

abbrev pub changes : Setting → Step → List ℕ → Rest → Doing ⊥
changes s (evaluate e) vs k = value_of s e >>= (λ v. k (v ∷ vs))
changes s (evaluate_all es) vs k = values_of s es >>= (λ xs. k (with_values xs vs))
changes s (evaluate_dropped es) vs k = values_of s es >>= (λ xs. k vs)
changes s (locate p) vs k = location_of s p >>= (λ l. k (address_in l ∷ vs))
changes s (point p) vs k = pointed_at p vs k
changes s (hold p) vs k = fetch (located s p (top_of vs)) >>= (λ v. k (v ∷ below vs))
changes s (hold_above p) vs k = fetch (located s p (top_of vs)) >>= (λ v. k (v ∷ vs))
changes s (decide e) vs k = decided s e vs k
changes s (finish e) vs k = finished s e vs k
changes s forget vs k = k (below vs)
changes s (initialize_all locals) vs k = all_initialize s locals >> k vs
changes s (give n) vs k =
    store (located s (place (row_of s n).line (row_of s n).type (local n)) (top_of (below vs))) (top_of vs) >> k (below (below vs))
changes s (give_cells n given) vs k = cells_given s n given >> k vs
changes s (give_cell n index) vs k =
    remembers (row_of s n).line (λ memory. write_of memory (top_of (below vs) + index) (top_of vs)) >> k (below (below vs))

-- ---- statements

module _ (program : Program) (bound : ℕ) where
  abbrev pub setting_at : Current → Setting
  setting_at c = record { program = program; part = c.part; rows = c.function.locals; call = calls program bound }

  abbrev pub chosen : Setting → Stmt → ℕ → Doing Completion
  chosen s (if_only line e a) x = either (x == 0) (pure normal) (executes s bound a)
  chosen s (if_else line e a b) x = either (x == 0) (executes s bound b) (executes s bound a)
  chosen s other x = pure normal

  -- a loop from its top on
  abbrev pub loops : Setting → Stmt → Doing Completion
  loops s (while line e a) = rounds bound s.part line (round_of_for (value_of s e) (executes s bound a) (pure 0))
  loops s (do_while line a e) = rounds bound s.part line (round_of_do (executes s bound a) (value_of s e))
  loops s (for line first e step a) = rounds bound s.part line (round_of_for (value_or 1 s e) (executes s bound a) (value_or 0 s step))
  loops s other = pure normal

  -- what follows the body in a round
  abbrev pub ends_round : Setting → Stmt → Doing Completion
  ends_round s (while line e a) = value_or 0 s None >> pure normal
  ends_round s (do_while line a e) = value_of s e >>= (λ x. either (x == 0) (pure breaks) (pure normal))
  ends_round s (for line first e step a) = value_or 0 s step >> pure normal
  ends_round s other = pure normal

  abbrev pub body_in : Setting → Stmt → Doing Completion
  body_in s (while line e a) = executes s bound a
  body_in s (do_while line a e) = executes s bound a
  body_in s (for line first e step a) = executes s bound a
  body_in s other = pure normal

  -- the rest of a loop, where its body is left so
  abbrev pub continues_loop : Setting → Stmt → Completion → Doing Completion
  continues_loop s a c = if_continued c (ends_round s a) >>= (λ d. if_again d (loops s a))

  abbrev pub after_test : Setting → Stmt → ℕ → Doing Completion
  after_test s a x = either (x == 0) (pure breaks) (body_in s a >>= (λ c. if_continued c (ends_round s a))) >>= (λ d. if_again d (loops s a))

  -- what a task does where the work before it is left so
  abbrev pub passes : Current → Task → List ℕ → Completion → (Current → List ℕ → Completion → Doing ⊥) → Doing ⊥
  passes c (does step) vs normal k = changes (setting_at c) step vs (λ us. k c us normal)
  passes c (does step) vs jump k = k c vs jump
  passes c (execute a) vs j k = if_normal j (executes (setting_at c) bound a) >>= k c vs
  passes c (execute_items items) vs j k = if_normal j (executes_items (setting_at c) bound items) >>= k c vs
  passes c (end_block items) vs j k = all_end (setting_at c) (locals_of items) >> k c vs j
  passes c (end_locals locals) vs j k = all_end (setting_at c) (numbers_of locals) >> k c vs j
  passes c (choose a) vs normal k = chosen (setting_at c) a (top_of vs) >>= k c (below vs)
  passes c (choose a) vs jump k = k c vs jump
  passes c (at_top a) vs j k = if_normal j (loops (setting_at c) a) >>= k c vs
  passes c (tested a) vs normal k = after_test (setting_at c) a (top_of vs) >>= k c (below vs)
  passes c (tested a) vs jump k = k c vs jump
  passes c (after_body a) vs j k = continues_loop (setting_at c) a j >>= k c vs
  passes c (again a) vs normal k =
      (either (top_of vs == 0) (pure breaks) (pure normal) >>= (λ d. if_again d (loops (setting_at c) a))) >>= k c (below vs)
  passes c (again a) vs jump k = k c vs jump
  passes c answer vs normal k = k c (below vs) (returns (top_of vs))
  passes c answer vs jump k = k c vs jump
  passes c (leave caller locals) vs j k =
      all_end (setting_at c) (numbers_below c.function.parameters) >>
      (becomes (λ w. record w { locals = locals }) >>
      (becomes (λ w. record w { budgets = leave_of c.part w.budgets }) >> k caller (value_returned j ∷ vs) normal))

  -- the rest of the run. The value that `main` returns is the status (C11 5.1.2.2.3)
  abbrev pub goes : List Task → Current → List ℕ → Completion → Doing ⊥
  goes [] c vs j = exits (top_of vs)
  goes (t ∷ ts) c vs j = passes c t vs j (λ d us i. goes ts d us i)
