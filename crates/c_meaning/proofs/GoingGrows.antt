-- What pending work still does only adds events.
use Rattle.std.proofs.Common.{ℕ, ◌+◌, ◌%◌, ◌==◌, true, false, List, [], ◌∷◌, drop}
use Rattle.srmt_base.specs.declared.event.Event.TheVariants.{Byte}
use Rattle.srmt_base.specs.declared.op.Op.TheVariants.{Xor}
use Rattle.srmt_base.specs.Arith.{arith_of}
use Rattle.srmt_base.specs.Budgets.{leave_of}
use Rattle.srmt_base.specs.Memory.{write_of}
use Rattle.c_types.specs.Types.{ty_of}
use Rattle.c_typed.specs.Typed.{Place, place, local, static, text, pointed, element, Value, value, minus, complement, negation, arithmetic, sum, difference, comparison, conjunction, disjunction, choice, assignment, update, move, conversion, to_bool, call, call_through, putchar, getchar, exit, type_of, place_type}
use Rattle.c_typed.specs.Statements.{Stmt, if_only, if_else, while, do_while, for, Program}
use Rattle.source_meaning.specs.World.{Doing, pure, becomes, computed, happens, reads_byte}
use Rattle.source_meaning.specs.Places.{Setting, row_of, value_of_entity}
use Rattle.source_meaning.specs.Statements.{Completion, normal, locals_of, numbers_of}
use Rattle.source_meaning.specs.Calls.{numbers_below, value_returned, calls}
use Rattle.source_meaning.proofs.Growing.{Grows, no_longer, then_grows, either_grows, computed_grows, remembers_grows, happens_grows, exits_grows, fetch_grows, store_grows, moved_grows, all_end_grow, normal_grows, continued_grows, again_grows, rounds_grow, round_of_for_grows, round_of_do_grows, call_of_value_grows, location_grows, value_grows, values_grow, cells_grow, all_initialize_grow, value_or_grows, executes_grows, items_grow, leave_grows, calls_grow}
use Rattle.c_meaning.specs.Pending.{Current, Step, evaluate, evaluate_all, evaluate_dropped, locate, point, hold, hold_above, decide, finish, forget, initialize_all, give, give_cells, give_cell, Task, does, execute, execute_items, end_block, end_locals, choose, at_top, tested, after_body, again, answer, leave, top_of, below, last_values, count_of, located, Rest, pointed_at, decided, finished, changes, setting_at, chosen, loops, ends_round, body_in, continues_loop, after_test, passes, goes}

-- where calls only add events, and what follows does
module _ (s : Setting) (all : (line number : ℕ) (arguments : List ℕ) → Grows (s.call line number arguments)) where
  pointed_grows : (p : Place) (vs : List ℕ) (k : Rest) → ((us : List ℕ) → Grows (k us)) → Grows (pointed_at p vs k)
  pointed_grows (place line t (element at pointer_first a b)) vs k h =
      then_grows _ _ (moved_grows at false pointer_first (type_of a) (type_of b) (top_of (below vs)) (top_of vs)) (λ v. h _)
  pointed_grows (place line t (local n)) vs k h = h vs
  pointed_grows (place line t (static n)) vs k h = h vs
  pointed_grows (place line t (text n)) vs k h = h vs
  pointed_grows (place line t (pointed e)) vs k h = h vs

  decided_grows : (e : Value) (vs : List ℕ) (k : Rest) → ((us : List ℕ) → Grows (k us)) → Grows (decided s e vs k)
  decided_grows (value line t (conjunction a b)) vs k h =
      either_grows (top_of vs == 0) _ _ (h _) (then_grows _ _ (value_grows s all b) (λ y. h _))
  decided_grows (value line t (disjunction a b)) vs k h =
      either_grows (top_of vs == 0) _ _ (then_grows _ _ (value_grows s all b) (λ y. h _)) (h _)
  decided_grows (value line t (choice e a b)) vs k h =
      either_grows (top_of vs == 0) _ _ (then_grows _ _ (value_grows s all b) (λ y. h _)) (then_grows _ _ (value_grows s all a) (λ y. h _))
  decided_grows other vs k h = h vs

  finished_grows : (e : Value) (vs : List ℕ) (k : Rest) → ((us : List ℕ) → Grows (k us)) → Grows (finished s e vs k)
  finished_grows (value line t (minus e)) vs k h = then_grows _ _ (computed_grows line _) (λ v. h _)
  finished_grows (value line t (complement e)) vs k h =
      then_grows (computed line (arith_of Xor (ty_of (type_of e)) (top_of vs) 4294967295)) _
      (computed_grows line (arith_of Xor (ty_of (type_of e)) (top_of vs) 4294967295)) (λ v. h (v ∷ below vs))
  finished_grows (value line t (negation e)) vs k h = h _
  finished_grows (value line t (arithmetic op at a b)) vs k h = then_grows _ _ (computed_grows at _) (λ v. h _)
  finished_grows (value line t (sum at is_less pointer_first a b)) vs k h =
      then_grows _ _ (moved_grows at is_less pointer_first (type_of a) (type_of b) (top_of (below vs)) (top_of vs)) (λ v. h _)
  finished_grows (value line t (difference at a b)) vs k h = then_grows _ _ (computed_grows at _) (λ v. h _)
  finished_grows (value line t (comparison op at a b)) vs k h = then_grows _ _ (computed_grows at _) (λ v. h _)
  finished_grows (value line t (conjunction a b)) vs k h = h _
  finished_grows (value line t (disjunction a b)) vs k h = h _
  finished_grows (value line t (assignment p e)) vs k h =
      then_grows _ _ (store_grows (located s p (top_of (below vs))) (top_of vs)) (λ done. h _)
  finished_grows (value line t (update is_after p first op at ty e)) vs k h =
      then_grows _ _ (computed_grows at _) λ result.
      then_grows _ _ (store_grows (located s p (top_of (below (below vs)))) _) (λ done. h _)
  finished_grows (value line t (move is_after p is_less at e)) vs k h =
      then_grows _ _ (moved_grows at is_less true (place_type p).type (type_of e) (top_of (below vs)) (top_of vs)) λ new.
      then_grows _ _ (store_grows (located s p (top_of (below (below vs)))) new) (λ done. h _)
  finished_grows (value line t (conversion first e)) vs k h = h _
  finished_grows (value line t (to_bool first e)) vs k h = h _
  finished_grows (value line t (call at entity es)) vs k h =
      then_grows _ _ (all at (value_of_entity s.program entity) (last_values (count_of es) vs)) (λ v. h _)
  finished_grows (value line t (call_through at e es)) vs k h =
      then_grows _ _ (call_of_value_grows s all at (top_of (drop (count_of es) vs)) (last_values (count_of es) vs)) (λ v. h _)
  finished_grows (value line t (putchar at e)) vs k h =
      then_grows (happens (Byte (top_of vs % 256))) _ (happens_grows (Byte (top_of vs % 256)))
      (λ done. h (top_of vs % 256 ∷ below vs))
  finished_grows (value line t (getchar at)) vs k h = then_grows reads_byte _ (λ w. no_longer w.events) (λ v. h (v ∷ vs))
  finished_grows (value line t (exit at e)) vs k h = exits_grows ⊥ (top_of vs)
  finished_grows other vs k h = h vs

  changes_grow : (step : Step) (vs : List ℕ) (k : Rest) → ((us : List ℕ) → Grows (k us)) → Grows (changes s step vs k)
  changes_grow (evaluate e) vs k h = then_grows _ _ (value_grows s all e) (λ v. h _)
  changes_grow (evaluate_all es) vs k h = then_grows _ _ (values_grow s all es) (λ xs. h _)
  changes_grow (evaluate_dropped es) vs k h = then_grows _ _ (values_grow s all es) (λ xs. h _)
  changes_grow (locate p) vs k h = then_grows _ _ (location_grows s all p) (λ l. h _)
  changes_grow (point p) vs k h = pointed_grows p vs k h
  changes_grow (hold p) vs k h = then_grows _ _ (fetch_grows (located s p (top_of vs))) (λ v. h _)
  changes_grow (hold_above p) vs k h = then_grows _ _ (fetch_grows (located s p (top_of vs))) (λ v. h _)
  changes_grow (decide e) vs k h = decided_grows e vs k h
  changes_grow (finish e) vs k h = finished_grows e vs k h
  changes_grow forget vs k h = h _
  changes_grow (initialize_all locals) vs k h = then_grows _ _ (all_initialize_grow s all locals) (λ done. h _)
  changes_grow (give n) vs k h =
      then_grows _ _ (store_grows (located s (place (row_of s n).line (row_of s n).type (local n)) (top_of (below vs))) (top_of vs))
      (λ done. h _)
  changes_grow (give_cells n given) vs k h = then_grows _ _ (cells_grow s all n given) (λ done. h _)
  changes_grow (give_cell n index) vs k h =
      then_grows _ _ (remembers_grows (row_of s n).line (λ memory. write_of memory (top_of (below vs) + index) (top_of vs))) (λ done. h _)

  module _ (program : Program) (bound : ℕ) where
    chosen_grows : (a : Stmt) (x : ℕ) → Grows (chosen program bound s a x)
    chosen_grows (if_only line e a) x = either_grows (x == 0) _ _ (λ w. no_longer w.events) (executes_grows s all bound a)
    chosen_grows (if_else line e a b) x = either_grows (x == 0) _ _ (executes_grows s all bound b) (executes_grows s all bound a)
    chosen_grows other x = λ w. no_longer w.events

    loops_grow : (a : Stmt) → Grows (loops program bound s a)
    loops_grow (while line e a) =
        rounds_grow s.part line _ bound
        (round_of_for_grows _ (pure 0) _ (value_grows s all e) (λ w. no_longer w.events) (executes_grows s all bound a))
    loops_grow (do_while line a e) =
        rounds_grow s.part line _ bound (round_of_do_grows _ _ (value_grows s all e) (executes_grows s all bound a))
    loops_grow (for line first e step a) =
        rounds_grow s.part line _ bound
        (round_of_for_grows _ _ _ (value_or_grows s all 1 e) (value_or_grows s all 0 step) (executes_grows s all bound a))
    loops_grow other = λ w. no_longer w.events

    ends_grow : (a : Stmt) → Grows (ends_round program bound s a)
    ends_grow (while line e a) = λ w. no_longer w.events
    ends_grow (do_while line a e) =
        then_grows _ _ (value_grows s all e) λ x. either_grows (x == 0) _ _ (λ w. no_longer w.events) (λ w. no_longer w.events)
    ends_grow (for line first e step a) = then_grows _ _ (value_or_grows s all 0 step) (λ x w. no_longer w.events)
    ends_grow other = λ w. no_longer w.events

    body_grows : (a : Stmt) → Grows (body_in program bound s a)
    body_grows (while line e a) = executes_grows s all bound a
    body_grows (do_while line a e) = executes_grows s all bound a
    body_grows (for line first e step a) = executes_grows s all bound a
    body_grows other = λ w. no_longer w.events

    loop_grows : (a : Stmt) (j : Completion) → Grows (continues_loop program bound s a j)
    loop_grows a j = then_grows _ _ (continued_grows j _ (ends_grow a)) (λ d. again_grows d _ (loops_grow a))

    tested_grows : (a : Stmt) (x : ℕ) → Grows (after_test program bound s a x)
    tested_grows a x =
        then_grows _ _
        (either_grows (x == 0) _ _ (λ w. no_longer w.events) (then_grows _ _ (body_grows a) (λ c. continued_grows c _ (ends_grow a))))
        (λ d. again_grows d _ (loops_grow a))

module _ (program : Program) (bound : ℕ) (c : Current) where
  abbrev s : Setting
  s = setting_at program bound c

  abbrev all : (line number : ℕ) (arguments : List ℕ) → Grows (calls program bound line number arguments)
  all = calls_grow program bound

  abbrev Onward : Type 0
  Onward = Current → List ℕ → Completion → Doing ⊥

  -- a task only adds events, where what follows does
  abbrev TaskGrows : Task → Type 0
  TaskGrows t =
      (vs : List ℕ) (j : Completion) (k : Onward) → ((d : Current) (us : List ℕ) (i : Completion) → Grows (k d us i)) →
      Grows (passes program bound c t vs j k)

  does_grows : (step : Step) → TaskGrows (does step)
  does_grows step vs normal k h = changes_grow s all step vs _ (λ us. h c us normal)
  does_grows step vs jump k h = h c vs _

  choose_grows : (a : Stmt) → TaskGrows (choose a)
  choose_grows a vs normal k h = then_grows _ _ (chosen_grows s all program bound a (top_of vs)) (h c (below vs))
  choose_grows a vs jump k h = h c vs _

  test_grows : (a : Stmt) → TaskGrows (tested a)
  test_grows a vs normal k h = then_grows _ _ (tested_grows s all program bound a (top_of vs)) (h c (below vs))
  test_grows a vs jump k h = h c vs _

  again_passes : (a : Stmt) → TaskGrows (again a)
  again_passes a vs normal k h =
      then_grows _ _
      (then_grows _ _ (either_grows (top_of vs == 0) _ _ (λ w. no_longer w.events) (λ w. no_longer w.events))
      (λ d. again_grows d _ (loops_grow s all program bound a)))
      (h c (below vs))
  again_passes a vs jump k h = h c vs _

  answer_grows : TaskGrows answer
  answer_grows vs normal k h = h c (below vs) _
  answer_grows vs jump k h = h c vs _

  passes_grow : (t : Task) → TaskGrows t
  passes_grow (does step) vs j k h = does_grows step vs j k h
  passes_grow (execute a) vs j k h = then_grows _ _ (normal_grows j _ (executes_grows s all bound a)) (h c vs)
  passes_grow (execute_items items) vs j k h = then_grows _ _ (normal_grows j _ (items_grow s all bound items)) (h c vs)
  passes_grow (end_block items) vs j k h = then_grows _ _ (all_end_grow s (locals_of items)) (λ done. h c vs j)
  passes_grow (end_locals locals) vs j k h = then_grows _ _ (all_end_grow s (numbers_of locals)) (λ done. h c vs j)
  passes_grow (choose a) vs j k h = choose_grows a vs j k h
  passes_grow (at_top a) vs j k h = then_grows _ _ (normal_grows j _ (loops_grow s all program bound a)) (h c vs)
  passes_grow (tested a) vs j k h = test_grows a vs j k h
  passes_grow (after_body a) vs j k h = then_grows _ _ (loop_grows s all program bound a j) (h c vs)
  passes_grow (again a) vs j k h = again_passes a vs j k h
  passes_grow answer vs j k h = answer_grows vs j k h
  passes_grow (leave caller locals) vs j k h =
      then_grows _ _ (all_end_grow s (numbers_below c.function.parameters)) λ ended.
      then_grows {A = Unit {0}} (becomes (λ w. record w { locals = locals })) _ (λ w. no_longer w.events) λ back.
      then_grows {A = Unit {0}} (becomes (λ w. record w { budgets = leave_of c.part w.budgets })) _ (leave_grows c.part) λ left.
      h caller (value_returned j ∷ vs) normal

pub goes_grows : (program : Program) (bound : ℕ) (ts : List Task) (c : Current) (vs : List ℕ) (j : Completion)
    → Grows (goes program bound ts c vs j)
goes_grows program bound [] c vs j = exits_grows ⊥ (top_of vs)
goes_grows program bound (t ∷ ts) c vs j = passes_grow program bound c t vs j _ (λ d us i. goes_grows program bound ts d us i)
