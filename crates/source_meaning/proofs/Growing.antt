-- Events are only added: what is done leaves those before as they were, with more behind them or none.
use Rattle.std.proofs.Common.{◌≡◌, ℕ, zero, suc, ◌+◌, ◌%◌, ◌==◌, Bool, true, false, List, [], ◌∷◌, ◌++◌, length, refl, sym, ap, ◌∙◌, Result, Ok, Err, Option, Some, None}
use Rattle.std.specs.Prelude.{slice_index, replicate}
use Rattle.std.proofs.lemmas.List.{append-nil, append_assoc}
use Rattle.srmt_base.specs.declared.budgets.Budgets.{Budgets}
use Rattle.srmt_base.specs.declared.event.Event.{Event}
use Rattle.srmt_base.specs.declared.event.Event.TheVariants.{Byte, PortRead, PortWrite, Exit as ExitEvent}
use Rattle.srmt_base.specs.declared.op.Op.TheVariants.{Xor}
use Rattle.srmt_base.specs.declared.part.Part.{Part}
use Rattle.srmt_base.specs.declared.trap.Trap.{Trap}
use Rattle.srmt_base.specs.declared.trap.Trap.TheVariants.{Turns}
use Rattle.srmt_base.specs.Arith.{arith_of}
use Rattle.srmt_base.specs.Budgets.{turn_of, enter_of, leave_of}
use Rattle.srmt_base.specs.Memory.{Memory, read_of, write_of, begin_of, next_number}
use Rattle.srmt_base.specs.Objects.{pointer_to, object_part, offset_part}
use Rattle.c_types.specs.Types.{CType, Qualified, ty_of, cells_of}
use Rattle.c_typed.specs.Typed.{Place, place, local, static, text, pointed, element, Value, value, constant, null, read, first_element, address, function, minus, complement, negation, arithmetic, sum, difference, comparison, conjunction, disjunction, choice, sequence, assignment, update, move, conversion, to_bool, requalified, discarded, call, call_through, putchar, getchar, exit, Values, no_values, first_value, type_of}
use Rattle.c_typed.specs.Statements.{Cell, Initializer, scalar, cells, LocalItem, ForStart, starts, declares, Stmt, block, empty, expression, if_only, if_else, while, do_while, for, continue, break, return, Items, no_items, declaration, statement, Function, Program}
use Rattle.source_meaning.specs.World.{World, Outcome, Gives, Ends, Doing, and_then, ◌>>=◌, pure, becomes, either, traps, computed, exits, happens, set_local, remembers, spends}
use Rattle.source_meaning.specs.Places.{Setting, Location, register, cell, row_of, function_at, part_of_function, location_of_local, fetch, store, object_begins, all_begin, all_end}
use Rattle.source_meaning.specs.Expressions.{moved, call_of_value, location_of, value_of, values_of}
use Rattle.source_meaning.specs.Statements.{Completion, normal, continues, breaks, returns, if_normal, if_continued, if_again, rounds, round_of_for, round_of_do, in_block, numbers_of, cells_given, initializes, all_initialize, value_or, in_for, executes, executes_items, locals_of}
use Rattle.source_meaning.specs.Calls.{object_takes, parameters_begin, numbers_below, body_of, entered, setting_of, calls}

-- the second is the first with more behind it
abbrev pub IsLonger : List Event → List Event → Type 0
IsLonger es fs = (more : List Event) × (fs ≡ es ++ more)

-- what is come to has these events, and more behind them
abbrev pub AddsTo : {A : Type 0} → List Event → Outcome A → Type 0
AddsTo es (Gives a w) = IsLonger es w.events
AddsTo es (Ends end fs) = IsLonger es fs

abbrev pub Grows : {A : Type 0} → Doing A → Type 0
Grows m = (w : World) → AddsTo w.events (m w)

pub no_longer : (es : List Event) → IsLonger es es
no_longer es = ([], sym (append-nil es))

pub longer_longer : (es fs gs : List Event) → IsLonger es fs → IsLonger fs gs → IsLonger es gs
longer_longer es fs gs h k = (h.0 ++ k.0, k.1 ∙ ap (λ xs. xs ++ k.0) h.1 ∙ append_assoc es h.0 k.0)

pub adds_to_fewer : {A : Type 0} (es fs : List Event) (o : Outcome A) → IsLonger es fs → AddsTo fs o → AddsTo es o
adds_to_fewer es fs (Gives a w) h k = longer_longer es fs w.events h k
adds_to_fewer es fs (Ends end gs) h k = longer_longer es fs gs h k

pub outcome_grows : {A B : Type 0} (es : List Event) (o : Outcome A) (f : A → Doing B)
    → AddsTo es o → ((a : A) → Grows (f a)) → AddsTo es (and_then o f)
outcome_grows es (Gives a w) f h k = adds_to_fewer es w.events (f a w) h (k a w)
outcome_grows es (Ends end fs) f h k = h

pub then_grows : {A B : Type 0} (m : Doing A) (f : A → Doing B) → Grows m → ((a : A) → Grows (f a)) → Grows (m >>= f)
then_grows m f h k w = outcome_grows w.events (m w) f (h w) k

pub pure_grows : {A : Type 0} (a : A) → Grows (pure a)
pure_grows a w = no_longer w.events

pub nothing_grows : Grows {A = Unit {0}} (pure tt)
nothing_grows w = no_longer w.events

pub either_grows : {A : Type 0} (test : Bool) (m n : Doing A) → Grows m → Grows n → Grows (either test m n)
either_grows true m n h k = h
either_grows false m n h k = k

-- a change of the world that leaves the events
pub becomes_grows : (f : World → World) → ((w : World) → (f w).events ≡ w.events) → Grows (becomes f)
becomes_grows f h w = ([], h w ∙ sym (append-nil w.events))

pub traps_grows : (A : Type 0) (trap : Trap) (line : ℕ) → Grows {A = A} (traps trap line)
traps_grows A trap line w = no_longer w.events

pub computed_grows : {A : Type 0} (line : ℕ) (r : Result A Trap) → Grows (computed line r)
computed_grows line (Ok a) w = no_longer w.events
computed_grows line (Err trap) w = no_longer w.events

pub remembers_grows : (line : ℕ) (change : Memory → Result Memory Trap) → Grows (remembers line change)
remembers_grows line change w =
    outcome_grows w.events (computed line (change w.memory) w) (λ memory. becomes (λ u. record u { memory = memory }))
    (computed_grows line (change w.memory) w) (λ memory u. no_longer u.events)

pub spends_grows : (line : ℕ) (change : Budgets → Result Budgets Trap) → Grows (spends line change)
spends_grows line change w =
    outcome_grows w.events (computed line (change w.budgets) w) (λ budgets. becomes (λ u. record u { budgets = budgets }))
    (computed_grows line (change w.budgets) w) (λ budgets u. no_longer u.events)

pub happens_grows : (event : Event) → Grows (happens event)
happens_grows event w = (event ∷ [], refl)

pub exits_grows : (A : Type 0) (v : ℕ) → Grows {A = A} (exits v)
exits_grows A v w = (ExitEvent (v % 256) ∷ [], refl)

pub set_local_grows : (n v : ℕ) → Grows (set_local n v)
set_local_grows n v w = no_longer w.events

pub happens_if_grows : (test : Bool) (event : Event) → Grows (either test (happens event) (pure tt))
happens_if_grows test event = either_grows test _ _ (happens_grows event) (nothing_grows)

pub local_grows : (s : Setting) (n : ℕ) (t : Qualified) (line : ℕ) → Grows (location_of_local s n t line)
local_grows s n t line = either_grows (row_of s n).is_placed _ _ (λ w. no_longer w.events) (λ w. no_longer w.events)

pub fetch_grows : (l : Location) → Grows (fetch l)
fetch_grows (register n) = λ w. no_longer w.events
fetch_grows (cell is_volatile line pointer) = λ w.
    then_grows (computed line (read_of w.memory pointer)) _ (computed_grows line (read_of w.memory pointer))
    (λ v. then_grows _ _ (happens_if_grows is_volatile (PortRead (object_part pointer) (offset_part pointer))) (λ done. pure_grows v)) w

pub store_grows : (l : Location) (v : ℕ) → Grows (store l v)
store_grows (register n) v = λ w. no_longer w.events
store_grows (cell is_volatile line pointer) v =
    then_grows _ _ (remembers_grows line (λ memory. write_of memory pointer v))
    (λ done. happens_if_grows is_volatile (PortWrite (object_part pointer) (offset_part pointer) v))

pub moved_grows : (line : ℕ) (is_less pointer_first : Bool) (t u : CType) (x y : ℕ) → Grows (moved line is_less pointer_first t u x y)
moved_grows line is_less true t u x y = computed_grows line _
moved_grows line is_less false t u x y = computed_grows line _

pub object_begins_grows : (s : Setting) (n : ℕ) → Grows (object_begins s n)
object_begins_grows s n w =
    then_grows (remembers (row_of s n).line (λ memory. begin_of s.part memory (cells_of (row_of s n).type.type)))
    (λ done. set_local n (pointer_to (next_number s.part w.memory) 0))
    (remembers_grows (row_of s n).line (λ memory. begin_of s.part memory (cells_of (row_of s n).type.type))) (λ done u. no_longer u.events) w

pub all_begin_grow : (s : Setting) (locals : List ℕ) → Grows (all_begin s locals)
all_begin_grow s [] = nothing_grows
all_begin_grow s (n ∷ rest) =
    then_grows _ _ (either_grows (row_of s n).is_placed _ _ (object_begins_grows s n) (λ w. no_longer w.events)) (λ done. all_begin_grow s rest)

pub all_end_grow : (s : Setting) (locals : List ℕ) → Grows (all_end s locals)
all_end_grow s [] = nothing_grows
all_end_grow s (n ∷ rest) =
    then_grows _ _ (all_end_grow s rest) (λ done. either_grows (row_of s n).is_placed _ _ (λ w. no_longer w.events) (nothing_grows))

pub block_grows : (s : Setting) (locals : List ℕ) (body : Doing Completion) → Grows body → Grows (in_block s locals body)
block_grows s locals body h =
    then_grows _ _ (all_begin_grow s locals) λ begun.
    then_grows _ _ h λ c. then_grows _ _ (all_end_grow s locals) (λ ended w. no_longer w.events)

pub normal_grows : (c : Completion) (m : Doing Completion) → Grows m → Grows (if_normal c m)
normal_grows normal m h = h
normal_grows continues m h = λ w. no_longer w.events
normal_grows breaks m h = λ w. no_longer w.events
normal_grows (returns v) m h = λ w. no_longer w.events

pub continued_grows : (c : Completion) (m : Doing Completion) → Grows m → Grows (if_continued c m)
continued_grows normal m h = h
continued_grows continues m h = h
continued_grows breaks m h = λ w. no_longer w.events
continued_grows (returns v) m h = λ w. no_longer w.events

pub again_grows : (c : Completion) (m : Doing Completion) → Grows m → Grows (if_again c m)
again_grows normal m h = h
again_grows continues m h = h
again_grows breaks m h = λ w. no_longer w.events
again_grows (returns v) m h = λ w. no_longer w.events

pub rounds_grow : (part : Part) (line : ℕ) (round : Doing Completion) (n : ℕ) → Grows round → Grows (rounds n part line round)
rounds_grow part line round zero h = then_grows _ _ (spends_grows line (turn_of part)) (λ done w. no_longer w.events)
rounds_grow part line round (suc n) h =
    then_grows _ _ (spends_grows line (turn_of part)) λ done. then_grows _ _ h λ c. again_grows c _ (rounds_grow part line round n h)

pub round_of_for_grows : (test step : Doing ℕ) (body : Doing Completion) → Grows test → Grows step → Grows body → Grows (round_of_for test body step)
round_of_for_grows test step body h k l =
    then_grows _ _ h λ x.
    either_grows (x == 0) _ _ (λ w. no_longer w.events)
    (then_grows _ _ l λ c. continued_grows c _ (then_grows _ _ k (λ y w. no_longer w.events)))

pub round_of_do_grows : (test : Doing ℕ) (body : Doing Completion) → Grows test → Grows body → Grows (round_of_do body test)
round_of_do_grows test body h l =
    then_grows _ _ l λ c.
    continued_grows c _
    (then_grows _ _ h λ x. either_grows (x == 0) _ _ (λ w. no_longer w.events) (λ w. no_longer w.events))

pub object_takes_grows : (s : Setting) (n v : ℕ) → Grows (object_takes s n v)
object_takes_grows s n v =
    then_grows _ _ (object_begins_grows s n) λ begun w.
    remembers_grows (row_of s n).line (λ memory. write_of memory (slice_index w.locals n) v) w

pub parameters_grow : (s : Setting) (n : ℕ) (arguments : List ℕ) → Grows (parameters_begin s n arguments)
parameters_grow s n [] = nothing_grows
parameters_grow s n (v ∷ rest) =
    then_grows _ _ (either_grows (row_of s n).is_placed _ _ (object_takes_grows s n v) (λ w. no_longer w.events))
    (λ done. parameters_grow s (suc n) rest)

-- where calls only add events
module _ (s : Setting) (all : (line number : ℕ) (arguments : List ℕ) → Grows (s.call line number arguments)) where
  pub call_of_value_grows : (line v : ℕ) (arguments : List ℕ) → Grows (call_of_value s line v arguments)
  call_of_value_grows line zero arguments = λ w. no_longer w.events
  call_of_value_grows line (suc v) arguments = all line (suc v) arguments

  mutual
    unfolding value_of

    pub location_grows : (p : Place) → Grows (location_of s p)
    location_grows (place line t (local n)) = local_grows s n t line
    location_grows (place line t (static n)) = λ w. no_longer w.events
    location_grows (place line t (text n)) = λ w. no_longer w.events
    location_grows (place line t (pointed e)) = then_grows _ _ (value_grows e) (λ x w. no_longer w.events)
    location_grows (place line t (element at pointer_first a b)) =
        then_grows _ _ (value_grows a) λ x.
        then_grows _ _ (value_grows b) λ y.
        then_grows _ _ (moved_grows at false pointer_first _ _ x y) (λ z w. no_longer w.events)

    pub value_grows : (e : Value) → Grows (value_of s e)
    value_grows (value line t (constant n)) = λ w. no_longer w.events
    value_grows (value line t null) = λ w. no_longer w.events
    value_grows (value line t (read p)) = then_grows _ _ (location_grows p) (λ l. fetch_grows l)
    value_grows (value line t (first_element p)) = then_grows _ _ (location_grows p) (λ l w. no_longer w.events)
    value_grows (value line t (address p)) = then_grows _ _ (location_grows p) (λ l w. no_longer w.events)
    value_grows (value line t (function n)) = λ w. no_longer w.events
    value_grows (value line t (minus e)) = then_grows _ _ (value_grows e) (λ x. computed_grows line _)
    value_grows (value line t (complement e)) =
        then_grows _ _ (value_grows e) (λ x. computed_grows line (arith_of Xor (ty_of (type_of e)) x 4294967295))
    value_grows (value line t (negation e)) = then_grows _ _ (value_grows e) (λ x w. no_longer w.events)
    value_grows (value line t (arithmetic op at a b)) =
        then_grows _ _ (value_grows a) λ x. then_grows _ _ (value_grows b) λ y. computed_grows at _
    value_grows (value line t (sum at is_less pointer_first a b)) =
        then_grows _ _ (value_grows a) λ x. then_grows _ _ (value_grows b) λ y. moved_grows at is_less pointer_first _ _ x y
    value_grows (value line t (difference at a b)) =
        then_grows _ _ (value_grows a) λ x. then_grows _ _ (value_grows b) λ y. computed_grows at _
    value_grows (value line t (comparison op at a b)) =
        then_grows _ _ (value_grows a) λ x. then_grows _ _ (value_grows b) λ y. computed_grows at _
    value_grows (value line t (conjunction a b)) =
        then_grows _ _ (value_grows a) λ x.
        either_grows (x == 0) _ _ (λ w. no_longer w.events) (then_grows _ _ (value_grows b) (λ y w. no_longer w.events))
    value_grows (value line t (disjunction a b)) =
        then_grows _ _ (value_grows a) λ x.
        either_grows (x == 0) _ _ (then_grows _ _ (value_grows b) (λ y w. no_longer w.events)) (λ w. no_longer w.events)
    value_grows (value line t (choice e a b)) =
        then_grows _ _ (value_grows e) λ x. either_grows (x == 0) _ _ (value_grows b) (value_grows a)
    value_grows (value line t (sequence dropped last)) = then_grows _ _ (values_grow dropped) (λ xs. value_grows last)
    value_grows (value line t (assignment p e)) =
        then_grows _ _ (location_grows p) λ l.
        then_grows _ _ (value_grows e) λ x. then_grows _ _ (store_grows l x) (λ done w. no_longer w.events)
    value_grows (value line t (update is_after p first op at ty e)) =
        then_grows _ _ (location_grows p) λ l.
        then_grows _ _ (fetch_grows l) λ old.
        then_grows _ _ (value_grows e) λ x.
        then_grows _ _ (computed_grows at _) λ result. then_grows _ _ (store_grows l _) (λ done w. no_longer w.events)
    value_grows (value line t (move is_after p is_less at e)) =
        then_grows _ _ (location_grows p) λ l.
        then_grows _ _ (fetch_grows l) λ old.
        then_grows _ _ (value_grows e) λ x.
        then_grows _ _ (computed_grows at _) λ new. then_grows _ _ (store_grows l new) (λ done w. no_longer w.events)
    value_grows (value line t (conversion first e)) = then_grows _ _ (value_grows e) (λ x w. no_longer w.events)
    value_grows (value line t (to_bool first e)) = then_grows _ _ (value_grows e) (λ x w. no_longer w.events)
    value_grows (value line t (requalified e)) = value_grows e
    value_grows (value line t (discarded e)) = value_grows e
    value_grows (value line t (call at n es)) = then_grows _ _ (values_grow es) (λ xs. all at _ xs)
    value_grows (value line t (call_through at e es)) =
        then_grows _ _ (value_grows e) λ v. then_grows _ _ (values_grow es) λ xs. call_of_value_grows at v xs
    value_grows (value line t (putchar at e)) =
        then_grows _ _ (value_grows e) λ x.
        then_grows (happens (Byte (x % 256))) (λ done. pure (x % 256)) (happens_grows (Byte (x % 256))) (λ done. pure_grows (x % 256))
    value_grows (value line t (getchar at)) = λ w. no_longer w.events
    value_grows (value line t (exit at e)) = then_grows _ _ (value_grows e) (λ x. exits_grows ℕ x)

    pub values_grow : (es : Values) → Grows (values_of s es)
    values_grow no_values = λ w. no_longer w.events
    values_grow (first_value e es) =
        then_grows _ _ (value_grows e) λ x. then_grows _ _ (values_grow es) (λ xs w. no_longer w.events)

  pub cells_grow : (n : ℕ) (given : List Cell) → Grows (cells_given s n given)
  cells_grow n [] = nothing_grows
  cells_grow n (c ∷ rest) = λ w.
      then_grows (value_of s c.value) _ (value_grows c.value)
      (λ x. then_grows _ _ (remembers_grows (row_of s n).line (λ memory. write_of memory (slice_index w.locals n + c.index) x))
      (λ done. cells_grow n rest)) w

  pub initializes_grows : (n : ℕ) (i : Option Initializer) → Grows (initializes s n i)
  initializes_grows n None = nothing_grows
  initializes_grows n (Some (scalar e)) =
      then_grows _ _ (local_grows s n (row_of s n).type (row_of s n).line) λ l. then_grows _ _ (value_grows e) (λ x. store_grows l x)
  initializes_grows n (Some (cells given)) = cells_grow n given

  pub all_initialize_grow : (locals : List LocalItem) → Grows (all_initialize s locals)
  all_initialize_grow [] = nothing_grows
  all_initialize_grow (first ∷ rest) =
      then_grows _ _ (initializes_grows first.number first.initializer) (λ done. all_initialize_grow rest)

  pub value_or_grows : (n : ℕ) (e : Option Value) → Grows (value_or n s e)
  value_or_grows n None = λ w. no_longer w.events
  value_or_grows n (Some e) = value_grows e

  pub for_grows : (first : ForStart) (loop : Doing Completion) → Grows loop → Grows (in_for s first loop)
  for_grows (starts e) loop h = then_grows _ _ (value_or_grows 0 e) (λ x. h)
  for_grows (declares locals) loop h =
      block_grows s (numbers_of locals) _ (then_grows _ _ (all_initialize_grow locals) (λ done. h))

  module _ (most : ℕ) where
    mutual
      unfolding executes

      pub executes_grows : (u : Stmt) → Grows (executes s most u)
      executes_grows (block line items end) = block_grows s (locals_of items) _ (items_grow items)
      executes_grows (empty line) = λ w. no_longer w.events
      executes_grows (expression line e) = then_grows _ _ (value_grows e) (λ x w. no_longer w.events)
      executes_grows (if_only line e a) =
          then_grows _ _ (value_grows e) λ x. either_grows (x == 0) _ _ (λ w. no_longer w.events) (executes_grows a)
      executes_grows (if_else line e a b) =
          then_grows _ _ (value_grows e) λ x. either_grows (x == 0) _ _ (executes_grows b) (executes_grows a)
      executes_grows (while line e a) =
          rounds_grow s.part line _ most
          (round_of_for_grows _ (pure 0) _ (value_grows e) (λ w. no_longer w.events) (executes_grows a))
      executes_grows (do_while line a e) =
          rounds_grow s.part line _ most (round_of_do_grows _ _ (value_grows e) (executes_grows a))
      executes_grows (for line first e step a) =
          for_grows first _
          (rounds_grow s.part line _ most
          (round_of_for_grows _ _ _ (value_or_grows 1 e) (value_or_grows 0 step) (executes_grows a)))
      executes_grows (continue line) = λ w. no_longer w.events
      executes_grows (break line) = λ w. no_longer w.events
      executes_grows (return line e) = then_grows _ _ (value_or_grows 0 e) (λ x w. no_longer w.events)

      pub items_grow : (items : Items) → Grows (executes_items s most items)
      items_grow no_items = λ w. no_longer w.events
      items_grow (declaration locals rest) = then_grows _ _ (all_initialize_grow locals) (λ done. items_grow rest)
      items_grow (statement first rest) = then_grows _ _ (executes_grows first) (λ c. normal_grows c _ (items_grow rest))

    pub body_grows : (f : Function) (arguments : List ℕ) → Grows (body_of s most f arguments)
    body_grows f arguments w =
        then_grows _ _ (parameters_grow s 0 arguments)
        (λ begun. then_grows _ _ (block_grows s (locals_of f.body) _ (items_grow f.body))
        (λ c. then_grows _ _ (all_end_grow s (numbers_below f.parameters)) (λ ended u. no_longer u.events)))
        (record w { locals = replicate (length f.locals) 0 })

pub leave_grows : (part : Part) → Grows (becomes (λ w. record w { budgets = leave_of part w.budgets }))
leave_grows part w = no_longer w.events

pub entered_grows : (line : ℕ) (part : Part) (function : Option Function) (body : Function → Doing ℕ)
    → ((f : Function) → Grows (body f)) → Grows (entered line part function body)
entered_grows line part None body h = λ w. no_longer w.events
entered_grows line part (Some f) body h =
    then_grows _ _ (spends_grows f.line (enter_of part)) λ done.
    then_grows _ _ (h f) λ v.
    then_grows {A = Unit {0}} (becomes (λ w. record w { budgets = leave_of part w.budgets })) (λ left. pure v) (leave_grows part) (λ left. pure_grows v)

pub calls_grow : (program : Program) (n line number : ℕ) (arguments : List ℕ) → Grows (calls program n line number arguments)
unfolding calls
calls_grow program zero line number arguments =
    entered_grows line (part_of_function program number) (function_at program number) _ (λ f. traps_grows ℕ Turns f.line)
calls_grow program (suc n) line number arguments =
    entered_grows line (part_of_function program number) (function_at program number) _
    (λ f. body_grows (setting_of program number f (calls program n)) (calls_grow program n) n f arguments)
