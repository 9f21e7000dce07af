-- Statements and calls store numbers of 44 bits, and return such.
use Rattle.std.proofs.Common.{◌≡◌, ℕ, zero, suc, ◌+◌, ◌==◌, List, [], ◌∷◌, length, refl, Option, Some, None, Result, Ok, Err, arith}
use Rattle.std.specs.Prelude.{slice_index, replicate, IfOk}
use Rattle.srmt_base.specs.declared.budgets.Budgets.{Budgets}
use Rattle.srmt_base.specs.declared.part.Part.{Part}
use Rattle.srmt_base.specs.declared.trap.Trap.{Trap}
use Rattle.srmt_base.specs.Budgets.{turn_of, enter_of}
use Rattle.srmt_base.specs.Objects.{pointer_to, object_part}
use Rattle.srmt_base.specs.Memory.{Memory, write_of, begin_of, next_number}
use Rattle.c_types.specs.Types.{cells_of}
use Rattle.c_typed.specs.Typed.{Value}
use Rattle.c_typed.specs.Statements.{Cell, Initializer, scalar, cells, LocalItem, ForStart, starts, declares, Stmt, block, empty, expression, if_only, if_else, while, do_while, for, continue, break, return, Items, no_items, declaration, statement, Function, Program}
use Rattle.source_meaning.specs.World.{World, Doing, and_then, pure, becomes, computed, spends, set_local}
use Rattle.source_meaning.specs.Places.{Setting, row_of, function_at, part_of_function, object_begins, object_ends, all_begin, all_end}
use Rattle.source_meaning.specs.Statements.{Completion, normal, continues, breaks, returns, if_normal, if_continued, if_again, rounds, round_of_for, round_of_do, in_block, numbers_of, cells_given, initializes, all_initialize, value_or, in_for, executes, executes_items, locals_of}
use Rattle.source_meaning.specs.Calls.{object_takes, parameters_begin, numbers_below, value_returned, body_of, entered, setting_of, calls}
use Rattle.source_meaning.specs.Values.{IsValue, AreValues, HoldsValues, GivesSuch, Makes, NamesValues, CallsWithValues, MayHaveValues, HaveCells, HasInitial, HaveInitials, HasStart, HasStatement, HasItems, CallsGiveValues}
use Rattle.source_meaning.proofs.ValueLemmas.{then_makes, either_makes, zeros_small, Anything, MemoryHolds, write_holds, begin_holds, finish_holds, remembers_makes, set_local_makes, of_world}
use Rattle.source_meaning.proofs.ValueExpressions.{IsAt, local_makes, store_makes, value_makes}

pub IsDone : Completion → Type 0
IsDone normal = Unit {0}
IsDone continues = Unit {0}
IsDone breaks = Unit {0}
IsDone (returns v) = IsValue v

spent_makes : (line : ℕ) (w : World) (r : Result Budgets Trap) → HoldsValues w
    → GivesSuch Anything (and_then (computed line r w) (λ budgets. becomes (λ w. record w { budgets = budgets })))
spent_makes line w (Ok budgets) holds = (tt, record { protected = holds.protected; binary = holds.binary; input = holds.input; locals = holds.locals })
spent_makes line w (Err trap) holds = tt

spends_makes : (line : ℕ) (change : Budgets → Result Budgets Trap) → Makes Anything (spends line change)
spends_makes line change w holds = spent_makes line w (change w.budgets) holds

begun_makes : (line n pointer : ℕ) (w : World) (r : Result Memory Trap) → HoldsValues w → IfOk r (λ m. MemoryHolds m × IsValue pointer)
    → GivesSuch Anything (and_then (and_then (computed line r w) (λ memory. becomes (λ w. record w { memory = memory }))) (λ done. set_local n pointer))
begun_makes line n pointer w (Ok m) holds h =
    set_local_makes n pointer h.1 (record w { memory = m })
    (record { protected = h.0.0; binary = h.0.1; input = holds.input; locals = holds.locals })
begun_makes line n pointer w (Err trap) holds h = tt

object_begins_makes : (s : Setting) (n : ℕ) → Makes Anything (object_begins s n)
object_begins_makes s n w holds =
    begun_makes (row_of s n).line n (pointer_to (next_number s.part w.memory) 0) w (begin_of s.part w.memory (cells_of (row_of s n).type.type)) holds
    (begin_holds w.memory s.part (cells_of (row_of s n).type.type) (of_world w holds))

object_ends_makes : (n : ℕ) → Makes Anything (object_ends n)
object_ends_makes n w holds =
    let m = finish_holds w.memory (object_part (slice_index w.locals n)) (of_world w holds) in
    (tt, record { protected = m.0; binary = m.1; input = holds.input; locals = holds.locals })

nothing_makes : Makes {A = Unit {0}} Anything (pure tt)
nothing_makes w holds = (tt, holds)

all_begin_makes : (s : Setting) (locals : List ℕ) → Makes Anything (all_begin s locals)
all_begin_makes s [] = nothing_makes
all_begin_makes s (n ∷ rest) =
    then_makes Anything Anything _ _
    (either_makes Anything (row_of s n).is_placed _ _ (object_begins_makes s n) (set_local_makes n 0 (omega arith)))
    (λ done h. all_begin_makes s rest)

all_end_makes : (s : Setting) (locals : List ℕ) → Makes Anything (all_end s locals)
all_end_makes s [] = nothing_makes
all_end_makes s (n ∷ rest) =
    then_makes Anything Anything _ _ (all_end_makes s rest)
    (λ done h. either_makes Anything (row_of s n).is_placed _ _ (object_ends_makes n) nothing_makes)

block_makes : (s : Setting) (locals : List ℕ) (body : Doing Completion) → Makes IsDone body → Makes IsDone (in_block s locals body)
block_makes s locals body h =
    then_makes Anything IsDone _ _ (all_begin_makes s locals) λ begun k.
    then_makes IsDone IsDone _ _ h λ c done.
    then_makes Anything IsDone _ _ (all_end_makes s locals) (λ ended l w holds. (done, holds))

normal_makes : (c : Completion) (m : Doing Completion) → IsDone c → Makes IsDone m → Makes IsDone (if_normal c m)
normal_makes normal m d h = h
normal_makes continues m d h = λ w holds. (d, holds)
normal_makes breaks m d h = λ w holds. (d, holds)
normal_makes (returns v) m d h = λ w holds. (d, holds)

continued_makes : (c : Completion) (m : Doing Completion) → IsDone c → Makes IsDone m → Makes IsDone (if_continued c m)
continued_makes normal m d h = h
continued_makes continues m d h = h
continued_makes breaks m d h = λ w holds. (d, holds)
continued_makes (returns v) m d h = λ w holds. (d, holds)

again_makes : (c : Completion) (m : Doing Completion) → IsDone c → Makes IsDone m → Makes IsDone (if_again c m)
unfolding IsDone
again_makes normal m d h = h
again_makes continues m d h = h
again_makes breaks m d h = λ w holds. (tt, holds)
again_makes (returns v) m d h = λ w holds. (d, holds)

rounds_make : (part : Part) (line : ℕ) (round : Doing Completion) (n : ℕ) → Makes IsDone round → Makes IsDone (rounds n part line round)
rounds_make part line round zero h = then_makes Anything IsDone _ _ (spends_makes line (turn_of part)) (λ done k w holds. tt)
rounds_make part line round (suc n) h =
    then_makes Anything IsDone _ _ (spends_makes line (turn_of part)) λ done k.
    then_makes IsDone IsDone _ _ h λ c d. again_makes c _ d (rounds_make part line round n h)

round_of_for_makes : (test step : Doing ℕ) (body : Doing Completion) → Makes IsValue test → Makes IsValue step → Makes IsDone body
    → Makes IsDone (round_of_for test body step)
unfolding IsDone
round_of_for_makes test step body h k l =
    then_makes IsValue IsDone _ _ h λ x i.
    either_makes IsDone (x == 0) _ _ (λ w holds. (tt, holds))
    (then_makes IsDone IsDone _ _ l λ c d. continued_makes c _ d (then_makes IsValue IsDone _ _ k (λ y j w holds. (tt, holds))))

round_of_do_makes : (test : Doing ℕ) (body : Doing Completion) → Makes IsValue test → Makes IsDone body → Makes IsDone (round_of_do body test)
unfolding IsDone
round_of_do_makes test body h l =
    then_makes IsDone IsDone _ _ l λ c d.
    continued_makes c _ d
    (then_makes IsValue IsDone _ _ h λ x i. either_makes IsDone (x == 0) _ _ (λ w holds. (tt, holds)) (λ w holds. (tt, holds)))

module _ (s : Setting) (names : NamesValues s.program) (all : CallsWithValues s.call) where
  cells_make : (n : ℕ) (given : List Cell) → HaveCells given → Makes Anything (cells_given s n given)
  cells_make n [] h = nothing_makes
  cells_make n (c ∷ rest) h = λ w holds.
      then_makes IsValue Anything _ _ (value_makes s names all c.value h.0)
      (λ x i. then_makes Anything Anything _ _
      (remembers_makes (row_of s n).line (λ memory. write_of memory (slice_index w.locals n + c.index) x) (λ m k. write_holds m (slice_index w.locals n + c.index) x k i))
      (λ done k. cells_make n rest h.1)) w holds

  initializes_makes : (n : ℕ) (i : Option Initializer) → HasInitial i → Makes Anything (initializes s n i)
  initializes_makes n None h = nothing_makes
  initializes_makes n (Some (scalar e)) h =
      then_makes IsAt Anything _ _ (local_makes s n (row_of s n).type (row_of s n).line) λ l at.
      then_makes IsValue Anything _ _ (value_makes s names all e h) (λ x i. store_makes l x i)
  initializes_makes n (Some (cells given)) h = cells_make n given h

  all_initialize_makes : (locals : List LocalItem) → HaveInitials locals → Makes Anything (all_initialize s locals)
  all_initialize_makes [] h = nothing_makes
  all_initialize_makes (local ∷ rest) h =
      then_makes Anything Anything _ _ (initializes_makes local.number local.initializer h.0) (λ done k. all_initialize_makes rest h.1)

  value_or_makes : (n : ℕ) (e : Option Value) → IsValue n → MayHaveValues e → Makes IsValue (value_or n s e)
  value_or_makes n None small h = λ w holds. (small, holds)
  value_or_makes n (Some e) small h = value_makes s names all e h

  for_makes : (first : ForStart) (loop : Doing Completion) → HasStart first → Makes IsDone loop → Makes IsDone (in_for s first loop)
  for_makes (starts e) loop h k = then_makes IsValue IsDone _ _ (value_or_makes 0 e (omega arith) h) (λ x i. k)
  for_makes (declares locals) loop h k =
      block_makes s (numbers_of locals) _ (then_makes Anything IsDone _ _ (all_initialize_makes locals h) (λ done l. k))

  module _ (most : ℕ) where
    mutual
      unfolding IsDone HasStatement executes

      statement_makes : (u : Stmt) → HasStatement u → Makes IsDone (executes s most u)
      statement_makes (block line items end) h = block_makes s (locals_of items) _ (items_make items h)
      statement_makes (empty line) h = λ w holds. (tt, holds)
      statement_makes (expression line e) h = then_makes IsValue IsDone _ _ (value_makes s names all e h) (λ x i w holds. (tt, holds))
      statement_makes (if_only line e a) h =
          then_makes IsValue IsDone _ _ (value_makes s names all e h.0) λ x i.
          either_makes IsDone (x == 0) _ _ (λ w holds. (tt, holds)) (statement_makes a h.1)
      statement_makes (if_else line e a b) h =
          then_makes IsValue IsDone _ _ (value_makes s names all e h.0) λ x i.
          either_makes IsDone (x == 0) _ _ (statement_makes b h.2) (statement_makes a h.1)
      statement_makes (while line e a) h =
          rounds_make s.part line _ most
          (round_of_for_makes _ (pure 0) _ (value_makes s names all e h.0) (λ w holds. (omega arith, holds)) (statement_makes a h.1))
      statement_makes (do_while line a e) h =
          rounds_make s.part line _ most (round_of_do_makes _ _ (value_makes s names all e h.1) (statement_makes a h.0))
      statement_makes (for line first e step a) h =
          for_makes first _ h.0
          (rounds_make s.part line _ most
          (round_of_for_makes _ _ _ (value_or_makes 1 e (omega arith) h.1) (value_or_makes 0 step (omega arith) h.2) (statement_makes a h.3)))
      statement_makes (continue line) h = λ w holds. (tt, holds)
      statement_makes (break line) h = λ w holds. (tt, holds)
      statement_makes (return line e) h =
          then_makes IsValue IsDone _ _ (value_or_makes 0 e (omega arith) h) (λ x i w holds. (i, holds))

      pub items_make : (items : Items) → HasItems items → Makes IsDone (executes_items s most items)
      items_make no_items h = λ w holds. (tt, holds)
      items_make (declaration locals rest) h =
          then_makes Anything IsDone _ _ (all_initialize_makes locals h.0) (λ done k. items_make rest h.1)
      items_make (statement first rest) h =
          then_makes IsDone IsDone _ _ (statement_makes first h.0) λ c d. normal_makes c _ d (items_make rest h.1)

object_takes_makes : (s : Setting) (n v : ℕ) → IsValue v → Makes Anything (object_takes s n v)
object_takes_makes s n v small =
    then_makes Anything Anything _ _ (object_begins_makes s n) λ begun h w holds.
    remembers_makes (row_of s n).line (λ memory. write_of memory (slice_index w.locals n) v)
    (λ m k. write_holds m (slice_index w.locals n) v k small) w holds

parameters_make : (s : Setting) (n : ℕ) (arguments : List ℕ) → AreValues arguments → Makes Anything (parameters_begin s n arguments)
parameters_make s n [] h = nothing_makes
parameters_make s n (v ∷ rest) h =
    then_makes Anything Anything _ _
    (either_makes Anything (row_of s n).is_placed _ _ (object_takes_makes s n v h.0) (set_local_makes n v h.0))
    (λ done k. parameters_make s (suc n) rest h.1)

returned_small : (c : Completion) → IsDone c → IsValue (value_returned c)
unfolding IsDone
returned_small normal d = omega arith
returned_small continues d = omega arith
returned_small breaks d = omega arith
returned_small (returns v) d = d

body_makes : (s : Setting) (most : ℕ) → NamesValues s.program → CallsWithValues s.call → (f : Function) (arguments : List ℕ) → HasItems f.body
    → AreValues arguments → Makes IsValue (body_of s most f arguments)
body_makes s most names all f arguments h small w holds =
    then_makes Anything IsValue _ _ (parameters_make s 0 arguments small)
    (λ begun k. then_makes IsDone IsValue _ _ (block_makes s (locals_of f.body) _ (items_make s names all most f.body h))
    (λ c d. then_makes Anything IsValue _ _ (all_end_makes s (numbers_below f.parameters))
    (λ ended l u still. (returned_small c d, record { protected = still.protected; binary = still.binary; input = still.input; locals = holds.locals }))))
    (record w { locals = replicate (length f.locals) 0 })
    (record { protected = holds.protected; binary = holds.binary; input = holds.input; locals = zeros_small (length f.locals) })

entered_makes : (line : ℕ) (part : Part) (function : Option Function) (body : Function → Doing ℕ)
    → ((f : Function) → function ≡ Some f → Makes IsValue (body f)) → Makes IsValue (entered line part function body)
entered_makes line part None body h = λ w holds. tt
entered_makes line part (Some f) body h =
    then_makes Anything IsValue _ _ (spends_makes f.line (enter_of part)) λ done k.
    then_makes IsValue IsValue _ _ (h f refl)
    (λ v small w holds. (small, record { protected = holds.protected; binary = holds.binary; input = holds.input; locals = holds.locals }))

pub calls_make : (program : Program) → CallsGiveValues program
unfolding calls
calls_make program fit zero line number arguments small =
    entered_makes line (part_of_function program number) (function_at program number) _ (λ f found w holds. tt)
calls_make program fit (suc most) line number arguments small =
    entered_makes line (part_of_function program number) (function_at program number) _
    (λ f found. body_makes (setting_of program number f (calls program most)) most fit.names (calls_make program fit most) f arguments
    (fit.bodies number f found) small)
