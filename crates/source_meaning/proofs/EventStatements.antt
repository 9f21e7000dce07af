-- What a statement and a call cost.
use Rattle.std.proofs.Common.{◌≡◌, ℕ, zero, suc, ◌+◌, ◌==◌, ◌≤◌, List, [], ◌∷◌, length, refl, Option, Some, None, arith}
use Rattle.std.proofs.lemmas.List.{length-append}
use Rattle.std.specs.Prelude.{slice_index, replicate, ◌%◌}
use Rattle.srmt_base.specs.declared.event.Event.TheVariants.{Exit as ExitEvent}
use Rattle.srmt_base.specs.declared.limits.Limits.{Limits}
use Rattle.srmt_base.specs.declared.part.Part.{Part}
use Rattle.srmt_base.specs.Budgets.{leave_of}
use Rattle.srmt_base.specs.Objects.{pointer_to}
use Rattle.srmt_base.specs.Memory.{write_of, begin_of, next_number}
use Rattle.c_types.specs.Types.{cells_of}
use Rattle.c_typed.specs.Typed.{Value}
use Rattle.c_typed.specs.Statements.{Cell, Initializer, scalar, cells, LocalItem, ForStart, starts, declares, Stmt, block, empty, expression, if_only, if_else, while, do_while, for, continue, break, return, Items, no_items, declaration, statement, Function, Program}
use Rattle.source_meaning.specs.World.{Outcome, Gives, Ends, Doing, pure, becomes, remembers, set_local, exits}
use Rattle.source_meaning.specs.Places.{Setting, row_of, function_at, part_of_function, value_of_entity, object_begins, all_begin, all_end}
use Rattle.source_meaning.specs.Expressions.{value_of}
use Rattle.source_meaning.specs.Statements.{Completion, normal, continues, breaks, returns, if_normal, if_continued, if_again, rounds, round_of_for, round_of_do, in_block, numbers_of, cells_given, initializes, all_initialize, value_or, in_for, executes, executes_items, locals_of}
use Rattle.source_meaning.specs.Calls.{object_takes, parameters_begin, numbers_below, body_of, entered, setting_of, calls}
use Rattle.source_meaning.specs.Start.{behaviour_of, runs_main, started, means}
use Rattle.source_meaning.specs.EventLaws.{events_of, events_if, events_of_cells, events_of_initial, events_of_locals, events_first, events_of_statement, events_of_items, HasShortFunctions, HasFewEvents}
use Rattle.source_meaning.proofs.EventLemmas.{CostsAtMost, Costs, held, then_costs, then_free, either_costs, cost_wider, pure_costs, remembers_costs, turn_then, entry_then, leave_costs}
use Rattle.source_meaning.proofs.EventExpressions.{local_costs, store_costs, nothing_costs, value_costs}

object_begins_costs : (s : Setting) (n : ℕ) → CostsAtMost 0 (object_begins s n)
object_begins_costs s n w =
    then_free 0 (remembers (row_of s n).line (λ memory. begin_of s.part memory (cells_of (row_of s n).type.type)))
    (λ done. set_local n (pointer_to (next_number s.part w.memory) 0))
    (remembers_costs (row_of s n).line (λ memory. begin_of s.part memory (cells_of (row_of s n).type.type))) (λ done u. omega arith) w

all_begin_costs : (s : Setting) (locals : List ℕ) → CostsAtMost 0 (all_begin s locals)
all_begin_costs s [] = nothing_costs
all_begin_costs s (n ∷ rest) =
    then_free 0 _ _ (cost_wider (0 + 0) 0 _ (omega arith) (either_costs 0 0 (row_of s n).is_placed _ _ (object_begins_costs s n) (λ w. omega arith)))
    (λ done. all_begin_costs s rest)

all_end_costs : (s : Setting) (locals : List ℕ) → CostsAtMost 0 (all_end s locals)
all_end_costs s [] = nothing_costs
all_end_costs s (n ∷ rest) =
    then_free 0 _ _ (all_end_costs s rest)
    (λ done. cost_wider (0 + 0) 0 _ (omega arith) (either_costs 0 0 (row_of s n).is_placed _ _ (λ w. omega arith) nothing_costs))

block_costs : (s : Setting) (locals : List ℕ) (k : ℕ) (body : Doing Completion) → CostsAtMost k body → CostsAtMost k (in_block s locals body)
block_costs s locals k body h =
    cost_wider (0 + k) k _ (omega arith)
    (then_costs 0 k _ _ (all_begin_costs s locals) λ begun.
    then_free k _ _ h λ c. then_free 0 _ _ (all_end_costs s locals) (λ ended w. omega arith))

normal_costs : (k : ℕ) (c : Completion) (m : Doing Completion) → CostsAtMost k m → CostsAtMost k (if_normal c m)
normal_costs k normal m h = h
normal_costs k continues m h = λ w. omega arith
normal_costs k breaks m h = λ w. omega arith
normal_costs k (returns v) m h = λ w. omega arith

continued_costs : (k : ℕ) (c : Completion) (m : Doing Completion) → CostsAtMost k m → CostsAtMost k (if_continued c m)
continued_costs k normal m h = h
continued_costs k continues m h = h
continued_costs k breaks m h = λ w. omega arith
continued_costs k (returns v) m h = λ w. omega arith

again_costs : (c : Completion) (m : Doing Completion) → CostsAtMost 0 m → CostsAtMost 0 (if_again c m)
again_costs normal m h = h
again_costs continues m h = h
again_costs breaks m h = λ w. omega arith
again_costs (returns v) m h = λ w. omega arith

rounds_cost : (part : Part) (line k : ℕ) (round : Doing Completion) (n : ℕ) → k ≤ 1048576 → CostsAtMost k round → CostsAtMost 0 (rounds n part line round)
rounds_cost part line k round zero low h = turn_then 0 line part _ (omega arith) (λ done w. omega arith)
rounds_cost part line k round (suc n) low h =
    turn_then k line part _ low λ done. then_free k _ _ h λ c. again_costs c _ (rounds_cost part line k round n low h)

round_of_for_costs : (i j k : ℕ) (test step : Doing ℕ) (body : Doing Completion) → CostsAtMost i test → CostsAtMost j step → CostsAtMost k body
    → CostsAtMost (i + (k + j)) (round_of_for test body step)
round_of_for_costs i j k test step body h l m =
    then_costs i (k + j) _ _ h λ x.
    cost_wider (0 + (k + j)) (k + j) _ (omega arith)
    (either_costs 0 (k + j) (x == 0) _ _ (λ w. omega arith)
    (then_costs k j _ _ m λ c. continued_costs j c _ (then_free j _ _ l (λ y w. omega arith))))

round_of_do_costs : (i k : ℕ) (test : Doing ℕ) (body : Doing Completion) → CostsAtMost i test → CostsAtMost k body
    → CostsAtMost (k + i) (round_of_do body test)
round_of_do_costs i k test body h m =
    then_costs k i _ _ m λ c.
    continued_costs i c _
    (then_free i _ _ h λ x. cost_wider (0 + 0) 0 _ (omega arith) (either_costs 0 0 (x == 0) _ _ (λ w. omega arith) (λ w. omega arith)))

module _ (s : Setting) (all : (line number : ℕ) (arguments : List ℕ) → CostsAtMost 0 (s.call line number arguments)) where
  cells_cost : (n : ℕ) (given : List Cell) → CostsAtMost (events_of_cells given) (cells_given s n given)
  cells_cost n [] = nothing_costs
  cells_cost n (c ∷ rest) = λ w.
      then_costs (events_of c.value) (events_of_cells rest) (value_of s c.value) _ (value_costs s all c.value)
      (λ x. cost_wider (0 + events_of_cells rest) (events_of_cells rest) _ (omega arith)
      (then_costs 0 (events_of_cells rest) _ _
      (remembers_costs (row_of s n).line (λ memory. write_of memory (slice_index w.locals n + c.index) x)) (λ done. cells_cost n rest))) w

  initializes_costs : (n : ℕ) (i : Option Initializer) → CostsAtMost (events_of_initial i) (initializes s n i)
  initializes_costs n None = nothing_costs
  initializes_costs n (Some (scalar e)) =
      cost_wider (0 + (events_of e + 1)) (events_of e + 1) _ (omega arith)
      (then_costs 0 (events_of e + 1) _ _ (local_costs s n (row_of s n).type (row_of s n).line) λ l.
      then_costs (events_of e) 1 _ _ (value_costs s all e) (λ x. store_costs l x))
  initializes_costs n (Some (cells given)) = cells_cost n given

  all_initialize_costs : (locals : List LocalItem) → CostsAtMost (events_of_locals locals) (all_initialize s locals)
  all_initialize_costs [] = nothing_costs
  all_initialize_costs (local ∷ rest) =
      then_costs (events_of_initial local.initializer) (events_of_locals rest) _ _ (initializes_costs local.number local.initializer)
      (λ done. all_initialize_costs rest)

  value_or_costs : (n : ℕ) (e : Option Value) → CostsAtMost (events_if e) (value_or n s e)
  value_or_costs n None = λ w. omega arith
  value_or_costs n (Some e) = value_costs s all e

  for_costs : (first : ForStart) (k : ℕ) (loop : Doing Completion) → CostsAtMost k loop → CostsAtMost (events_first first + k) (in_for s first loop)
  for_costs (starts e) k loop h = then_costs (events_if e) k _ _ (value_or_costs 0 e) (λ x. h)
  for_costs (declares locals) k loop h =
      block_costs s (numbers_of locals) (events_of_locals locals + k) _
      (then_costs (events_of_locals locals) k _ _ (all_initialize_costs locals) (λ done. h))

  module _ (most : ℕ) where
    mutual
      unfolding events_of_statement executes

      statement_costs : (u : Stmt) → events_of_statement u ≤ 1048576 → CostsAtMost (events_of_statement u) (executes s most u)
      statement_costs (block line items end) low = block_costs s (locals_of items) (events_of_items items) _ (items_cost items low)
      statement_costs (empty line) low = λ w. omega arith
      statement_costs (expression line e) low = then_free (events_of e) _ _ (value_costs s all e) (λ x w. omega arith)
      statement_costs (if_only line e a) low =
          then_costs (events_of e) (events_of_statement a) _ _ (value_costs s all e) λ x.
          cost_wider (0 + events_of_statement a) (events_of_statement a) _ (omega arith)
          (either_costs 0 (events_of_statement a) (x == 0) _ _ (λ w. omega arith) (statement_costs a (omega (arith, low))))
      statement_costs (if_else line e a b) low =
          then_costs (events_of e) (events_of_statement a + events_of_statement b) _ _ (value_costs s all e) λ x.
          cost_wider (events_of_statement b + events_of_statement a) (events_of_statement a + events_of_statement b) _ (omega arith)
          (either_costs (events_of_statement b) (events_of_statement a) (x == 0) _ _ (statement_costs b (omega (arith, low)))
          (statement_costs a (omega (arith, low))))
      statement_costs (while line e a) low =
          cost_wider 0 (events_of e + events_of_statement a) _ (omega arith)
          (rounds_cost s.part line (events_of e + (events_of_statement a + 0)) _ most (omega (arith, low))
          (round_of_for_costs (events_of e) 0 (events_of_statement a) _ (pure 0) _ (value_costs s all e) (λ w. omega arith)
          (statement_costs a (omega (arith, low)))))
      statement_costs (do_while line a e) low =
          cost_wider 0 (events_of_statement a + events_of e) _ (omega arith)
          (rounds_cost s.part line (events_of_statement a + events_of e) _ most low
          (round_of_do_costs (events_of e) (events_of_statement a) _ _ (value_costs s all e) (statement_costs a (omega (arith, low)))))
      statement_costs (for line first e step a) low =
          cost_wider (events_first first + 0) (events_first first + (events_if e + (events_of_statement a + events_if step))) _ (omega arith)
          (for_costs first 0 _
          (rounds_cost s.part line (events_if e + (events_of_statement a + events_if step)) _ most (omega (arith, low))
          (round_of_for_costs (events_if e) (events_if step) (events_of_statement a) _ _ _ (value_or_costs 1 e) (value_or_costs 0 step)
          (statement_costs a (omega (arith, low))))))
      statement_costs (continue line) low = λ w. omega arith
      statement_costs (break line) low = λ w. omega arith
      statement_costs (return line e) low = then_free (events_if e) _ _ (value_or_costs 0 e) (λ x w. omega arith)

      pub items_cost : (items : Items) → events_of_items items ≤ 1048576 → CostsAtMost (events_of_items items) (executes_items s most items)
      items_cost no_items low = λ w. omega arith
      items_cost (declaration locals rest) low =
          then_costs (events_of_locals locals) (events_of_items rest) _ _ (all_initialize_costs locals) (λ done. items_cost rest (omega (arith, low)))
      items_cost (statement first rest) low =
          then_costs (events_of_statement first) (events_of_items rest) _ _ (statement_costs first (omega (arith, low)))
          (λ c. normal_costs (events_of_items rest) c _ (items_cost rest (omega (arith, low))))

object_takes_costs : (s : Setting) (n v : ℕ) → CostsAtMost 0 (object_takes s n v)
object_takes_costs s n v =
    then_free 0 _ _ (object_begins_costs s n) λ begun w.
    remembers_costs (row_of s n).line (λ memory. write_of memory (slice_index w.locals n) v) w

parameters_cost : (s : Setting) (n : ℕ) (arguments : List ℕ) → CostsAtMost 0 (parameters_begin s n arguments)
parameters_cost s n [] = nothing_costs
parameters_cost s n (v ∷ rest) =
    then_free 0 _ _
    (cost_wider (0 + 0) 0 _ (omega arith) (either_costs 0 0 (row_of s n).is_placed _ _ (object_takes_costs s n v) (λ w. omega arith)))
    (λ done. parameters_cost s (suc n) rest)

body_costs : (s : Setting) (most : ℕ) → ((line number : ℕ) (arguments : List ℕ) → CostsAtMost 0 (s.call line number arguments)) → (f : Function) (arguments : List ℕ)
    → events_of_items f.body ≤ 1048576 → CostsAtMost (events_of_items f.body) (body_of s most f arguments)
body_costs s most all f arguments low w =
    cost_wider (0 + events_of_items f.body) (events_of_items f.body) _ (omega arith)
    (then_costs 0 (events_of_items f.body) _ _ (parameters_cost s 0 arguments)
    (λ begun. then_free (events_of_items f.body) _ _ (block_costs s (locals_of f.body) (events_of_items f.body) _ (items_cost s all most f.body low))
    (λ c. then_free 0 _ _ (all_end_costs s (numbers_below f.parameters)) (λ ended u. omega arith))))
    (record w { locals = replicate (length f.locals) 0 })

entered_costs : (line : ℕ) (part : Part) (function : Option Function) (size : Function → ℕ) (body : Function → Doing ℕ)
    → ((f : Function) → function ≡ Some f → size f ≤ 1048576) → ((f : Function) → function ≡ Some f → CostsAtMost (size f) (body f))
    → CostsAtMost 0 (entered line part function body)
entered_costs line part None size body low h = λ w. omega arith
entered_costs line part (Some f) size body low h =
    entry_then (size f) f.line part _ (low f refl) λ done.
    then_free (size f) _ _ (h f refl) λ v. then_free {A = Unit {0}} 0 (becomes (λ w. record w { budgets = leave_of part w.budgets })) (λ left. pure v) (leave_costs part) (λ left. pure_costs v)

calls_cost : (program : Program) → HasShortFunctions program → (most line number : ℕ) (arguments : List ℕ) → CostsAtMost 0 (calls program most line number arguments)
unfolding calls
calls_cost program short zero line number arguments =
    entered_costs line (part_of_function program number) (function_at program number) (λ f. 0) _ (λ f found. omega arith) (λ f found w. omega arith)
calls_cost program short (suc most) line number arguments =
    entered_costs line (part_of_function program number) (function_at program number) (λ f. events_of_items f.body) _ (λ f found. short number f found)
    (λ f found. body_costs (setting_of program number f (calls program most)) most (calls_cost program short most) f arguments (short number f found))

events_within : (o : Outcome ⊥) (most : ℕ) → Costs most o → length (behaviour_of o).events ≤ most
events_within (Gives nothing w) most h = absurd nothing
events_within (Ends end events) most h = h

exit_costs : (v : ℕ) → CostsAtMost {A = ⊥} 1 (exits v)
exit_costs v w = omega (arith, length-append w.events (ExitEvent (v % 256) ∷ []))

pub few_events : (program : Program) (input : List ℕ) (limits : Limits) → HasFewEvents program input limits
unfolding means
few_events program input limits short fit =
    let whole = then_costs 0 1 (calls program (limits.turns + limits.turns) 0 (value_of_entity program program.main) []) (λ v. exits v)
    (calls_cost program short (limits.turns + limits.turns) 0 (value_of_entity program program.main) []) exit_costs (started program input limits) in
    omega (arith, fit, events_within (runs_main program limits (started program input limits)) (held (started program input limits) + (0 + 1)) whole)
