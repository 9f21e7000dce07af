use Rattle.std.proofs.Common.{Err, refl, ◌∙◌, ap, ◌≡◌, suc, if◌then◌else◌}
use Rattle.lower.specs.Emits.{rows_of, types_of, inside_view, located_view, change_view}
use Rattle.lower.proofs.Steps.{exits, memory, step, stop, given, same-making}
use Rattle.lower.proofs.Deciding.{operand-refused, test-refused, decided, first-operand-refused, first-join-refused, second-operand-refused, second-join-refused, chose}
use Rattle.lower.proofs.Operands.{value-at, address-at, location-at}
use Rattle.lower.proofs.Rows.{local-row, static-row, text-row, pointed-row, element-row, register-row, memory-row, constant-row, null-row, function-row, read-row, first_element-row, address-row, minus-row, complement-row, negation-row, arithmetic-row, sum-row, difference-row, comparison-row, conjunction-row, disjunction-row, choice-row, sequence-row, assignment-row, update-row, move-row, conversion-row, to_bool-row, requalified-row, discarded-row, call-row, call_through-row, putchar-row, getchar-row, exit-row}
use Rattle.lower.proofs.ValueLists.{has-room, values-begin, values-next, values-refused, values-end, drops-begin, drops-next, drops-refused, drops-end}
use Rattle.c_typed.specs.Views.{value_view}
use Rattle.c_types.specs.Types.{ty_of}
use Rattle.lower.proofs.Changing.{free-after, free-before, widened-at, value-at as value-from, changed-at}
use Rattle.lower.proofs.values.+value.Goals.{update-then-by+in_ok-behind+in_ok-free, update-else-by+in_ok-free-2}
use Rattle.lower.proofs.values.+value.Goals as goal

pub decide-returns-in_err-waits : goal.decide-returns-in_err-waits
decide-returns-in_err-waits t c = memory (exits c.from_residual.result _ c.from_residual.ensures.1 ∙ ap Err c.in_err-waits.ensures)

pub decide-returns-in_err-second : goal.decide-returns-in_err-second
decide-returns-in_err-second t c =
    operand-refused _ _ _ _ _ _ _ _ _ _ _ _ c.in_ok-waits.ensures c.in_err-second.ensures
    (exits c.from_residual-in_err-second.result _ c.from_residual-in_err-second.ensures.1)

pub decide-returns-in_err-target : goal.decide-returns-in_err-target
decide-returns-in_err-target t c =
    test-refused _ _ _ _ _ _ _ _ _ _ _ _ _ _ c.in_ok-waits.ensures c.in_ok-second.ensures (c.in_err-target.ensures (rows_of c.args.at))
    (exits c.from_residual-in_err-target.result _ c.from_residual-in_err-target.ensures.1)

pub decide-returns : goal.decide-returns
decide-returns t c =
    decided _ _ _ _ _ _ _ _ _ _ _ _ _ _ _ _ _ c.in_ok-waits.ensures c.in_ok-second.ensures (c.in_ok-target.ensures (rows_of c.args.at))
    c.lead_here.ensures.allotted c.lead_here.ensures.led c.from.ensures (c.set.ensures (rows_of c.args.at))

pub address-returns-in_err-number_of_text-in-Text : goal.address-returns-in_err-number_of_text-in-Text
address-returns-in_err-number_of_text-in-Text t c =
    memory (exits c.from_residual.result _ c.from_residual.ensures.1 ∙ ap Err c.in_err-number_of_text-in-Text.ensures.memory)

pub address-returns-in-Local : goal.address-returns-in-Local
address-returns-in-Local t c =
    same-making (local-row (inside_view c.args.at) (types_of c.args.at) c.args.place.now _ c.args.k c.in-Local.is) (c.local_address.ensures (rows_of
    c.args.at))

pub address-returns-in-Static : goal.address-returns-in-Static
address-returns-in-Static t c =
    same-making (static-row (inside_view c.args.at) (types_of c.args.at) c.args.place.now _ _ c.args.k c.in-Static.is c.number_of.ensures)
    (c.object_address.ensures (rows_of c.args.at))

pub address-returns-in_ok-number_of_text-in-Text : goal.address-returns-in_ok-number_of_text-in-Text
address-returns-in_ok-number_of_text-in-Text t c =
    same-making (text-row (inside_view c.args.at) (types_of c.args.at) c.args.place.now _ _ c.args.k c.in-Text.is
    c.in_ok-number_of_text-in-Text.ensures.same) (c.object_address-in-Text.ensures (rows_of c.args.at))

pub address-returns-in-Pointed : goal.address-returns-in-Pointed
address-returns-in-Pointed t c =
    same-making (pointed-row (inside_view c.args.at) (types_of c.args.at) c.args.place.now _ c.args.k c.in-Pointed.is) (value-at (inside_view c.args.at)
    (types_of c.args.at) _ c.get.ensures c.value.ensures)

pub arguments-loop-e-init : goal.arguments-loop-e-init
arguments-loop-e-init t c =
    values-begin (inside_view c.args.at) (types_of c.args.at) (rows_of c.args.at) c.args.es.now _ c.args.k _ _ c.as_slice-e-items.ensures
    c.new-found.ensures

pub arguments-returns-in_err-register : goal.arguments-returns-in_err-register
arguments-returns-in_err-register t c =
    values-refused (inside_view c.args.at) (types_of c.args.at) (rows_of c.args.at) c.args.es.now c.args.k _ c.loop-e.out _ c.as_slice-e-items.result.now
    c.loop-e.e-index c.loop-e.free _ _ _ _ _ c.loop-e-test.true c.e-item.is c.get.ensures (exits c.from_residual.result _ c.from_residual.ensures.1)
    c.loop-e.invariant c.in_err-register.ensures

pub arguments-returns-then-is_full : goal.arguments-returns-then-is_full
arguments-returns-then-is_full t c = memory refl

pub arguments-returns-in_err-free : goal.arguments-returns-in_err-free
arguments-returns-in_err-free t c =
    memory (exits c.from_residual-in_err-free.result _ c.from_residual-in_err-free.ensures.1 ∙ ap Err c.in_err-free.ensures.memory)

pub arguments-loop-e-preserved : goal.arguments-loop-e-preserved
arguments-loop-e-preserved t c =
    values-next (inside_view c.args.at) (types_of c.args.at) (rows_of c.args.at) c.args.es.now c.args.k _ c.loop-e.out _ c.as_slice-e-items.result.now
    c.loop-e.e-index c.loop-e.free _ _ _ _ _ _ _ c.loop-e-test.true c.e-item.is c.get.ensures c.get-in-loop-e.ensures c.in_ok-free.ensures.next
    c.push.ensures c.loop-e.invariant c.in_ok-register.ensures

pub arguments-returns : goal.arguments-returns
arguments-returns t c =
    values-end (inside_view c.args.at) (types_of c.args.at) (rows_of c.args.at) c.args.es.now c.args.k _ c.loop-e.out c.as_slice-e-items.result.now
    c.loop-e.e-index c.loop-e.free c.loop-e.found c.loop-e-test.false c.loop-e.invariant

pub change_pointer-returns-in_err-change : goal.change_pointer-returns-in_err-change
change_pointer-returns-in_err-change t c = stop _ refl (exits c.from_residual.result _ c.from_residual.ensures.1) c.in_err-change.ensures

pub change_pointer-returns-in_err-index : goal.change_pointer-returns-in_err-index
change_pointer-returns-in_err-index t c =
    step _ refl c.in_ok-change.ensures
    (stop _ refl (exits c.from_residual-in_err-index.result _ c.from_residual-in_err-index.ensures.1) c.in_err-index.ensures)

pub change_pointer-returns : goal.change_pointer-returns
change_pointer-returns t c = step _ refl c.in_ok-change.ensures (step _ refl c.in_ok-index.ensures c.end_move.ensures)

pub drop_all-loop-e-init : goal.drop_all-loop-e-init
drop_all-loop-e-init t c = drops-begin (inside_view c.args.at) (types_of c.args.at) (rows_of c.args.at) c.as_slice-e-items.result.now c.args.k _

pub drop_all-returns-in_err-value : goal.drop_all-returns-in_err-value
drop_all-returns-in_err-value t c =
    drops-refused (inside_view c.args.at) (types_of c.args.at) (rows_of c.args.at) c.args.es.now _ c.loop-e.out _ c.as_slice-e-items.result.now c.args.k
    c.loop-e.e-index _ _ _ _ c.as_slice-e-items.ensures c.loop-e-test.true c.e-item.is c.get.ensures (exits c.from_residual.result _
    c.from_residual.ensures.1) c.loop-e.invariant c.in_err-value.ensures

pub drop_all-loop-e-preserved : goal.drop_all-loop-e-preserved
drop_all-loop-e-preserved t c =
    drops-next (inside_view c.args.at) (types_of c.args.at) (rows_of c.args.at) _ c.loop-e.out _ c.as_slice-e-items.result.now c.args.k c.loop-e.e-index _
    _ _ c.loop-e-test.true c.e-item.is c.get.ensures c.loop-e.invariant c.in_ok-value.ensures

pub drop_all-returns : goal.drop_all-returns
drop_all-returns t c =
    drops-end (inside_view c.args.at) (types_of c.args.at) (rows_of c.args.at) c.args.es.now _ c.loop-e.out c.as_slice-e-items.result.now c.args.k
    c.loop-e.e-index c.as_slice-e-items.ensures c.loop-e-test.false c.loop-e.invariant

pub location-returns-in_err-pointer-in-Memory : goal.location-returns-in_err-pointer-in-Memory
location-returns-in_err-pointer-in-Memory t c =
    stop _ (memory-row (inside_view c.args.at) (types_of c.args.at) c.args.place.now _ _ _ c.args.k c.where_is.ensures c.in-Memory.is) (exits
    c.from_residual.result _ c.from_residual.ensures.1) c.in_err-pointer-in-Memory.ensures

pub location-returns-in-Register : goal.location-returns-in-Register
location-returns-in-Register t c =
    step _ (register-row (inside_view c.args.at) (types_of c.args.at) c.args.place.now _ _ c.args.k c.where_is.ensures c.in-Register.is) (c.home.ensures
    (rows_of c.args.at)) given

pub location-returns-in_ok-pointer-in-Memory : goal.location-returns-in_ok-pointer-in-Memory
location-returns-in_ok-pointer-in-Memory t c =
    step _ (memory-row (inside_view c.args.at) (types_of c.args.at) c.args.place.now _ _ _ c.args.k c.where_is.ensures c.in-Memory.is)
    c.in_ok-pointer-in-Memory.ensures given

pub update-returns-in_err-begun : goal.update-returns-in_err-begun
update-returns-in_err-begun t c = stop _ refl (exits c.from_residual.result _ c.from_residual.ensures.1) c.in_err-begun.ensures

pub update-returns-in_err-change : goal.update-returns-in_err-change
update-returns-in_err-change t c =
    step _ refl c.in_ok-begun.ensures (stop _ refl (exits c.from_residual-in_err-change.result _ c.from_residual-in_err-change.ensures.1)
    (widened-at c.args.by.first c.ty.result (ty_of (types_of c.args.at c.args.of)) c.args.by.ty (change_view c.in_ok-begun.begun) c.ty.ensures
    (c.in_err-change.ensures _)))

pub update-returns-in_err-behind : goal.update-returns-in_err-behind
update-returns-in_err-behind t c =
    memory (exits c.from_residual-in_err-behind.result _ c.from_residual-in_err-behind.ensures.1 ∙ ap Err c.in_err-behind.ensures.memory)

pub update-returns-in_err-free : goal.update-returns-in_err-free
update-returns-in_err-free t c =
    memory (exits c.from_residual-in_err-free.result _ c.from_residual-in_err-free.ensures.1 ∙ ap Err c.in_err-free.ensures.memory)

pub update-returns-in_err-free-2 : goal.update-returns-in_err-free-2
update-returns-in_err-free-2 t c =
    memory (exits c.from_residual-in_err-free-2.result _ c.from_residual-in_err-free-2.ensures.1 ∙ ap Err c.in_err-free-2.ensures.memory)

pub update-returns-in_err-right : goal.update-returns-in_err-right
update-returns-in_err-right t c =
    step _ refl c.in_ok-begun.ensures (step _ refl
    (widened-at c.args.by.first c.ty.result (ty_of (types_of c.args.at c.args.of)) c.args.by.ty (change_view c.in_ok-begun.begun) c.ty.ensures
    (c.in_ok-change.ensures _))
    (stop _ refl (exits c.from_residual-in_err-right.result _ c.from_residual-in_err-right.ensures.1)
    (value-from (inside_view c.args.at) (value_view (types_of c.args.at) c.args.e.now) c.if-by.free _ free-is c.in_err-right.ensures)))
  where
    free-is : c.if-by.free ≡ (if c.args.by.is_after then suc (suc c.args.k) else suc c.args.k)
    free-is =
        elim c.if-by.branch [
          | update-then-by+in_ok-behind+in_ok-free w ↦ free-after _ _ _ _ _ w.if-by.true w.in_ok-behind.ensures.next w.in_ok-free.ensures.next w.free-is
          | update-else-by+in_ok-free-2 w ↦ free-before _ _ _ _ w.if-by.false w.in_ok-free-2.ensures.next w.free-is
        ]

pub update-returns : goal.update-returns
update-returns t c =
    step _ refl c.in_ok-begun.ensures (step _ refl
    (widened-at c.args.by.first c.ty.result (ty_of (types_of c.args.at c.args.of)) c.args.by.ty (change_view c.in_ok-begun.begun) c.ty.ensures
    (c.in_ok-change.ensures _))
    (step _ refl (value-from (inside_view c.args.at) (value_view (types_of c.args.at) c.args.e.now) c.if-by.free _ free-is c.in_ok-right.ensures)
    (changed-at c.args.by.is_after c.args.by.op c.args.by.ty c.ty-2.result (ty_of (types_of c.args.at c.args.of)) c.args.by.at c.args.line
    (located_view c.args.located) (change_view c.in_ok-change.change) c.in_ok-right.right c.ty-2.ensures (c.end_update.ensures _))))
  where
    free-is : c.if-by.free ≡ (if c.args.by.is_after then suc (suc c.args.k) else suc c.args.k)
    free-is =
        elim c.if-by.branch [
          | update-then-by+in_ok-behind+in_ok-free w ↦ free-after _ _ _ _ _ w.if-by.true w.in_ok-behind.ensures.next w.in_ok-free.ensures.next w.free-is
          | update-else-by+in_ok-free-2 w ↦ free-before _ _ _ _ w.if-by.false w.in_ok-free-2.ensures.next w.free-is
        ]

pub value-returns-in_err-function_number-in-Function : goal.value-returns-in_err-function_number-in-Function
value-returns-in_err-function_number-in-Function t c =
    memory (exits c.from_residual.result _ c.from_residual.ensures.1 ∙ ap Err c.in_err-function_number-in-Function.ensures.memory)

pub value-returns-in_err-located-in-Read : goal.value-returns-in_err-located-in-Read
value-returns-in_err-located-in-Read t c =
    stop _ (read-row (inside_view c.args.at) (types_of c.args.at) c.args.value.now _ c.args.k c.in-Read.is) (exits
    c.from_residual-in_err-located-in-Read.result _ c.from_residual-in_err-located-in-Read.ensures.1) (location-at (inside_view c.args.at) (types_of
    c.args.at) _ c.get.ensures c.in_err-located-in-Read.ensures)

pub value-returns-in_err-operand-in-Minus : goal.value-returns-in_err-operand-in-Minus
value-returns-in_err-operand-in-Minus t c =
    stop _ (minus-row (inside_view c.args.at) (types_of c.args.at) c.args.value.now _ _ _ c.args.k c.in-Minus.is refl refl) (exits
    c.from_residual-in_err-operand-in-Minus.result _ c.from_residual-in_err-operand-in-Minus.ensures.1) (value-at (inside_view c.args.at) (types_of
    c.args.at) _ c.get-in-Minus.ensures c.in_err-operand-in-Minus.ensures)

pub value-returns-in_err-operand-in-Complement : goal.value-returns-in_err-operand-in-Complement
value-returns-in_err-operand-in-Complement t c =
    stop _ (complement-row (inside_view c.args.at) (types_of c.args.at) c.args.value.now _ _ _ c.args.k c.in-Complement.is refl refl) (exits
    c.from_residual-in_err-operand-in-Complement.result _ c.from_residual-in_err-operand-in-Complement.ensures.1) (value-at (inside_view c.args.at)
    (types_of c.args.at) _ c.get-in-Complement.ensures c.in_err-operand-in-Complement.ensures)

pub value-returns-in_err-operand-in-Negation : goal.value-returns-in_err-operand-in-Negation
value-returns-in_err-operand-in-Negation t c =
    stop _ (negation-row (inside_view c.args.at) (types_of c.args.at) c.args.value.now _ _ c.args.k c.in-Negation.is refl) (exits
    c.from_residual-in_err-operand-in-Negation.result _ c.from_residual-in_err-operand-in-Negation.ensures.1) (value-at (inside_view c.args.at) (types_of
    c.args.at) _ c.get-in-Negation.ensures c.in_err-operand-in-Negation.ensures)

pub value-returns-in_err-left-in-Arithmetic : goal.value-returns-in_err-left-in-Arithmetic
value-returns-in_err-left-in-Arithmetic t c =
    stop _ (arithmetic-row (inside_view c.args.at) (types_of c.args.at) c.args.value.now _ _ _ _ _ _ c.args.k _ c.in-Arithmetic.is refl refl refl) (exits
    c.from_residual-in_err-left-in-Arithmetic.result _ c.from_residual-in_err-left-in-Arithmetic.ensures.1) (value-at (inside_view c.args.at) (types_of
    c.args.at) _ c.get-in-Arithmetic.ensures c.in_err-left-in-Arithmetic.ensures)

pub value-returns-in_err-behind-in-Arithmetic : goal.value-returns-in_err-behind-in-Arithmetic
value-returns-in_err-behind-in-Arithmetic t c =
    memory (exits c.from_residual-in_err-behind-in-Arithmetic.result _ c.from_residual-in_err-behind-in-Arithmetic.ensures.1 ∙ ap Err
    c.in_err-behind-in-Arithmetic.ensures.memory)

pub value-returns-in_err-right-in-Arithmetic : goal.value-returns-in_err-right-in-Arithmetic
value-returns-in_err-right-in-Arithmetic t c =
    step _ (arithmetic-row (inside_view c.args.at) (types_of c.args.at) c.args.value.now _ _ _ _ _ _ c.args.k _ c.in-Arithmetic.is refl refl
    c.in_ok-behind-in-Arithmetic.ensures.next) (value-at (inside_view c.args.at) (types_of c.args.at) _ c.get-in-Arithmetic.ensures
    c.in_ok-left-in-Arithmetic.ensures) (stop _ refl (exits c.from_residual-in_err-right-in-Arithmetic.result _
    c.from_residual-in_err-right-in-Arithmetic.ensures.1) (value-at (inside_view c.args.at) (types_of c.args.at) _ c.get-in-Arithmetic-2.ensures
    c.in_err-right-in-Arithmetic.ensures))

pub value-returns-in_err-left-in-Difference : goal.value-returns-in_err-left-in-Difference
value-returns-in_err-left-in-Difference t c =
    stop _ (difference-row (inside_view c.args.at) (types_of c.args.at) c.args.value.now _ _ _ _ c.args.k c.in-Difference.is refl) (exits
    c.from_residual-in_err-left-in-Difference.result _ c.from_residual-in_err-left-in-Difference.ensures.1) (value-at (inside_view c.args.at) (types_of
    c.args.at) _ c.get-in-Difference.ensures c.in_err-left-in-Difference.ensures)

pub value-returns-in_err-right-in-Difference : goal.value-returns-in_err-right-in-Difference
value-returns-in_err-right-in-Difference t c =
    step _ (difference-row (inside_view c.args.at) (types_of c.args.at) c.args.value.now _ _ _ _ c.args.k c.in-Difference.is refl) (value-at (inside_view
    c.args.at) (types_of c.args.at) _ c.get-in-Difference.ensures c.in_ok-left-in-Difference.ensures) (stop _ refl (exits
    c.from_residual-in_err-right-in-Difference.result _ c.from_residual-in_err-right-in-Difference.ensures.1) (value-at (inside_view c.args.at) (types_of
    c.args.at) _ c.get-in-Difference-2.ensures c.in_err-right-in-Difference.ensures))

pub value-returns-in_err-left-in-Comparison : goal.value-returns-in_err-left-in-Comparison
value-returns-in_err-left-in-Comparison t c =
    stop _ (comparison-row (inside_view c.args.at) (types_of c.args.at) c.args.value.now _ _ _ _ _ _ c.args.k _ c.in-Comparison.is refl refl refl) (exits
    c.from_residual-in_err-left-in-Comparison.result _ c.from_residual-in_err-left-in-Comparison.ensures.1) (value-at (inside_view c.args.at) (types_of
    c.args.at) _ c.get-in-Comparison.ensures c.in_err-left-in-Comparison.ensures)

pub value-returns-in_err-free_behind-in-Comparison : goal.value-returns-in_err-free_behind-in-Comparison
value-returns-in_err-free_behind-in-Comparison t c =
    memory (exits c.from_residual-in_err-free_behind-in-Comparison.result _ c.from_residual-in_err-free_behind-in-Comparison.ensures.1 ∙ ap Err
    c.in_err-free_behind-in-Comparison.ensures.memory)

pub value-returns-in_err-right-in-Comparison : goal.value-returns-in_err-right-in-Comparison
value-returns-in_err-right-in-Comparison t c =
    step _ (comparison-row (inside_view c.args.at) (types_of c.args.at) c.args.value.now _ _ _ _ _ _ c.args.k _ c.in-Comparison.is refl
    c.get-in-Comparison-3.ensures c.in_ok-free_behind-in-Comparison.ensures.next) (value-at (inside_view c.args.at) (types_of c.args.at) _
    c.get-in-Comparison.ensures c.in_ok-left-in-Comparison.ensures) (stop _ refl (exits c.from_residual-in_err-right-in-Comparison.result _
    c.from_residual-in_err-right-in-Comparison.ensures.1) (value-at (inside_view c.args.at) (types_of c.args.at) _ c.get-in-Comparison-2.ensures
    c.in_err-right-in-Comparison.ensures))

pub value-returns-in_err-first-in-Conjunction : goal.value-returns-in_err-first-in-Conjunction
value-returns-in_err-first-in-Conjunction t c =
    stop _ (conjunction-row (inside_view c.args.at) (types_of c.args.at) c.args.value.now _ _ _ c.args.k c.in-Conjunction.is refl) (exits
    c.from_residual-in_err-first-in-Conjunction.result _ c.from_residual-in_err-first-in-Conjunction.ensures.1) (value-at (inside_view c.args.at) (types_of
    c.args.at) _ c.get-in-Conjunction.ensures c.in_err-first-in-Conjunction.ensures)

pub value-returns-in_err-first-in-Disjunction : goal.value-returns-in_err-first-in-Disjunction
value-returns-in_err-first-in-Disjunction t c =
    stop _ (disjunction-row (inside_view c.args.at) (types_of c.args.at) c.args.value.now _ _ _ c.args.k c.in-Disjunction.is refl) (exits
    c.from_residual-in_err-first-in-Disjunction.result _ c.from_residual-in_err-first-in-Disjunction.ensures.1) (value-at (inside_view c.args.at) (types_of
    c.args.at) _ c.get-in-Disjunction.ensures c.in_err-first-in-Disjunction.ensures)

pub value-returns-in_err-test-in-Choice : goal.value-returns-in_err-test-in-Choice
value-returns-in_err-test-in-Choice t c =
    stop _ (choice-row (inside_view c.args.at) (types_of c.args.at) c.args.value.now _ _ _ _ _ c.args.k c.in-Choice.is refl refl) (exits
    c.from_residual-in_err-test-in-Choice.result _ c.from_residual-in_err-test-in-Choice.ensures.1) (value-at (inside_view c.args.at) (types_of c.args.at)
    _ c.get-in-Choice.ensures c.in_err-test-in-Choice.ensures)

pub value-returns-in_err-drop_all-in-Sequence : goal.value-returns-in_err-drop_all-in-Sequence
value-returns-in_err-drop_all-in-Sequence t c =
    stop _ (sequence-row (inside_view c.args.at) (types_of c.args.at) c.args.value.now _ _ c.args.k c.in-Sequence.is) (exits
    c.from_residual-in_err-drop_all-in-Sequence.result _ c.from_residual-in_err-drop_all-in-Sequence.ensures.1) c.in_err-drop_all-in-Sequence.ensures

pub value-returns-in_err-located-in-Assignment : goal.value-returns-in_err-located-in-Assignment
value-returns-in_err-located-in-Assignment t c =
    stop _ (assignment-row (inside_view c.args.at) (types_of c.args.at) c.args.value.now _ _ c.args.k c.in-Assignment.is) (exits
    c.from_residual-in_err-located-in-Assignment.result _ c.from_residual-in_err-located-in-Assignment.ensures.1) (location-at (inside_view c.args.at)
    (types_of c.args.at) _ c.get-in-Assignment.ensures c.in_err-located-in-Assignment.ensures)

pub value-returns-in_err-source-in-Assignment : goal.value-returns-in_err-source-in-Assignment
value-returns-in_err-source-in-Assignment t c =
    step _ (assignment-row (inside_view c.args.at) (types_of c.args.at) c.args.value.now _ _ c.args.k c.in-Assignment.is) (location-at (inside_view
    c.args.at) (types_of c.args.at) _ c.get-in-Assignment.ensures c.in_ok-located-in-Assignment.ensures) (stop _ refl (exits
    c.from_residual-in_err-source-in-Assignment.result _ c.from_residual-in_err-source-in-Assignment.ensures.1) (value-at (inside_view c.args.at) (types_of
    c.args.at) _ c.get-in-Assignment-2.ensures c.in_err-source-in-Assignment.ensures))

pub value-returns-in_err-located-in-Update : goal.value-returns-in_err-located-in-Update
value-returns-in_err-located-in-Update t c =
    stop _ (update-row (inside_view c.args.at) (types_of c.args.at) c.args.value.now _ _ _ _ c.args.k c.in-Update.is refl) (exits
    c.from_residual-in_err-located-in-Update.result _ c.from_residual-in_err-located-in-Update.ensures.1) (location-at (inside_view c.args.at) (types_of
    c.args.at) _ c.get-in-Update.ensures c.in_err-located-in-Update.ensures)

pub value-returns-in_err-located-in-Move : goal.value-returns-in_err-located-in-Move
value-returns-in_err-located-in-Move t c =
    stop _ (move-row (inside_view c.args.at) (types_of c.args.at) c.args.value.now _ _ _ _ c.args.k c.in-Move.is refl) (exits
    c.from_residual-in_err-located-in-Move.result _ c.from_residual-in_err-located-in-Move.ensures.1) (location-at (inside_view c.args.at) (types_of
    c.args.at) _ c.get-in-Move.ensures c.in_err-located-in-Move.ensures)

pub value-returns-in_err-operand-in-Conversion : goal.value-returns-in_err-operand-in-Conversion
value-returns-in_err-operand-in-Conversion t c =
    stop _ (conversion-row (inside_view c.args.at) (types_of c.args.at) c.args.value.now _ _ _ _ _ c.args.k c.in-Conversion.is refl refl refl) (exits
    c.from_residual-in_err-operand-in-Conversion.result _ c.from_residual-in_err-operand-in-Conversion.ensures.1) (value-at (inside_view c.args.at)
    (types_of c.args.at) _ c.get-in-Conversion.ensures c.in_err-operand-in-Conversion.ensures)

pub value-returns-in_err-operand-in-ToBool : goal.value-returns-in_err-operand-in-ToBool
value-returns-in_err-operand-in-ToBool t c =
    stop _ (to_bool-row (inside_view c.args.at) (types_of c.args.at) c.args.value.now _ _ _ c.args.k c.in-ToBool.is refl) (exits
    c.from_residual-in_err-operand-in-ToBool.result _ c.from_residual-in_err-operand-in-ToBool.ensures.1) (value-at (inside_view c.args.at) (types_of
    c.args.at) _ c.get-in-ToBool.ensures c.in_err-operand-in-ToBool.ensures)

pub value-returns-in_err-args-in-Call : goal.value-returns-in_err-args-in-Call
value-returns-in_err-args-in-Call t c =
    stop _ (call-row (inside_view c.args.at) (types_of c.args.at) c.args.value.now _ _ _ _ c.args.k c.in-Call.is refl) (exits
    c.from_residual-in_err-args-in-Call.result _ c.from_residual-in_err-args-in-Call.ensures.1) c.in_err-args-in-Call.ensures

pub value-returns-in_err-function_number-in-Call : goal.value-returns-in_err-function_number-in-Call
value-returns-in_err-function_number-in-Call t c =
    memory (exits c.from_residual-in_err-function_number-in-Call.result _ c.from_residual-in_err-function_number-in-Call.ensures.1 ∙ ap Err
    c.in_err-function_number-in-Call.ensures.memory)

pub value-returns-in_err-callee-in-CallThrough : goal.value-returns-in_err-callee-in-CallThrough
value-returns-in_err-callee-in-CallThrough t c =
    stop _ (call_through-row (inside_view c.args.at) (types_of c.args.at) c.args.value.now _ _ _ _ c.args.k _ c.in-CallThrough.is refl refl) (exits
    c.from_residual-in_err-callee-in-CallThrough.result _ c.from_residual-in_err-callee-in-CallThrough.ensures.1) (value-at (inside_view c.args.at)
    (types_of c.args.at) _ c.get-in-CallThrough.ensures c.in_err-callee-in-CallThrough.ensures)

pub value-returns-in_err-behind-in-CallThrough : goal.value-returns-in_err-behind-in-CallThrough
value-returns-in_err-behind-in-CallThrough t c =
    memory (exits c.from_residual-in_err-behind-in-CallThrough.result _ c.from_residual-in_err-behind-in-CallThrough.ensures.1 ∙ ap Err
    c.in_err-behind-in-CallThrough.ensures.memory)

pub value-returns-in_err-args-in-CallThrough : goal.value-returns-in_err-args-in-CallThrough
value-returns-in_err-args-in-CallThrough t c =
    step _ (call_through-row (inside_view c.args.at) (types_of c.args.at) c.args.value.now _ _ _ _ c.args.k _ c.in-CallThrough.is refl
    c.in_ok-behind-in-CallThrough.ensures.next) (value-at (inside_view c.args.at) (types_of c.args.at) _ c.get-in-CallThrough.ensures
    c.in_ok-callee-in-CallThrough.ensures) (stop _ refl (exits c.from_residual-in_err-args-in-CallThrough.result _
    c.from_residual-in_err-args-in-CallThrough.ensures.1) c.in_err-args-in-CallThrough.ensures)

pub value-returns-in_err-operand-in-Putchar : goal.value-returns-in_err-operand-in-Putchar
value-returns-in_err-operand-in-Putchar t c =
    stop _ (putchar-row (inside_view c.args.at) (types_of c.args.at) c.args.value.now _ _ c.args.k c.in-Putchar.is) (exits
    c.from_residual-in_err-operand-in-Putchar.result _ c.from_residual-in_err-operand-in-Putchar.ensures.1) (value-at (inside_view c.args.at) (types_of
    c.args.at) _ c.get-in-Putchar.ensures c.in_err-operand-in-Putchar.ensures)

pub value-returns-in_err-operand-in-Exit : goal.value-returns-in_err-operand-in-Exit
value-returns-in_err-operand-in-Exit t c =
    stop _ (exit-row (inside_view c.args.at) (types_of c.args.at) c.args.value.now _ _ c.args.k c.in-Exit.is) (exits
    c.from_residual-in_err-operand-in-Exit.result _ c.from_residual-in_err-operand-in-Exit.ensures.1) (value-at (inside_view c.args.at) (types_of
    c.args.at) _ c.get-in-Exit.ensures c.in_err-operand-in-Exit.ensures)

pub value-returns-in-Constant : goal.value-returns-in-Constant
value-returns-in-Constant t c =
    same-making (constant-row (inside_view c.args.at) (types_of c.args.at) c.args.value.now _ _ c.args.k c.in-Constant.is c.from.ensures)
    (c.constant.ensures (rows_of c.args.at))

pub value-returns-in-Null : goal.value-returns-in-Null
value-returns-in-Null t c = same-making (null-row (inside_view c.args.at) (types_of c.args.at) c.args.value.now c.args.k c.in-Null.is) c.null.ensures

pub value-returns-in_ok-function_number-in-Function : goal.value-returns-in_ok-function_number-in-Function
value-returns-in_ok-function_number-in-Function t c =
    same-making (function-row (inside_view c.args.at) (types_of c.args.at) c.args.value.now _ _ c.args.k c.in-Function.is
    c.in_ok-function_number-in-Function.ensures.same) (c.function_value.ensures (rows_of c.args.at))

pub value-returns-in_ok-located-in-Read : goal.value-returns-in_ok-located-in-Read
value-returns-in_ok-located-in-Read t c =
    step _ (read-row (inside_view c.args.at) (types_of c.args.at) c.args.value.now _ c.args.k c.in-Read.is) (location-at (inside_view c.args.at) (types_of
    c.args.at) _ c.get.ensures c.in_ok-located-in-Read.ensures) c.fetch.ensures

pub value-returns-in-FirstElement : goal.value-returns-in-FirstElement
value-returns-in-FirstElement t c =
    same-making (first_element-row (inside_view c.args.at) (types_of c.args.at) c.args.value.now _ c.args.k c.in-FirstElement.is) (address-at (inside_view
    c.args.at) (types_of c.args.at) _ c.get-in-FirstElement.ensures c.address.ensures)

pub value-returns-in-Address : goal.value-returns-in-Address
value-returns-in-Address t c =
    same-making (address-row (inside_view c.args.at) (types_of c.args.at) c.args.value.now _ c.args.k c.in-Address.is) (address-at (inside_view c.args.at)
    (types_of c.args.at) _ c.get-in-Address.ensures c.address-in-Address.ensures)

pub value-returns-in_ok-operand-in-Minus : goal.value-returns-in_ok-operand-in-Minus
value-returns-in_ok-operand-in-Minus t c =
    step _ (minus-row (inside_view c.args.at) (types_of c.args.at) c.args.value.now _ _ _ c.args.k c.in-Minus.is c.get-in-Minus-2.ensures c.ty.ensures)
    (value-at (inside_view c.args.at) (types_of c.args.at) _ c.get-in-Minus.ensures c.in_ok-operand-in-Minus.ensures) (c.minus.ensures (rows_of c.args.at))

pub value-returns-in_ok-operand-in-Complement : goal.value-returns-in_ok-operand-in-Complement
value-returns-in_ok-operand-in-Complement t c =
    step _ (complement-row (inside_view c.args.at) (types_of c.args.at) c.args.value.now _ _ _ c.args.k c.in-Complement.is c.get-in-Complement-2.ensures
    c.ty-in-Complement.ensures) (value-at (inside_view c.args.at) (types_of c.args.at) _ c.get-in-Complement.ensures c.in_ok-operand-in-Complement.ensures)
    (c.complement.ensures (rows_of c.args.at))

pub value-returns-in_ok-operand-in-Negation : goal.value-returns-in_ok-operand-in-Negation
value-returns-in_ok-operand-in-Negation t c =
    step _ (negation-row (inside_view c.args.at) (types_of c.args.at) c.args.value.now _ _ c.args.k c.in-Negation.is c.get-in-Negation-2.ensures) (value-at
    (inside_view c.args.at) (types_of c.args.at) _ c.get-in-Negation.ensures c.in_ok-operand-in-Negation.ensures) c.negate.ensures

pub value-returns-in_ok-right-in-Arithmetic : goal.value-returns-in_ok-right-in-Arithmetic
value-returns-in_ok-right-in-Arithmetic t c =
    step _ (arithmetic-row (inside_view c.args.at) (types_of c.args.at) c.args.value.now _ _ _ _ _ _ c.args.k _ c.in-Arithmetic.is
    c.get-in-Arithmetic-3.ensures c.ty-in-Arithmetic.ensures c.in_ok-behind-in-Arithmetic.ensures.next) (value-at (inside_view c.args.at) (types_of
    c.args.at) _ c.get-in-Arithmetic.ensures c.in_ok-left-in-Arithmetic.ensures) (step _ refl (value-at (inside_view c.args.at) (types_of c.args.at) _
    c.get-in-Arithmetic-2.ensures c.in_ok-right-in-Arithmetic.ensures) (c.compute.ensures (rows_of c.args.at)))

pub value-returns-in_ok-right-in-Difference : goal.value-returns-in_ok-right-in-Difference
value-returns-in_ok-right-in-Difference t c =
    step _ (difference-row (inside_view c.args.at) (types_of c.args.at) c.args.value.now _ _ _ _ c.args.k c.in-Difference.is c.get-in-Difference-3.ensures)
    (value-at (inside_view c.args.at) (types_of c.args.at) _ c.get-in-Difference.ensures c.in_ok-left-in-Difference.ensures) (step _ refl (value-at
    (inside_view c.args.at) (types_of c.args.at) _ c.get-in-Difference-2.ensures c.in_ok-right-in-Difference.ensures) c.subtract_pointers.ensures)

pub value-returns-in_ok-right-in-Comparison : goal.value-returns-in_ok-right-in-Comparison
value-returns-in_ok-right-in-Comparison t c =
    step _ (comparison-row (inside_view c.args.at) (types_of c.args.at) c.args.value.now _ _ _ _ _ _ c.args.k _ c.in-Comparison.is
    c.get-in-Comparison-4.ensures c.get-in-Comparison-3.ensures c.in_ok-free_behind-in-Comparison.ensures.next) (value-at (inside_view c.args.at) (types_of
    c.args.at) _ c.get-in-Comparison.ensures c.in_ok-left-in-Comparison.ensures) (step _ refl (value-at (inside_view c.args.at) (types_of c.args.at) _
    c.get-in-Comparison-2.ensures c.in_ok-right-in-Comparison.ensures) c.compare.ensures)

pub value-returns-in_ok-first-in-Conjunction : goal.value-returns-in_ok-first-in-Conjunction
value-returns-in_ok-first-in-Conjunction t c =
    step _ (conjunction-row (inside_view c.args.at) (types_of c.args.at) c.args.value.now _ _ _ c.args.k c.in-Conjunction.is
    c.get-in-Conjunction-2.ensures) (value-at (inside_view c.args.at) (types_of c.args.at) _ c.get-in-Conjunction.ensures
    c.in_ok-first-in-Conjunction.ensures) c.decide.ensures

pub value-returns-in_ok-first-in-Disjunction : goal.value-returns-in_ok-first-in-Disjunction
value-returns-in_ok-first-in-Disjunction t c =
    step _ (disjunction-row (inside_view c.args.at) (types_of c.args.at) c.args.value.now _ _ _ c.args.k c.in-Disjunction.is
    c.get-in-Disjunction-2.ensures) (value-at (inside_view c.args.at) (types_of c.args.at) _ c.get-in-Disjunction.ensures
    c.in_ok-first-in-Disjunction.ensures) c.decide-in-Disjunction.ensures

pub value-returns-in_ok-drop_all-in-Sequence : goal.value-returns-in_ok-drop_all-in-Sequence
value-returns-in_ok-drop_all-in-Sequence t c =
    step _ (sequence-row (inside_view c.args.at) (types_of c.args.at) c.args.value.now _ _ c.args.k c.in-Sequence.is) c.in_ok-drop_all-in-Sequence.ensures
    (value-at (inside_view c.args.at) (types_of c.args.at) _ c.get-in-Sequence.ensures c.value-in-Sequence.ensures)

pub value-returns-in_ok-source-in-Assignment : goal.value-returns-in_ok-source-in-Assignment
value-returns-in_ok-source-in-Assignment t c =
    step _ (assignment-row (inside_view c.args.at) (types_of c.args.at) c.args.value.now _ _ c.args.k c.in-Assignment.is) (location-at (inside_view
    c.args.at) (types_of c.args.at) _ c.get-in-Assignment.ensures c.in_ok-located-in-Assignment.ensures) (step _ refl (value-at (inside_view c.args.at)
    (types_of c.args.at) _ c.get-in-Assignment-2.ensures c.in_ok-source-in-Assignment.ensures) (c.assign.ensures (rows_of c.args.at)))

pub value-returns-in_ok-located-in-Update : goal.value-returns-in_ok-located-in-Update
value-returns-in_ok-located-in-Update t c =
    step _ (update-row (inside_view c.args.at) (types_of c.args.at) c.args.value.now _ _ _ _ c.args.k c.in-Update.is c.get-in-Update-2.ensures)
    (location-at (inside_view c.args.at) (types_of c.args.at) _ c.get-in-Update.ensures c.in_ok-located-in-Update.ensures) c.update.ensures

pub value-returns-in_ok-located-in-Move : goal.value-returns-in_ok-located-in-Move
value-returns-in_ok-located-in-Move t c =
    step _ (move-row (inside_view c.args.at) (types_of c.args.at) c.args.value.now _ _ _ _ c.args.k c.in-Move.is c.get-in-Move-2.ensures) (location-at
    (inside_view c.args.at) (types_of c.args.at) _ c.get-in-Move.ensures c.in_ok-located-in-Move.ensures) c.change_pointer.ensures

pub value-returns-in_ok-operand-in-Conversion : goal.value-returns-in_ok-operand-in-Conversion
value-returns-in_ok-operand-in-Conversion t c =
    step _ (conversion-row (inside_view c.args.at) (types_of c.args.at) c.args.value.now _ _ _ _ _ c.args.k c.in-Conversion.is
    c.get-in-Conversion-2.ensures c.ty-in-Conversion.ensures c.ty-in-Conversion-2.ensures) (value-at (inside_view c.args.at) (types_of c.args.at) _
    c.get-in-Conversion.ensures c.in_ok-operand-in-Conversion.ensures) (c.converted.ensures (rows_of c.args.at))

pub value-returns-in_ok-operand-in-ToBool : goal.value-returns-in_ok-operand-in-ToBool
value-returns-in_ok-operand-in-ToBool t c =
    step _ (to_bool-row (inside_view c.args.at) (types_of c.args.at) c.args.value.now _ _ _ c.args.k c.in-ToBool.is c.get-in-ToBool-2.ensures) (value-at
    (inside_view c.args.at) (types_of c.args.at) _ c.get-in-ToBool.ensures c.in_ok-operand-in-ToBool.ensures) c.truth.ensures

pub value-returns-in-Requalified : goal.value-returns-in-Requalified
value-returns-in-Requalified t c =
    same-making (requalified-row (inside_view c.args.at) (types_of c.args.at) c.args.value.now _ c.args.k c.in-Requalified.is) (value-at (inside_view
    c.args.at) (types_of c.args.at) _ c.get-in-Requalified.ensures c.value-in-Requalified.ensures)

pub value-returns-in-Discarded : goal.value-returns-in-Discarded
value-returns-in-Discarded t c =
    same-making (discarded-row (inside_view c.args.at) (types_of c.args.at) c.args.value.now _ c.args.k c.in-Discarded.is) (value-at (inside_view
    c.args.at) (types_of c.args.at) _ c.get-in-Discarded.ensures c.value-in-Discarded.ensures)

pub value-returns-in_ok-function_number-in-Call : goal.value-returns-in_ok-function_number-in-Call
value-returns-in_ok-function_number-in-Call t c =
    step _ (call-row (inside_view c.args.at) (types_of c.args.at) c.args.value.now _ _ _ _ c.args.k c.in-Call.is
    c.in_ok-function_number-in-Call.ensures.same) c.in_ok-args-in-Call.ensures c.call.ensures

pub value-returns-in_ok-args-in-CallThrough : goal.value-returns-in_ok-args-in-CallThrough
value-returns-in_ok-args-in-CallThrough t c =
    step _ (call_through-row (inside_view c.args.at) (types_of c.args.at) c.args.value.now _ _ _ _ c.args.k _ c.in-CallThrough.is
    c.get-in-CallThrough-2.ensures c.in_ok-behind-in-CallThrough.ensures.next) (value-at (inside_view c.args.at) (types_of c.args.at) _
    c.get-in-CallThrough.ensures c.in_ok-callee-in-CallThrough.ensures) (step _ refl c.in_ok-args-in-CallThrough.ensures c.call_through.ensures)

pub value-returns-in_ok-operand-in-Putchar : goal.value-returns-in_ok-operand-in-Putchar
value-returns-in_ok-operand-in-Putchar t c =
    step _ (putchar-row (inside_view c.args.at) (types_of c.args.at) c.args.value.now _ _ c.args.k c.in-Putchar.is) (value-at (inside_view c.args.at)
    (types_of c.args.at) _ c.get-in-Putchar.ensures c.in_ok-operand-in-Putchar.ensures) (c.put_byte.ensures (rows_of c.args.at))

pub value-returns-in-Getchar : goal.value-returns-in-Getchar
value-returns-in-Getchar t c =
    same-making (getchar-row (inside_view c.args.at) (types_of c.args.at) c.args.value.now _ c.args.k c.in-Getchar.is) (c.get_byte.ensures (rows_of
    c.args.at))

pub value-returns-in_ok-operand-in-Exit : goal.value-returns-in_ok-operand-in-Exit
value-returns-in_ok-operand-in-Exit t c =
    step _ (exit-row (inside_view c.args.at) (types_of c.args.at) c.args.value.now _ _ c.args.k c.in-Exit.is) (value-at (inside_view c.args.at) (types_of
    c.args.at) _ c.get-in-Exit.ensures c.in_ok-operand-in-Exit.ensures) (c.exit.ensures (rows_of c.args.at))

pub value-returns-in_err-left-in-Sum : goal.value-returns-in_err-left-in-Sum
value-returns-in_err-left-in-Sum t c =
    stop _ (sum-row (inside_view c.args.at) (types_of c.args.at) c.args.value.now _ _ _ _ _ _ _ _ c.args.k _ c.in-Sum.is refl refl refl refl) (exits
    c.from_residual-in_err-left-in-Sum.result _ c.from_residual-in_err-left-in-Sum.ensures.1) (value-at (inside_view c.args.at) (types_of c.args.at) _
    c.get-in-Sum.ensures c.in_err-left-in-Sum.ensures)

pub value-returns-in_err-free_behind-in-Sum : goal.value-returns-in_err-free_behind-in-Sum
value-returns-in_err-free_behind-in-Sum t c =
    memory (exits c.from_residual-in_err-free_behind-in-Sum.result _ c.from_residual-in_err-free_behind-in-Sum.ensures.1 ∙ ap Err
    c.in_err-free_behind-in-Sum.ensures.memory)

pub value-returns-in_err-right-in-Sum : goal.value-returns-in_err-right-in-Sum
value-returns-in_err-right-in-Sum t c =
    step _ (sum-row (inside_view c.args.at) (types_of c.args.at) c.args.value.now _ _ _ _ _ _ _ _ c.args.k _ c.in-Sum.is refl refl c.get-in-Sum-3.ensures
    c.in_ok-free_behind-in-Sum.ensures.next) (value-at (inside_view c.args.at) (types_of c.args.at) _ c.get-in-Sum.ensures c.in_ok-left-in-Sum.ensures)
    (stop _ refl (exits c.from_residual-in_err-right-in-Sum.result _ c.from_residual-in_err-right-in-Sum.ensures.1) (value-at (inside_view c.args.at)
    (types_of c.args.at) _ c.get-in-Sum-2.ensures c.in_err-right-in-Sum.ensures))

pub value-returns-in_ok-right-in-Sum : goal.value-returns-in_ok-right-in-Sum
value-returns-in_ok-right-in-Sum t c =
    step _ (sum-row (inside_view c.args.at) (types_of c.args.at) c.args.value.now _ _ _ _ _ _ _ _ c.args.k _ c.in-Sum.is c.get-in-Sum-4.ensures
    c.get-in-Sum-5.ensures c.get-in-Sum-3.ensures c.in_ok-free_behind-in-Sum.ensures.next) (value-at (inside_view c.args.at) (types_of c.args.at) _
    c.get-in-Sum.ensures c.in_ok-left-in-Sum.ensures) (step _ refl (value-at (inside_view c.args.at) (types_of c.args.at) _ c.get-in-Sum-2.ensures
    c.in_ok-right-in-Sum.ensures) c.move_operands.ensures)

pub address-returns-in_err-left-in-Element : goal.address-returns-in_err-left-in-Element
address-returns-in_err-left-in-Element t c =
    stop _ (element-row (inside_view c.args.at) (types_of c.args.at) c.args.place.now _ _ _ _ _ _ _ c.args.k _ c.in-Element.is refl refl refl refl) (exits
    c.from_residual-in_err-left-in-Element.result _ c.from_residual-in_err-left-in-Element.ensures.1) (value-at (inside_view c.args.at) (types_of
    c.args.at) _ c.get-in-Element.ensures c.in_err-left-in-Element.ensures)

pub address-returns-in_err-free_behind-in-Element : goal.address-returns-in_err-free_behind-in-Element
address-returns-in_err-free_behind-in-Element t c =
    memory (exits c.from_residual-in_err-free_behind-in-Element.result _ c.from_residual-in_err-free_behind-in-Element.ensures.1 ∙ ap Err
    c.in_err-free_behind-in-Element.ensures.memory)

pub address-returns-in_err-right-in-Element : goal.address-returns-in_err-right-in-Element
address-returns-in_err-right-in-Element t c =
    step _ (element-row (inside_view c.args.at) (types_of c.args.at) c.args.place.now _ _ _ _ _ _ _ c.args.k _ c.in-Element.is refl refl
    c.get-in-Element-3.ensures c.in_ok-free_behind-in-Element.ensures.next) (value-at (inside_view c.args.at) (types_of c.args.at) _
    c.get-in-Element.ensures c.in_ok-left-in-Element.ensures) (stop _ refl (exits c.from_residual-in_err-right-in-Element.result _
    c.from_residual-in_err-right-in-Element.ensures.1) (value-at (inside_view c.args.at) (types_of c.args.at) _ c.get-in-Element-2.ensures
    c.in_err-right-in-Element.ensures))

pub address-returns-in_ok-right-in-Element : goal.address-returns-in_ok-right-in-Element
address-returns-in_ok-right-in-Element t c =
    step _ (element-row (inside_view c.args.at) (types_of c.args.at) c.args.place.now _ _ _ _ _ _ _ c.args.k _ c.in-Element.is c.get-in-Element-4.ensures
    c.get-in-Element-5.ensures c.get-in-Element-3.ensures c.in_ok-free_behind-in-Element.ensures.next) (value-at (inside_view c.args.at) (types_of
    c.args.at) _ c.get-in-Element.ensures c.in_ok-left-in-Element.ensures) (step _ refl (value-at (inside_view c.args.at) (types_of c.args.at) _
    c.get-in-Element-2.ensures c.in_ok-right-in-Element.ensures) c.move_operands.ensures)

pub arguments-push-requires : goal.arguments-push-requires
arguments-push-requires t c = has-room c.loop-e.found _ c.is_full.ensures c.if-is_full.false

pub value-returns-in_err-waits-in-Choice : goal.value-returns-in_err-waits-in-Choice
value-returns-in_err-waits-in-Choice t c = memory (exits c.from_residual-in_err-waits-in-Choice.result _ c.from_residual-in_err-waits-in-Choice.ensures.1
    ∙ ap Err c.in_err-waits-in-Choice.ensures)

pub value-returns-in_err-over-in-Choice : goal.value-returns-in_err-over-in-Choice
value-returns-in_err-over-in-Choice t c = memory (exits c.from_residual-in_err-over-in-Choice.result _ c.from_residual-in_err-over-in-Choice.ensures.1
    ∙ ap Err c.in_err-over-in-Choice.ensures)

pub value-returns-in_err-first-in-Choice : goal.value-returns-in_err-first-in-Choice
value-returns-in_err-first-in-Choice t c =
    step _ (choice-row (inside_view c.args.at) (types_of c.args.at) c.args.value.now _ _ _ _ _ c.args.k c.in-Choice.is refl refl)
    (value-at (inside_view c.args.at) (types_of c.args.at) _ c.get-in-Choice.ensures c.in_ok-test-in-Choice.ensures)
    (first-operand-refused _ _ _ _ _ _ _ _ _ _ _ _ c.in_ok-waits-in-Choice.ensures
    (value-at (inside_view c.args.at) (types_of c.args.at) _ c.get-in-Choice-2.ensures c.in_err-first-in-Choice.ensures)
    (exits c.from_residual-in_err-first-in-Choice.result _ c.from_residual-in_err-first-in-Choice.ensures.1))

pub value-returns-in_err-target-in-Choice : goal.value-returns-in_err-target-in-Choice
value-returns-in_err-target-in-Choice t c =
    step _ (choice-row (inside_view c.args.at) (types_of c.args.at) c.args.value.now _ _ _ _ _ c.args.k c.in-Choice.is refl refl)
    (value-at (inside_view c.args.at) (types_of c.args.at) _ c.get-in-Choice.ensures c.in_ok-test-in-Choice.ensures)
    (first-join-refused _ _ _ _ _ _ _ _ _ _ _ _ _ _ c.in_ok-waits-in-Choice.ensures
    (value-at (inside_view c.args.at) (types_of c.args.at) _ c.get-in-Choice-2.ensures c.in_ok-first-in-Choice.ensures) c.in_err-target-in-Choice.ensures
    (exits c.from_residual-in_err-target-in-Choice.result _ c.from_residual-in_err-target-in-Choice.ensures.1))

pub value-returns-in_err-second-in-Choice : goal.value-returns-in_err-second-in-Choice
value-returns-in_err-second-in-Choice t c =
    step _ (choice-row (inside_view c.args.at) (types_of c.args.at) c.args.value.now _ _ _ _ _ c.args.k c.in-Choice.is refl refl)
    (value-at (inside_view c.args.at) (types_of c.args.at) _ c.get-in-Choice.ensures c.in_ok-test-in-Choice.ensures)
    (second-operand-refused _ _ _ _ _ _ _ _ _ _ _ _ _ _ _ _ _ _ c.in_ok-waits-in-Choice.ensures
    (value-at (inside_view c.args.at) (types_of c.args.at) _ c.get-in-Choice-2.ensures c.in_ok-first-in-Choice.ensures)
    c.in_ok-target-in-Choice.ensures c.in_ok-over-in-Choice.ensures
    (value-at (inside_view c.args.at) (types_of c.args.at) _ c.get-in-Choice-3.ensures c.in_err-second-in-Choice.ensures)
    (exits c.from_residual-in_err-second-in-Choice.result _ c.from_residual-in_err-second-in-Choice.ensures.1))

pub value-returns-in_err-join_second-in-Choice : goal.value-returns-in_err-join_second-in-Choice
value-returns-in_err-join_second-in-Choice t c =
    step _ (choice-row (inside_view c.args.at) (types_of c.args.at) c.args.value.now _ _ _ _ _ c.args.k c.in-Choice.is refl refl)
    (value-at (inside_view c.args.at) (types_of c.args.at) _ c.get-in-Choice.ensures c.in_ok-test-in-Choice.ensures)
    (second-join-refused _ _ _ _ _ _ _ _ _ _ _ _ _ _ _ _ _ _ _ _ c.in_ok-waits-in-Choice.ensures
    (value-at (inside_view c.args.at) (types_of c.args.at) _ c.get-in-Choice-2.ensures c.in_ok-first-in-Choice.ensures)
    c.in_ok-target-in-Choice.ensures c.in_ok-over-in-Choice.ensures
    (value-at (inside_view c.args.at) (types_of c.args.at) _ c.get-in-Choice-3.ensures c.in_ok-second-in-Choice.ensures)
    c.in_err-join_second-in-Choice.ensures (exits c.from_residual-in_err-join_second-in-Choice.result _
    c.from_residual-in_err-join_second-in-Choice.ensures.1))

pub value-returns-in_ok-join_second-in-Choice : goal.value-returns-in_ok-join_second-in-Choice
value-returns-in_ok-join_second-in-Choice t c =
    step _ (choice-row (inside_view c.args.at) (types_of c.args.at) c.args.value.now _ _ _ _ _ c.args.k c.in-Choice.is refl refl)
    (value-at (inside_view c.args.at) (types_of c.args.at) _ c.get-in-Choice.ensures c.in_ok-test-in-Choice.ensures)
    (chose _ _ _ _ _ _ _ _ _ _ _ _ _ _ _ _ _ _ _ _ c.in_ok-waits-in-Choice.ensures
    (value-at (inside_view c.args.at) (types_of c.args.at) _ c.get-in-Choice-2.ensures c.in_ok-first-in-Choice.ensures)
    c.in_ok-target-in-Choice.ensures c.in_ok-over-in-Choice.ensures
    (value-at (inside_view c.args.at) (types_of c.args.at) _ c.get-in-Choice-3.ensures c.in_ok-second-in-Choice.ensures)
    c.in_ok-join_second-in-Choice.ensures c.lead_here.ensures.allotted c.lead_here.ensures.led)
