-- What an expression costs.
use Rattle.std.proofs.Common.{ℕ, zero, suc, ◌+◌, ◌%◌, ◌==◌, Bool, true, false, List, [], ◌∷◌, arith}
use Rattle.std.proofs.lemmas.List.{length-append}
use Rattle.srmt_base.specs.declared.event.Event.{Event}
use Rattle.srmt_base.specs.declared.event.Event.TheVariants.{Byte, PortRead, PortWrite, Exit as ExitEvent}
use Rattle.srmt_base.specs.declared.op.Op.TheVariants.{Xor}
use Rattle.srmt_base.specs.Arith.{arith_of}
use Rattle.srmt_base.specs.Objects.{object_part, offset_part}
use Rattle.srmt_base.specs.Memory.{read_of, write_of}
use Rattle.c_types.specs.Types.{CType, Qualified, ty_of}
use Rattle.c_typed.specs.Typed.{Place, place, local, static, text, pointed, element, Value, value, constant, null, read, first_element, address, function, minus, complement, negation, arithmetic, sum, difference, comparison, conjunction, disjunction, choice, sequence, assignment, update, move, conversion, to_bool, requalified, discarded, call, call_through, putchar, getchar, exit, Values, no_values, first_value, type_of}
use Rattle.source_meaning.specs.World.{pure, either, computed, happens, exits}
use Rattle.source_meaning.specs.Places.{Setting, Location, register, cell, row_of, location_of_local, fetch, store}
use Rattle.source_meaning.specs.Expressions.{moved, call_of_value, location_of, value_of, values_of}
use Rattle.source_meaning.specs.EventLaws.{events_of, events_at, events_in}
use Rattle.source_meaning.proofs.EventLemmas.{CostsAtMost, then_costs, then_free, either_costs, cost_wider, pure_costs, computed_costs, happens_costs, remembers_costs}

pub nothing_costs : CostsAtMost {A = Unit {0}} 0 (pure tt)
nothing_costs w = omega arith

happens_if_costs : (test : Bool) (event : Event) → CostsAtMost 1 (either test (happens event) (pure tt))
happens_if_costs test event = cost_wider (1 + 0) 1 _ (omega arith) (either_costs 1 0 test _ _ (happens_costs event) nothing_costs)

pub local_costs : (s : Setting) (n : ℕ) (t : Qualified) (line : ℕ) → CostsAtMost 0 (location_of_local s n t line)
local_costs s n t line = cost_wider (0 + 0) 0 _ (omega arith) (either_costs 0 0 (row_of s n).is_placed _ _ (λ w. omega arith) (λ w. omega arith))

fetch_costs : (l : Location) → CostsAtMost 1 (fetch l)
fetch_costs (register n) = λ w. omega arith
fetch_costs (cell is_volatile line pointer) = λ w.
    cost_wider (0 + (1 + 0)) 1 _ (omega arith)
    (then_costs 0 (1 + 0) (computed line (read_of w.memory pointer)) _ (computed_costs line (read_of w.memory pointer))
    (λ v. then_costs 1 0 _ _ (happens_if_costs is_volatile (PortRead (object_part pointer) (offset_part pointer))) (λ done. pure_costs v))) w

pub store_costs : (l : Location) (v : ℕ) → CostsAtMost 1 (store l v)
store_costs (register n) v = λ w. omega arith
store_costs (cell is_volatile line pointer) v =
    cost_wider (0 + 1) 1 _ (omega arith)
    (then_costs 0 1 _ _ (remembers_costs line (λ memory. write_of memory pointer v))
    (λ done. happens_if_costs is_volatile (PortWrite (object_part pointer) (offset_part pointer) v)))

moved_costs : (line : ℕ) (is_less pointer_first : Bool) (t u : CType) (x y : ℕ) → CostsAtMost 0 (moved line is_less pointer_first t u x y)
moved_costs line is_less true t u x y = computed_costs line _
moved_costs line is_less false t u x y = computed_costs line _

exits_costs : (A : Type 0) (v : ℕ) → CostsAtMost {A = A} 1 (exits v)
exits_costs A v w = omega (arith, length-append w.events (ExitEvent (v % 256) ∷ []))

module _ (s : Setting) (calls : (line number : ℕ) (arguments : List ℕ) → CostsAtMost 0 (s.call line number arguments)) where
  called : (line v : ℕ) (arguments : List ℕ) → CostsAtMost 0 (call_of_value s line v arguments)
  called line zero arguments = λ w. omega arith
  called line (suc v) arguments = calls line (suc v) arguments

  mutual
    unfolding events_of value_of

    place_costs : (p : Place) → CostsAtMost (events_at p) (location_of s p)
    place_costs (place line t (local n)) = local_costs s n t line
    place_costs (place line t (static n)) = λ w. omega arith
    place_costs (place line t (text n)) = λ w. omega arith
    place_costs (place line t (pointed e)) = then_free (events_of e) _ _ (value_costs e) (λ x w. omega arith)
    place_costs (place line t (element at pointer_first a b)) =
        then_costs (events_of a) (events_of b) _ _ (value_costs a) λ x.
        then_free (events_of b) _ _ (value_costs b) λ y.
        then_free 0 _ _ (moved_costs at false pointer_first _ _ x y) (λ z w. omega arith)

    pub value_costs : (e : Value) → CostsAtMost (events_of e) (value_of s e)
    value_costs (value line t (constant n)) = λ w. omega arith
    value_costs (value line t null) = λ w. omega arith
    value_costs (value line t (read p)) = then_costs (events_at p) 1 _ _ (place_costs p) (λ l. fetch_costs l)
    value_costs (value line t (first_element p)) = then_free (events_at p) _ _ (place_costs p) (λ l w. omega arith)
    value_costs (value line t (address p)) = then_free (events_at p) _ _ (place_costs p) (λ l w. omega arith)
    value_costs (value line t (function n)) = λ w. omega arith
    value_costs (value line t (minus e)) = then_free (events_of e) _ _ (value_costs e) (λ x. computed_costs line _)
    value_costs (value line t (complement e)) =
        then_free (events_of e) _ _ (value_costs e) (λ x. computed_costs line (arith_of Xor (ty_of (type_of e)) x 4294967295))
    value_costs (value line t (negation e)) = then_free (events_of e) _ _ (value_costs e) (λ x w. omega arith)
    value_costs (value line t (arithmetic op at a b)) =
        then_costs (events_of a) (events_of b) _ _ (value_costs a) λ x. then_free (events_of b) _ _ (value_costs b) λ y. computed_costs at _
    value_costs (value line t (sum at is_less pointer_first a b)) =
        then_costs (events_of a) (events_of b) _ _ (value_costs a) λ x.
        then_free (events_of b) _ _ (value_costs b) λ y. moved_costs at is_less pointer_first _ _ x y
    value_costs (value line t (difference at a b)) =
        then_costs (events_of a) (events_of b) _ _ (value_costs a) λ x. then_free (events_of b) _ _ (value_costs b) λ y. computed_costs at _
    value_costs (value line t (comparison op at a b)) =
        then_costs (events_of a) (events_of b) _ _ (value_costs a) λ x. then_free (events_of b) _ _ (value_costs b) λ y. computed_costs at _
    value_costs (value line t (conjunction a b)) =
        then_costs (events_of a) (events_of b) _ _ (value_costs a) λ x.
        cost_wider (0 + events_of b) (events_of b) _ (omega arith)
        (either_costs 0 (events_of b) (x == 0) _ _ (λ w. omega arith) (then_free (events_of b) _ _ (value_costs b) (λ y w. omega arith)))
    value_costs (value line t (disjunction a b)) =
        then_costs (events_of a) (events_of b) _ _ (value_costs a) λ x.
        cost_wider (events_of b + 0) (events_of b) _ (omega arith)
        (either_costs (events_of b) 0 (x == 0) _ _ (then_free (events_of b) _ _ (value_costs b) (λ y w. omega arith)) (λ w. omega arith))
    value_costs (value line t (choice e a b)) =
        then_costs (events_of e) (events_of a + events_of b) _ _ (value_costs e) λ x.
        cost_wider (events_of b + events_of a) (events_of a + events_of b) _ (omega arith)
        (either_costs (events_of b) (events_of a) (x == 0) _ _ (value_costs b) (value_costs a))
    value_costs (value line t (sequence dropped last)) =
        then_costs (events_in dropped) (events_of last) _ _ (values_cost dropped) (λ xs. value_costs last)
    value_costs (value line t (assignment p e)) =
        then_costs (events_at p) (events_of e + 1) _ _ (place_costs p) λ l.
        then_costs (events_of e) 1 _ _ (value_costs e) λ x. then_free 1 _ _ (store_costs l x) (λ done w. omega arith)
    value_costs (value line t (update is_after p first op at ty e)) =
        then_costs (events_at p) (1 + (events_of e + 1)) _ _ (place_costs p) λ l.
        then_costs 1 (events_of e + 1) _ _ (fetch_costs l) λ old.
        then_costs (events_of e) 1 _ _ (value_costs e) λ x.
        then_costs 0 1 _ _ (computed_costs at _) λ result. then_free 1 _ _ (store_costs l _) (λ done w. omega arith)
    value_costs (value line t (move is_after p is_less at e)) =
        then_costs (events_at p) (1 + (events_of e + 1)) _ _ (place_costs p) λ l.
        then_costs 1 (events_of e + 1) _ _ (fetch_costs l) λ old.
        then_costs (events_of e) 1 _ _ (value_costs e) λ x.
        then_costs 0 1 _ _ (computed_costs at _) λ new. then_free 1 _ _ (store_costs l new) (λ done w. omega arith)
    value_costs (value line t (conversion first e)) = then_free (events_of e) _ _ (value_costs e) (λ x w. omega arith)
    value_costs (value line t (to_bool first e)) = then_free (events_of e) _ _ (value_costs e) (λ x w. omega arith)
    value_costs (value line t (requalified e)) = value_costs e
    value_costs (value line t (discarded e)) = value_costs e
    value_costs (value line t (call at n es)) = then_free (events_in es) _ _ (values_cost es) (λ xs. calls at _ xs)
    value_costs (value line t (call_through at e es)) =
        then_costs (events_of e) (events_in es) _ _ (value_costs e) λ v. then_free (events_in es) _ _ (values_cost es) (λ xs. called at v xs)
    value_costs (value line t (putchar at e)) =
        then_costs (events_of e) 1 _ _ (value_costs e) λ x.
        then_free 1 (happens (Byte (x % 256))) (λ done. pure (x % 256)) (happens_costs (Byte (x % 256))) (λ done. pure_costs (x % 256))
    value_costs (value line t (getchar at)) = λ w. omega arith
    value_costs (value line t (exit at e)) = then_costs (events_of e) 1 _ _ (value_costs e) (λ x. exits_costs ℕ x)

    pub values_cost : (es : Values) → CostsAtMost (events_in es) (values_of s es)
    values_cost no_values = λ w. omega arith
    values_cost (first_value e es) =
        then_costs (events_of e) (events_in es) _ _ (value_costs e) λ x. then_free (events_in es) _ _ (values_cost es) (λ xs w. omega arith)
