-- What a construct comes to does not depend on the bound of the calls and loops in it.
use Rattle.std.proofs.Common.{ℕ, zero, suc, ◌==◌, Bool, true, false, List, refl}
use Rattle.srmt_base.specs.declared.event.Event.{Event}
use Rattle.srmt_base.specs.declared.event.Event.TheVariants.{PortRead, PortWrite}
use Rattle.srmt_base.specs.declared.op.Op.TheVariants.{Xor}
use Rattle.srmt_base.specs.Arith.{arith_of}
use Rattle.srmt_base.specs.Objects.{object_part, offset_part}
use Rattle.srmt_base.specs.Memory.{read_of, write_of}
use Rattle.c_types.specs.Types.{CType, Qualified, ty_of}
use Rattle.c_typed.specs.Typed.{Place, place, local, static, text, pointed, element, Value, value, constant, null, read, first_element, address, function, minus, complement, negation, arithmetic, sum, difference, comparison, conjunction, disjunction, choice, sequence, assignment, update, move, conversion, to_bool, requalified, discarded, call, call_through, putchar, getchar, exit, Values, no_values, first_value, type_of}
use Rattle.source_meaning.specs.World.{Doing, pure, either, computed, happens}
use Rattle.source_meaning.specs.Places.{Setting, Location, register, cell, row_of, location_of_local, fetch, store}
use Rattle.source_meaning.specs.Expressions.{moved, call_of_value, location_of, value_of, values_of}
use Rattle.source_meaning.proofs.Agreeing.{Agree, Keeps, then_agree, either_agree, pure_keeps, computed_keeps, remembers_keeps}

happens_if_keeps : (test : Bool) (event : Event) → Keeps (either test (happens event) (pure tt))
happens_if_keeps true event b w low = (refl, low)
happens_if_keeps false event b w low = (refl, low)

pub local_keeps : (s : Setting) (n : ℕ) (t : Qualified) (line : ℕ) → Keeps (location_of_local s n t line)
local_keeps s n t line b = either_agree b b (row_of s n).is_placed _ _ _ _ (λ w low. (refl, low)) (λ w low. (refl, low))

fetch_keeps : (l : Location) → Keeps (fetch l)
fetch_keeps (register n) b = λ w low. (refl, low)
fetch_keeps (cell is_volatile line pointer) b = λ w low.
    then_agree b b b (computed line (read_of w.memory pointer)) (computed line (read_of w.memory pointer)) _ _ (computed_keeps line (read_of w.memory pointer) b)
    (λ v. then_agree b b b _ _ _ _ (happens_if_keeps is_volatile (PortRead (object_part pointer) (offset_part pointer)) b) (λ done. pure_keeps v b)) w low

pub store_keeps : (l : Location) (v : ℕ) → Keeps (store l v)
store_keeps (register n) v b = λ w low. (refl, low)
store_keeps (cell is_volatile line pointer) v b =
    then_agree b b b _ _ _ _ (remembers_keeps line (λ memory. write_of memory pointer v) b)
    (λ done. happens_if_keeps is_volatile (PortWrite (object_part pointer) (offset_part pointer) v) b)

moved_keeps : (line : ℕ) (is_less pointer_first : Bool) (t u : CType) (x y : ℕ) → Keeps (moved line is_less pointer_first t u x y)
moved_keeps line is_less true t u x y = computed_keeps line _
moved_keeps line is_less false t u x y = computed_keeps line _

module _ (b : ℕ) (s : Setting) (other : (line number : ℕ) (arguments : List ℕ) → Doing ℕ)
    (calls : (line number : ℕ) (arguments : List ℕ) → Agree b b (s.call line number arguments) (other line number arguments)) where
  abbrev next : Setting
  next = record s { call = other }

  called : (line v : ℕ) (arguments : List ℕ) → Agree b b (call_of_value s line v arguments) (call_of_value next line v arguments)
  called line zero arguments = λ w low. (refl, tt)
  called line (suc v) arguments = calls line (suc v) arguments

  mutual
    unfolding value_of

    place_agrees : (p : Place) → Agree b b (location_of s p) (location_of next p)
    place_agrees (place line t (local n)) = local_keeps s n t line b
    place_agrees (place line t (static n)) = λ w low. (refl, low)
    place_agrees (place line t (text n)) = λ w low. (refl, low)
    place_agrees (place line t (pointed e)) = then_agree b b b _ _ _ _ (value_agrees e) (λ x w low. (refl, low))
    place_agrees (place line t (element at pointer_first x y)) =
        then_agree b b b _ _ _ _ (value_agrees x) λ i.
        then_agree b b b _ _ _ _ (value_agrees y) λ j.
        then_agree b b b _ _ _ _ (moved_keeps at false pointer_first _ _ i j b) (λ z w low. (refl, low))

    pub value_agrees : (e : Value) → Agree b b (value_of s e) (value_of next e)
    value_agrees (value line t (constant n)) = λ w low. (refl, low)
    value_agrees (value line t null) = λ w low. (refl, low)
    value_agrees (value line t (read p)) = then_agree b b b _ _ _ _ (place_agrees p) (λ l. fetch_keeps l b)
    value_agrees (value line t (first_element p)) = then_agree b b b _ _ _ _ (place_agrees p) (λ l w low. (refl, low))
    value_agrees (value line t (address p)) = then_agree b b b _ _ _ _ (place_agrees p) (λ l w low. (refl, low))
    value_agrees (value line t (function n)) = λ w low. (refl, low)
    value_agrees (value line t (minus e)) = then_agree b b b _ _ _ _ (value_agrees e) (λ x. computed_keeps line _ b)
    value_agrees (value line t (complement e)) =
        then_agree b b b _ _ _ _ (value_agrees e) (λ x. computed_keeps line (arith_of Xor (ty_of (type_of e)) x 4294967295) b)
    value_agrees (value line t (negation e)) = then_agree b b b _ _ _ _ (value_agrees e) (λ x w low. (refl, low))
    value_agrees (value line t (arithmetic op at x y)) =
        then_agree b b b _ _ _ _ (value_agrees x) λ i. then_agree b b b _ _ _ _ (value_agrees y) λ j. computed_keeps at _ b
    value_agrees (value line t (sum at is_less pointer_first x y)) =
        then_agree b b b _ _ _ _ (value_agrees x) λ i.
        then_agree b b b _ _ _ _ (value_agrees y) λ j. moved_keeps at is_less pointer_first _ _ i j b
    value_agrees (value line t (difference at x y)) =
        then_agree b b b _ _ _ _ (value_agrees x) λ i. then_agree b b b _ _ _ _ (value_agrees y) λ j. computed_keeps at _ b
    value_agrees (value line t (comparison op at x y)) =
        then_agree b b b _ _ _ _ (value_agrees x) λ i. then_agree b b b _ _ _ _ (value_agrees y) λ j. computed_keeps at _ b
    value_agrees (value line t (conjunction x y)) =
        then_agree b b b _ _ _ _ (value_agrees x) λ i.
        either_agree b b (i == 0) _ _ _ _ (λ w low. (refl, low)) (then_agree b b b _ _ _ _ (value_agrees y) (λ j w low. (refl, low)))
    value_agrees (value line t (disjunction x y)) =
        then_agree b b b _ _ _ _ (value_agrees x) λ i.
        either_agree b b (i == 0) _ _ _ _ (then_agree b b b _ _ _ _ (value_agrees y) (λ j w low. (refl, low))) (λ w low. (refl, low))
    value_agrees (value line t (choice e x y)) =
        then_agree b b b _ _ _ _ (value_agrees e) λ i. either_agree b b (i == 0) _ _ _ _ (value_agrees y) (value_agrees x)
    value_agrees (value line t (sequence dropped last)) = then_agree b b b _ _ _ _ (values_agree dropped) (λ x. value_agrees last)
    value_agrees (value line t (assignment p e)) =
        then_agree b b b _ _ _ _ (place_agrees p) λ l.
        then_agree b b b _ _ _ _ (value_agrees e) λ x.
        then_agree b b b _ _ _ _ (store_keeps l x b) (λ done w low. (refl, low))
    value_agrees (value line t (update is_after p first op at ty e)) =
        then_agree b b b _ _ _ _ (place_agrees p) λ l.
        then_agree b b b _ _ _ _ (fetch_keeps l b) λ old.
        then_agree b b b _ _ _ _ (value_agrees e) λ x.
        then_agree b b b _ _ _ _ (computed_keeps at _ b) λ result.
        then_agree b b b _ _ _ _ (store_keeps l _ b) (λ done w low. (refl, low))
    value_agrees (value line t (move is_after p is_less at e)) =
        then_agree b b b _ _ _ _ (place_agrees p) λ l.
        then_agree b b b _ _ _ _ (fetch_keeps l b) λ old.
        then_agree b b b _ _ _ _ (value_agrees e) λ x.
        then_agree b b b _ _ _ _ (computed_keeps at _ b) λ result.
        then_agree b b b _ _ _ _ (store_keeps l _ b) (λ done w low. (refl, low))
    value_agrees (value line t (conversion first e)) = then_agree b b b _ _ _ _ (value_agrees e) (λ x w low. (refl, low))
    value_agrees (value line t (to_bool first e)) = then_agree b b b _ _ _ _ (value_agrees e) (λ x w low. (refl, low))
    value_agrees (value line t (requalified e)) = value_agrees e
    value_agrees (value line t (discarded e)) = value_agrees e
    value_agrees (value line t (call at n es)) = then_agree b b b _ _ _ _ (values_agree es) (λ xs. calls at _ xs)
    value_agrees (value line t (call_through at e es)) =
        then_agree b b b _ _ _ _ (value_agrees e) λ v. then_agree b b b _ _ _ _ (values_agree es) λ xs. called at v xs
    value_agrees (value line t (putchar at e)) = then_agree b b b _ _ _ _ (value_agrees e) (λ x w low. (refl, low))
    value_agrees (value line t (getchar at)) = λ w low. (refl, low)
    value_agrees (value line t (exit at e)) = then_agree b b b _ _ _ _ (value_agrees e) (λ x w low. (refl, tt))

    pub values_agree : (es : Values) → Agree b b (values_of s es) (values_of next es)
    values_agree no_values = λ w low. (refl, low)
    values_agree (first_value e es) =
        then_agree b b b _ _ _ _ (value_agrees e) λ x. then_agree b b b _ _ _ _ (values_agree es) (λ xs w low. (refl, low))
