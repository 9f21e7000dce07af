-- Expressions give numbers of 44 bits, and store such.
use Rattle.std.proofs.Common.{ℕ, zero, suc, ◌%◌, ◌==◌, ◌<◌, ◌≤◌, ◌^◌, Bool, true, false, List, [], ◌∷◌, Result, Ok, Err, arith}
use Rattle.std.specs.Prelude.{IfOk, if◌then◌else◌}
use Rattle.srmt_base.specs.declared.event.Event.{Event}
use Rattle.srmt_base.specs.declared.event.Event.TheVariants.{Byte, PortRead, PortWrite}
use Rattle.srmt_base.specs.declared.op.Op.{Op}
use Rattle.srmt_base.specs.declared.op.Op.TheVariants.{Sub, Xor}
use Rattle.srmt_base.specs.declared.part.Part.{Part}
use Rattle.srmt_base.specs.declared.part.Part.TheVariants.{Protected, Binary}
use Rattle.srmt_base.specs.declared.trap.Trap.{Trap}
use Rattle.srmt_base.specs.declared.ty.Ty.{Ty}
use Rattle.srmt_base.specs.Arith.{arith_of}
use Rattle.srmt_base.specs.Convert.{convert_of}
use Rattle.srmt_base.specs.Input.{next_byte}
use Rattle.srmt_base.specs.Pointer.{pointer_sum_of}
use Rattle.srmt_base.specs.Objects.{object_part, offset_part}
use Rattle.srmt_base.specs.Memory.{read_of, write_of}
use Rattle.srmt_base.proofs.Ranges.{arith_of-lt, convert_of-lt, pointer_sum_of-lt, pointer_difference_of-lt, pointer_comparison_of-lt}
use Rattle.c_types.specs.Types.{CType, Qualified, ty_of}
use Rattle.c_typed.specs.Typed.{Place, place, local, static, text, pointed, element, Value, value, constant, null, read, first_element, address, function, minus, complement, negation, arithmetic, sum, difference, comparison, conjunction, disjunction, choice, sequence, assignment, update, move, conversion, to_bool, requalified, discarded, call, call_through, putchar, getchar, exit, Values, no_values, first_value, type_of, place_type}
use Rattle.c_typed.specs.Statements.{Program}
use Rattle.source_meaning.specs.World.{Gives, pure, either, computed, happens, reads_byte}
use Rattle.source_meaning.specs.Places.{Setting, Location, register, cell, address_in, row_of, address_of_text, location_of_local, fetch, store}
use Rattle.source_meaning.specs.Expressions.{scale_of, truth, moved, call_of_value, location_of, value_of, values_of}
use Rattle.source_meaning.specs.Values.{IsValue, AreValues, GivesSuch, Makes, HasValues, HasPlace, HaveValues, NamesValues, CallsWithValues}
use Rattle.source_meaning.proofs.ValueLemmas.{then_makes, either_makes, computed_makes, index_small, Anything, read_small, write_holds, remembers_makes, set_local_makes, of_world}

pub IsAt : Location → Type 0
IsAt (register n) = Unit {0}
IsAt (cell is_volatile line pointer) = IsValue pointer

pub wider : (bound : ℕ) (r : Result ℕ Trap) → bound ≤ 2 ^ 44 → IfOk r (λ v. v < bound) → IfOk r IsValue
wider bound (Ok v) small h = omega arith
wider bound (Err trap) small h = tt

pub truth_small : (v : ℕ) → IsValue (truth v)
truth_small v = by_test (v == 0)
  where
    by_test : (b : Bool) → IsValue (if b then 0 else 1)
    by_test true = omega arith
    by_test false = omega arith

opposite_small : (b : Bool) → IsValue (if b then 1 else 0)
opposite_small true = omega arith
opposite_small false = omega arith

old_or_new : (b : Bool) (old new : ℕ) → IsValue old → IsValue new → IsValue (if b then old else new)
old_or_new true old new h k = h
old_or_new false old new h k = k

happens_makes : (event : Event) → Makes Anything (happens event)
happens_makes event w holds = (tt, record { protected = holds.protected; binary = holds.binary; input = holds.input; locals = holds.locals })

happens_if_makes : (test : Bool) (event : Event) → Makes Anything (either test (happens event) (pure tt))
happens_if_makes test event = either_makes Anything test _ _ (happens_makes event) (λ w holds. (tt, holds))

pub local_makes : (s : Setting) (n : ℕ) (t : Qualified) (line : ℕ) → Makes IsAt (location_of_local s n t line)
unfolding IsAt
local_makes s n t line =
    either_makes IsAt (row_of s n).is_placed _ _ (λ w holds. (index_small w.locals n holds.locals, holds)) (λ w holds. (tt, holds))

pub fetch_makes : (l : Location) → IsAt l → Makes IsValue (fetch l)
unfolding IsAt
fetch_makes (register n) at = λ w holds. (index_small w.locals n holds.locals, holds)
fetch_makes (cell is_volatile line pointer) at = λ w holds.
    then_makes IsValue IsValue (computed line (read_of w.memory pointer)) _ (computed_makes line (read_of w.memory pointer) (read_small w.memory pointer (of_world w holds)))
    (λ v small. then_makes Anything IsValue _ _ (happens_if_makes is_volatile (PortRead (object_part pointer) (offset_part pointer))) (λ done h w holds. (small, holds))) w holds

pub store_makes : (l : Location) (v : ℕ) → IsValue v → Makes Anything (store l v)
store_makes (register n) v small = set_local_makes n v small
store_makes (cell is_volatile line pointer) v small =
    then_makes Anything Anything _ _ (remembers_makes line (λ memory. write_of memory pointer v) (λ m h. write_holds m pointer v h small))
    (λ done h. happens_if_makes is_volatile (PortWrite (object_part pointer) (offset_part pointer) v))

moved_makes : (line : ℕ) (is_less pointer_first : Bool) (t u : CType) (x y : ℕ) → IsValue x → IsValue y → Makes IsValue (moved line is_less pointer_first t u x y)
moved_makes line is_less true t u x y h k = computed_makes line (pointer_sum_of x (ty_of u) y is_less (scale_of t)) (pointer_sum_of-lt x (ty_of u) y is_less (scale_of t) h)
moved_makes line is_less false t u x y h k = computed_makes line (pointer_sum_of y (ty_of t) x is_less (scale_of u)) (pointer_sum_of-lt y (ty_of t) x is_less (scale_of u) k)

byte_makes : Makes IsValue reads_byte
byte_makes w holds = by_input w.input holds.input
  where
    by_input : (input : List ℕ) → AreValues input → GivesSuch IsValue (let next = next_byte input in Gives next.value (record w { input = next.rest }))
    by_input [] h = (omega arith, record { protected = holds.protected; binary = holds.binary; input = tt; locals = holds.locals })
    by_input (byte ∷ rest) h = (h.0, record { protected = holds.protected; binary = holds.binary; input = h.1; locals = holds.locals })

text_small : (part : Part) (program : Program) (n : ℕ) → NamesValues program → n ≤ 1048576 → IsValue (address_of_text part program n)
text_small Protected program n names low = omega (arith, names.main_statics, low)
text_small Binary program n names low = omega (arith, names.binary_statics, low)

pub arithmetic_makes : (line : ℕ) (op : Op) (ty : Ty) (x y : ℕ) → Makes IsValue (computed line (arith_of op ty x y))
arithmetic_makes line op ty x y = computed_makes line (arith_of op ty x y) (wider (2 ^ 32) (arith_of op ty x y) (omega arith) (arith_of-lt op ty x y))

converted_small : (from to : Ty) (x : ℕ) → IsValue (convert_of from to x)
converted_small from to x = omega (arith, convert_of-lt from to x)

address_small : (l : Location) → IsAt l → IsValue (address_in l)
unfolding IsAt
address_small (register n) h = omega arith
address_small (cell is_volatile line pointer) h = h

remainder_small : (n : ℕ) → IsValue (n % 256)
remainder_small n = omega arith

module _ (s : Setting) (names : NamesValues s.program) (calls : CallsWithValues s.call) where
  called : (line v : ℕ) (arguments : List ℕ) → AreValues arguments → Makes IsValue (call_of_value s line v arguments)
  called line zero arguments h = λ w holds. tt
  called line (suc v) arguments h = calls line (suc v) arguments h

  mutual
    unfolding IsAt HasValues value_of

    place_makes : (p : Place) → HasPlace p → Makes IsAt (location_of s p)
    place_makes (place line t (local n)) h = local_makes s n t line
    place_makes (place line t (static n)) h = λ w holds. (names.entities n, holds)
    place_makes (place line t (text n)) h = λ w holds. (text_small s.part s.program n names h, holds)
    place_makes (place line t (pointed e)) h = then_makes IsValue IsAt _ _ (value_makes e h) (λ x small w holds. (small, holds))
    place_makes (place line t (element at pointer_first a b)) h =
        then_makes IsValue IsAt _ _ (value_makes a h.0) λ x i.
        then_makes IsValue IsAt _ _ (value_makes b h.1) λ y j.
        then_makes IsValue IsAt _ _ (moved_makes at false pointer_first _ _ x y i j) (λ z small w holds. (small, holds))

    pub value_makes : (e : Value) → HasValues e → Makes IsValue (value_of s e)
    value_makes (value line t (constant n)) h = λ w holds. (h, holds)
    value_makes (value line t null) h = λ w holds. (omega arith, holds)
    value_makes (value line t (read p)) h = then_makes IsAt IsValue _ _ (place_makes p h) (λ l at. fetch_makes l at)
    value_makes (value line t (first_element p)) h = then_makes IsAt IsValue _ _ (place_makes p h) (λ l at w holds. (address_small l at, holds))
    value_makes (value line t (address p)) h = then_makes IsAt IsValue _ _ (place_makes p h) (λ l at w holds. (address_small l at, holds))
    value_makes (value line t (function n)) h = λ w holds. (names.entities n, holds)
    value_makes (value line t (minus e)) h =
        then_makes IsValue IsValue _ _ (value_makes e h) (λ x i. arithmetic_makes line Sub (ty_of (type_of e)) 0 x)
    value_makes (value line t (complement e)) h =
        then_makes IsValue IsValue _ _ (value_makes e h) (λ x i. arithmetic_makes line Xor (ty_of (type_of e)) x 4294967295)
    value_makes (value line t (negation e)) h = then_makes IsValue IsValue _ _ (value_makes e h) (λ x i w holds. (opposite_small (x == 0), holds))
    value_makes (value line t (arithmetic op at a b)) h =
        then_makes IsValue IsValue _ _ (value_makes a h.0) λ x i.
        then_makes IsValue IsValue _ _ (value_makes b h.1) λ y j. arithmetic_makes at op (ty_of (type_of a)) x y
    value_makes (value line t (sum at is_less pointer_first a b)) h =
        then_makes IsValue IsValue _ _ (value_makes a h.0) λ x i.
        then_makes IsValue IsValue _ _ (value_makes b h.1) λ y j. moved_makes at is_less pointer_first _ _ x y i j
    value_makes (value line t (difference at a b)) h =
        then_makes IsValue IsValue _ _ (value_makes a h.0) λ x i.
        then_makes IsValue IsValue _ _ (value_makes b h.1) λ y j.
        computed_makes at _ (wider (2 ^ 32) _ (omega arith) (pointer_difference_of-lt x y (scale_of (type_of a))))
    value_makes (value line t (comparison op at a b)) h =
        then_makes IsValue IsValue _ _ (value_makes a h.0) λ x i.
        then_makes IsValue IsValue _ _ (value_makes b h.1) λ y j.
        computed_makes at _ (wider 2 _ (omega arith) (pointer_comparison_of-lt op x y))
    value_makes (value line t (conjunction a b)) h =
        then_makes IsValue IsValue _ _ (value_makes a h.0) λ x i.
        either_makes IsValue (x == 0) _ _ (λ w holds. (omega arith, holds))
        (then_makes IsValue IsValue _ _ (value_makes b h.1) (λ y j w holds. (truth_small y, holds)))
    value_makes (value line t (disjunction a b)) h =
        then_makes IsValue IsValue _ _ (value_makes a h.0) λ x i.
        either_makes IsValue (x == 0) _ _
        (then_makes IsValue IsValue _ _ (value_makes b h.1) (λ y j w holds. (truth_small y, holds))) (λ w holds. (omega arith, holds))
    value_makes (value line t (choice e a b)) h =
        then_makes IsValue IsValue _ _ (value_makes e h.0) λ x i. either_makes IsValue (x == 0) _ _ (value_makes b h.2) (value_makes a h.1)
    value_makes (value line t (sequence dropped last)) h =
        then_makes AreValues IsValue _ _ (values_make dropped h.0) (λ xs small. value_makes last h.1)
    value_makes (value line t (assignment p e)) h =
        then_makes IsAt IsValue _ _ (place_makes p h.0) λ l at.
        then_makes IsValue IsValue _ _ (value_makes e h.1) λ x i.
        then_makes Anything IsValue _ _ (store_makes l x i) (λ done k w holds. (i, holds))
    value_makes (value line t (update is_after p first op at ty e)) h =
        then_makes IsAt IsValue _ _ (place_makes p h.0) λ l there.
        then_makes IsValue IsValue _ _ (fetch_makes l there) λ old i.
        then_makes IsValue IsValue _ _ (value_makes e h.1) λ x j.
        then_makes IsValue IsValue _ _ (arithmetic_makes at op ty (convert_of (ty_of (place_type p).type) ty old) x) λ result k.
        then_makes Anything IsValue _ _ (store_makes l _ (converted_small ty (ty_of (place_type p).type) result))
        (λ done z w holds. (old_or_new is_after old _ i (converted_small ty (ty_of (place_type p).type) result), holds))
    value_makes (value line t (move is_after p is_less at e)) h =
        then_makes IsAt IsValue _ _ (place_makes p h.0) λ l there.
        then_makes IsValue IsValue _ _ (fetch_makes l there) λ old i.
        then_makes IsValue IsValue _ _ (value_makes e h.1) λ x j.
        then_makes IsValue IsValue _ _ (moved_makes at is_less true (place_type p).type (type_of e) old x i j) λ new k.
        then_makes Anything IsValue _ _ (store_makes l new k) (λ done z w holds. (old_or_new is_after old new i k, holds))
    value_makes (value line t (conversion first e)) h =
        then_makes IsValue IsValue _ _ (value_makes e h) (λ x i w holds. (converted_small (ty_of (type_of e)) (ty_of t) x, holds))
    value_makes (value line t (to_bool first e)) h = then_makes IsValue IsValue _ _ (value_makes e h) (λ x i w holds. (truth_small x, holds))
    value_makes (value line t (requalified e)) h = value_makes e h
    value_makes (value line t (discarded e)) h = value_makes e h
    value_makes (value line t (call at n es)) h = then_makes AreValues IsValue _ _ (values_make es h) (λ xs small. calls at _ xs small)
    value_makes (value line t (call_through at e es)) h =
        then_makes IsValue IsValue _ _ (value_makes e h.0) λ v i.
        then_makes AreValues IsValue _ _ (values_make es h.1) (λ xs small. called at v xs small)
    value_makes (value line t (putchar at e)) h =
        then_makes IsValue IsValue _ _ (value_makes e h) λ x i.
        then_makes Anything IsValue (happens (Byte (x % 256))) (λ done. pure (x % 256)) (happens_makes (Byte (x % 256))) (λ done k w holds. (remainder_small x, holds))
    value_makes (value line t (getchar at)) h = byte_makes
    value_makes (value line t (exit at e)) h = then_makes IsValue IsValue _ _ (value_makes e h) (λ x i w holds. tt)

    pub values_make : (es : Values) → HaveValues es → Makes AreValues (values_of s es)
    values_make no_values h = λ w holds. (tt, holds)
    values_make (first_value e es) h =
        then_makes IsValue AreValues _ _ (value_makes e h.0) λ x i.
        then_makes AreValues AreValues _ _ (values_make es h.1) (λ xs small w holds. ((i, small), holds))
