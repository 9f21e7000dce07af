-- Expressions without calls, writes and volatile reads give no event and leave the world as it was.
use Rattle.std.proofs.Common.{◌≡◌, ℕ, ◌==◌, Bool, true, false, refl, sym, subst, Result, Ok, Err}
use Rattle.srmt_base.specs.declared.trap.Trap.{Trap}
use Rattle.c_types.specs.Types.{CType, Qualified, ty_of}
use Rattle.c_typed.specs.Typed.{Place, place, local, static, text, pointed, element, Value, value, constant, null, read, first_element, address, function, minus, complement, negation, arithmetic, sum, difference, comparison, conjunction, disjunction, choice, sequence, assignment, update, move, conversion, to_bool, requalified, discarded, call, call_through, putchar, getchar, exit, Values, no_values, first_value, place_type, type_of}
use Rattle.source_meaning.specs.World.{World, Outcome, Gives, Ends, Doing, and_then, ◌>>=◌, pure, either, computed}
use Rattle.srmt_base.specs.declared.op.Op.TheVariants.{Xor}
use Rattle.srmt_base.specs.Arith.{arith_of}
use Rattle.srmt_base.specs.Memory.{read_of}
use Rattle.source_meaning.specs.Places.{Setting, Location, register, cell, cell_of, row_of, location_of_local, fetch}
use Rattle.source_meaning.specs.Expressions.{moved, location_of, value_of, values_of}
use Rattle.source_meaning.specs.Quiet.{IsQuiet, IsQuietPlace, AreQuiet, Leaves, OnlyComputes}

then_leaves : {A B : Type 0} (w : World) (o : Outcome A) (f : A → Doing B) → Leaves w o → ((a : A) → OnlyComputes (f a)) → Leaves w (and_then o f)
then_leaves w (Gives a after) f h k = subst (λ x. Leaves w (f a x)) (sym h) (k a w)
then_leaves w (Ends end events) f h k = h

then_computes : {A B : Type 0} (m : Doing A) (f : A → Doing B) → OnlyComputes m → ((a : A) → OnlyComputes (f a)) → OnlyComputes (m >>= f)
then_computes m f h k w = then_leaves w (m w) f (h w) k

either_computes : {A : Type 0} (b : Bool) (m n : Doing A) → OnlyComputes m → OnlyComputes n → OnlyComputes (either b m n)
either_computes true m n h k = h
either_computes false m n h k = k

computed_computes : {A : Type 0} (line : ℕ) (r : Result A Trap) → OnlyComputes (computed line r)
computed_computes line (Ok a) w = refl
computed_computes line (Err trap) w = (tt, refl)

moved_computes : (line : ℕ) (is_less pointer_first : Bool) (t u : CType) (x y : ℕ) → OnlyComputes (moved line is_less pointer_first t u x y)
moved_computes line is_less true t u x y = computed_computes line _
moved_computes line is_less false t u x y = computed_computes line _

-- a location is found, through which an access is volatile as its lvalue says
IsThrough : Bool → Location → Type 0
IsThrough is_volatile (register n) = Unit {0}
IsThrough is_volatile (cell v line pointer) = v ≡ is_volatile

Finds : Bool → World → Outcome Location → Type 0
unfolding IsThrough
Finds is_volatile w (Gives l after) = IsThrough is_volatile l × (after ≡ w)
Finds is_volatile w (Ends end events) = Leaves {A = Location} w (Ends end events)

Locates : Bool → Doing Location → Type 0
unfolding Finds
Locates is_volatile m = (w : World) → Finds is_volatile w (m w)

found_leaves : {B : Type 0} (v : Bool) (w : World) (o : Outcome Location) (f : Location → Doing B)
    → Finds v w o → ((l : Location) → IsThrough v l → OnlyComputes (f l)) → Leaves w (and_then o f)
unfolding Finds
found_leaves v w (Gives l after) f h k = subst (λ x. Leaves w (f l x)) (sym h.1) (k l h.0 w)
found_leaves v w (Ends end events) f h k = h

then_found : {B : Type 0} (v : Bool) (m : Doing Location) (f : Location → Doing B)
    → Locates v m → ((l : Location) → IsThrough v l → OnlyComputes (f l)) → OnlyComputes (m >>= f)
unfolding Locates
then_found v m f h k w = found_leaves v w (m w) f (h w) k

then_locates : {A : Type 0} (v : Bool) (m : Doing A) (f : A → Doing Location)
    → OnlyComputes m → ((a : A) → Locates v (f a)) → Locates v (m >>= f)
unfolding Locates Finds
then_locates {A} v m f h k w = by_outcome (m w) (h w)
  where
    by_outcome : (o : Outcome A) → Leaves w o → Finds v w (and_then o f)
    by_outcome (Gives a after) e = subst (λ x. Finds v w (f a x)) (sym e) (k a w)
    by_outcome (Ends end events) e = e

either_locates : (v b : Bool) (m n : Doing Location) → Locates v m → Locates v n → Locates v (either b m n)
either_locates v true m n h k = h
either_locates v false m n h k = k

cell_locates : (t : Qualified) (line pointer : ℕ) → Locates t.qualifiers.is_volatile (pure (cell_of t line pointer))
unfolding Locates IsThrough
cell_locates t line pointer w = (refl, refl)

local_locates : (s : Setting) (n : ℕ) (t : Qualified) (line : ℕ) → Locates t.qualifiers.is_volatile (location_of_local s n t line)
unfolding Locates IsThrough
local_locates s n t line =
    either_locates t.qualifiers.is_volatile (row_of s n).is_placed _ _ (λ w. (refl, refl)) (λ w. (tt, refl))

fetch_computes : (l : Location) → IsThrough false l → OnlyComputes (fetch l)
unfolding IsThrough
fetch_computes (register n) h w = refl
fetch_computes (cell v line pointer) h w =
    subst (λ b. OnlyComputes (fetch (cell b line pointer))) (sym h)
    (λ w. then_leaves w (computed line (read_of w.memory pointer) w) _ (computed_computes line (read_of w.memory pointer) w) (λ a u. refl)) w

module _ (s : Setting) where
  mutual
    unfolding IsQuiet value_of

    quiet_place : (p : Place) → IsQuietPlace p → Locates (place_type p).qualifiers.is_volatile (location_of s p)
    quiet_place (place line t (local n)) h = local_locates s n t line
    quiet_place (place line t (static n)) h = cell_locates t line _
    quiet_place (place line t (text n)) h = cell_locates t line _
    quiet_place (place line t (pointed e)) h = then_locates _ _ _ (quiet_value e h) (λ x. cell_locates t line x)
    quiet_place (place line t (element at pointer_first a b)) h =
        then_locates _ _ _ (quiet_value a h.0) λ x.
        then_locates _ _ _ (quiet_value b h.1) λ y.
        then_locates _ _ _ (moved_computes at false pointer_first _ _ x y) λ z. cell_locates t at z

    pub quiet_value : (e : Value) → IsQuiet e → OnlyComputes (value_of s e)
    quiet_value (value line t (constant n)) h = λ w. refl
    quiet_value (value line t null) h = λ w. refl
    quiet_value (value line t (read p)) h =
        then_found _ _ _ (quiet_place p h.1) (λ l k. fetch_computes l (subst (λ b. IsThrough b l) h.0 k))
    quiet_value (value line t (first_element p)) h = then_found _ _ _ (quiet_place p h) (λ l k w. refl)
    quiet_value (value line t (address p)) h = then_found _ _ _ (quiet_place p h) (λ l k w. refl)
    quiet_value (value line t (function n)) h = λ w. refl
    quiet_value (value line t (minus e)) h = then_computes _ _ (quiet_value e h) (λ x. computed_computes line _)
    quiet_value (value line t (complement e)) h =
        then_computes _ _ (quiet_value e h) λ x. computed_computes line (arith_of Xor (ty_of (type_of e)) x 4294967295)
    quiet_value (value line t (negation e)) h = then_computes _ _ (quiet_value e h) (λ x w. refl)
    quiet_value (value line t (arithmetic op at a b)) h =
        then_computes _ _ (quiet_value a h.0) λ x. then_computes _ _ (quiet_value b h.1) λ y. computed_computes at _
    quiet_value (value line t (sum at is_less pointer_first a b)) h =
        then_computes _ _ (quiet_value a h.0) λ x. then_computes _ _ (quiet_value b h.1) λ y. moved_computes at is_less pointer_first _ _ x y
    quiet_value (value line t (difference at a b)) h =
        then_computes _ _ (quiet_value a h.0) λ x. then_computes _ _ (quiet_value b h.1) λ y. computed_computes at _
    quiet_value (value line t (comparison op at a b)) h =
        then_computes _ _ (quiet_value a h.0) λ x. then_computes _ _ (quiet_value b h.1) λ y. computed_computes at _
    quiet_value (value line t (conjunction a b)) h =
        then_computes _ _ (quiet_value a h.0) λ x.
        either_computes (x == 0) _ _ (λ w. refl) (then_computes _ _ (quiet_value b h.1) (λ y w. refl))
    quiet_value (value line t (disjunction a b)) h =
        then_computes _ _ (quiet_value a h.0) λ x.
        either_computes (x == 0) _ _ (then_computes _ _ (quiet_value b h.1) (λ y w. refl)) (λ w. refl)
    quiet_value (value line t (choice e a b)) h =
        then_computes _ _ (quiet_value e h.0) λ x. either_computes (x == 0) _ _ (quiet_value b h.2) (quiet_value a h.1)
    quiet_value (value line t (sequence dropped last)) h = then_computes _ _ (quiet_values dropped h.0) (λ x. quiet_value last h.1)
    quiet_value (value line t (assignment p e)) h = absurd h
    quiet_value (value line t (update is_after p first op at ty e)) h = absurd h
    quiet_value (value line t (move is_after p is_less at e)) h = absurd h
    quiet_value (value line t (conversion first e)) h = then_computes _ _ (quiet_value e h) (λ x w. refl)
    quiet_value (value line t (to_bool first e)) h = then_computes _ _ (quiet_value e h) (λ x w. refl)
    quiet_value (value line t (requalified e)) h = quiet_value e h
    quiet_value (value line t (discarded e)) h = quiet_value e h
    quiet_value (value line t (call at n es)) h = absurd h
    quiet_value (value line t (call_through at e es)) h = absurd h
    quiet_value (value line t (putchar at e)) h = absurd h
    quiet_value (value line t (getchar at)) h = absurd h
    quiet_value (value line t (exit at e)) h = absurd h

    quiet_values : (es : Values) → AreQuiet es → OnlyComputes (values_of s es)
    quiet_values no_values h = λ w. refl
    quiet_values (first_value e es) h =
        then_computes _ _ (quiet_value e h.0) λ x. then_computes _ _ (quiet_values es h.1) λ xs w. refl
