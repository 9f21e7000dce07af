-- Expressions (C11 6.5): a case for each construct. Operands are evaluated from left to right.
use Rattle.std.specs.Prelude.{ℕ, zero, suc, ◌%◌, ◌==◌, Bool, true, false, if◌then◌else◌, List, [], ◌∷◌}
use Rattle.srmt_base.specs.declared.event.Event.TheVariants.{Byte}
use Rattle.srmt_base.specs.declared.op.Op.TheVariants.{Sub, Xor}
use Rattle.srmt_base.specs.declared.trap.Trap.TheVariants.{NullPointer}
use Rattle.srmt_base.specs.Arith.{arith_of}
use Rattle.srmt_base.specs.Convert.{convert_of}
use Rattle.srmt_base.specs.Pointer.{pointer_sum_of, pointer_difference_of, pointer_comparison_of}
use Rattle.c_types.specs.Types.{CType, ty_of, target_of, cells_of}
use Rattle.c_typed.specs.Typed.{Place, place, local, static, text, pointed, element, Value, value, constant, null, read, first_element, address, function, minus, complement, negation, arithmetic, sum, difference, comparison, conjunction, disjunction, choice, sequence, assignment, update, move, conversion, to_bool, requalified, discarded, call, call_through, putchar, getchar, exit, Values, no_values, first_value, type_of, place_type}
use Rattle.source_meaning.specs.World.{Doing, ◌>>=◌, ◌>>◌, pure, either, traps, computed, exits, happens, reads_byte}
use Rattle.source_meaning.specs.Places.{Setting, value_of_entity, address_of_text, Location, cell_of, address_in, location_of_local, fetch, store}

-- how many cells what a pointer points to takes
abbrev pub scale_of : CType → ℕ
scale_of t = cells_of (target_of t).type

-- a pointer and an integer, the pointer or the integer first, added or subtracted in steps of what the pointer points to
abbrev pub moved : ℕ → (is_less pointer_first : Bool) → CType → CType → ℕ → ℕ → Doing ℕ
moved line is_less true t u p i = computed line (pointer_sum_of p (ty_of u) i is_less (scale_of t))
moved line is_less false u t i p = computed line (pointer_sum_of p (ty_of u) i is_less (scale_of t))

-- 1 where a value is not 0, else 0 (C11 6.3.1.2, 6.5.13p3, 6.5.14p3)
abbrev pub truth : ℕ → ℕ
truth v = if v == 0 then 0 else 1

-- the call of what a value points to (C11 6.5.2.2)
abbrev pub call_of_value : Setting → ℕ → ℕ → List ℕ → Doing ℕ
call_of_value s line zero arguments = traps NullPointer line
call_of_value s line (suc before) arguments = s.call line (suc before) arguments

module _ (s : Setting) where
  unfoldable mutual
    -- the object that an lvalue designates
    pub location_of : Place → Doing Location
    location_of (place line t (local n)) = location_of_local s n t line  -- C11 6.5.1p2
    location_of (place line t (static entity)) = pure (cell_of t line (value_of_entity s.program entity))
    location_of (place line t (text n)) = pure (cell_of t line (address_of_text s.part s.program n))  -- C11 6.5.1p4
    location_of (place line t (pointed p)) = do pure (cell_of t line (← value_of p))  -- C11 6.5.3.2p4
    -- `a[i]` is `*(a + i)` (C11 6.5.2.1p2)
    location_of (place line t (element at pointer_first a b)) = do
      pure (cell_of t at (← moved at false pointer_first (type_of a) (type_of b) (← value_of a) (← value_of b)))

    -- the value of an expression
    pub value_of : Value → Doing ℕ
    value_of (value line t (constant n)) = pure n  -- C11 6.4.4, 6.5.3.4
    value_of (value line t null) = pure 0  -- C11 6.3.2.3p3
    value_of (value line t (read p)) = do fetch (← location_of p)  -- C11 6.3.2.1p2
    value_of (value line t (first_element p)) = do pure (address_in (← location_of p))  -- C11 6.3.2.1p3
    value_of (value line t (address p)) = do pure (address_in (← location_of p))  -- C11 6.5.3.2p3
    value_of (value line t (function entity)) = pure (value_of_entity s.program entity)  -- C11 6.3.2.1p4
    -- `-e`, `~e`, `!e` (C11 6.5.3.3p3, p4, p5)
    value_of (value line t (minus e)) = do computed line (arith_of Sub (ty_of (type_of e)) 0 (← value_of e))
    value_of (value line t (complement e)) = do computed line (arith_of Xor (ty_of (type_of e)) (← value_of e) 4294967295)
    value_of (value line t (negation e)) = do pure (if (← value_of e) == 0 then 1 else 0)
    -- operators on integers (C11 6.5.5 to 6.5.12)
    value_of (value line t (arithmetic op at a b)) = do
      computed at (arith_of op (ty_of (type_of a)) (← value_of a) (← value_of b))
    -- a pointer and an integer, and two pointers (C11 6.5.6p8, p9, 6.5.8p5, 6.5.9p6)
    value_of (value line t (sum at is_less pointer_first a b)) = do
      moved at is_less pointer_first (type_of a) (type_of b) (← value_of a) (← value_of b)
    value_of (value line t (difference at a b)) = do
      computed at (pointer_difference_of (← value_of a) (← value_of b) (scale_of (type_of a)))
    value_of (value line t (comparison op at a b)) = do computed at (pointer_comparison_of op (← value_of a) (← value_of b))
    -- `&&`, `||`, `?:`: an operand that is not needed is not evaluated (C11 6.5.13p4, 6.5.14p4, 6.5.15p4)
    value_of (value line t (conjunction a b)) = value_of a >>= (λ x. either (x == 0) (pure 0) (value_of b >>= (λ y. pure (truth y))))
    value_of (value line t (disjunction a b)) = value_of a >>= (λ x. either (x == 0) (value_of b >>= (λ y. pure (truth y))) (pure 1))
    value_of (value line t (choice e a b)) = value_of e >>= (λ x. either (x == 0) (value_of b) (value_of a))
    value_of (value line t (sequence dropped last)) = values_of dropped >> value_of last  -- C11 6.5.17p2
    -- `l = e`: the value is what was written (C11 6.5.16p3)
    value_of (value line t (assignment p e)) = do
      l ← location_of p
      x ← value_of e
      store l x
      pure x
    -- `l op= e`, `++l`, `l++` on integers: computed at a type, and converted back (C11 6.5.16.2p3, 6.5.3.1p2, 6.5.2.4p2)
    value_of (value line t (update is_after p first op at ty e)) = do
      l ← location_of p
      old ← fetch l
      result ← computed at (arith_of op ty (convert_of (ty_of (place_type p).type) ty old) (← value_of e))
      let new = convert_of ty (ty_of (place_type p).type) result
      store l new
      pure (if is_after then old else new)
    -- the same on a pointer
    value_of (value line t (move is_after p is_less at e)) = do
      l ← location_of p
      old ← fetch l
      new ← moved at is_less true (place_type p).type (type_of e) old (← value_of e)
      store l new
      pure (if is_after then old else new)
    value_of (value line t (conversion first e)) = do pure (convert_of (ty_of (type_of e)) (ty_of t) (← value_of e))  -- C11 6.3.1.3
    value_of (value line t (to_bool first e)) = do pure (truth (← value_of e))  -- C11 6.3.1.2
    value_of (value line t (requalified e)) = value_of e  -- C11 6.3.2.3p2
    value_of (value line t (discarded e)) = value_of e  -- C11 6.3.2.2
    -- calls (C11 6.5.2.2p10): what is called, where it is no name, then the arguments, then the body
    value_of (value line t (call at entity es)) = do s.call at (value_of_entity s.program entity) (← values_of es)
    value_of (value line t (call_through at e es)) = do call_of_value s at (← value_of e) (← values_of es)
    -- the byte is written as an unsigned char (C11 7.21.7.8, 7.21.7.6, 7.22.4.4p5)
    value_of (value line t (putchar at e)) = value_of e >>= (λ x. happens (Byte (x % 256)) >> pure (x % 256))
    value_of (value line t (getchar at)) = reads_byte
    value_of (value line t (exit at e)) = do exits (← value_of e)

    pub values_of : Values → Doing (List ℕ)
    values_of no_values = pure []
    values_of (first_value e es) = do pure ((← value_of e) ∷ (← values_of es))
