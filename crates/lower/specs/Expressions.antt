-- Expressions: what each construct is lowered to. The value of an expression is left in the temporary `k`, where it is
-- a number, or in a new register, where it is a pointer to an object; temporaries below `k` are in use.
use Rattle.std.specs.Prelude.{ℕ, suc, ◌+◌, ◌-◌, ◌==◌, Bool, true, false, if◌then◌else◌, List, [], ◌∷◌, length, Option, Some, None, slice_get, slice_index_or}
use Rattle.srmt_base.specs.declared.op.Op.{Op}
use Rattle.srmt_base.specs.declared.op.Op.TheVariants.{Sub, Xor, Eq, Ne}
use Rattle.srmt_base.specs.declared.ty.Ty.{Ty}
use Rattle.srmt_base.specs.declared.ty.Ty.TheVariants.{Bool as BoolTy, UChar, Int, UInt}
use Rattle.srmt_base.specs.Types.{ty_code}
use Rattle.srmt_base.specs.Memory.{first_number}
use Rattle.srmt_base.specs.declared.part.Part.{Part}
use Rattle.mid_code.specs.declared.mid.Mid.{Mid}
use Rattle.mid_code.specs.declared.mid.Mid.TheVariants as mid
use Rattle.mid_code.specs.declared.program.RegisterKind.TheVariants.{Address}
use Rattle.c_types.specs.Types.{CType, Qualified, void, unqualified, ty_of, target_of, is_object_pointer, is_function_pointer}
use Rattle.c_typed.specs.Typed.{Place, place, local, static, text, pointed, element, Value, value, constant, null, read, first_element, address, function, minus, complement, negation, arithmetic, sum, difference, comparison, conjunction, disjunction, choice, sequence, assignment, update, move, conversion, to_bool, requalified, discarded, call, call_through, putchar, getchar, exit, Values, no_values, first_value, type_of}
use Rattle.c_typed.specs.Statements.{LocalRow, Program}
use Rattle.c_typed.specs.declared.program.Numbered.{Numbered}
use Rattle.c_typed.specs.declared.program.Numbered.TheVariants as numbered
use Rattle.source_meaning.specs.Places.{file_of}
use Rattle.source_meaning.specs.Expressions.{scale_of}
use Rattle.lower.specs.Emitting.{Instruction, calls, calls_through, one_at, jumped, Making, ◌>>=◌, ◌>>◌, pure, emits, emits_code, wrapped, two_ways, either, new, temporary, target_for, free_behind, home_of, type_number}

-- what is fixed in a function: the program, its part, and its table of locals
pub record Inside : Type 0 where
  pub program : Program
  pub part : Part
  pub rows : List LocalRow
  pub is_main : Bool

-- the number of a function or of an object with linkage, and of a text
abbrev pub number_of : Program → ℕ → ℕ
number_of program entity = number_if (slice_get program.entities entity)
  where
    number_if : Option Numbered → ℕ
    number_if None = 0
    number_if (Some (numbered.Function number)) = number
    number_if (Some (numbered.Object number)) = number
    number_if (Some numbered.Nowhere) = 0

abbrev pub text_number : Program → Part → ℕ → ℕ
text_number program part n = first_number part + length (file_of part program).statics + n

abbrev pub number_of_text : Inside → ℕ → ℕ
number_of_text i n = text_number i.program i.part n

-- function pointers are compared as unsigned numbers
abbrev pub compared_at : CType → Ty
compared_at t = if is_function_pointer t then UInt else ty_of t

-- a conversion stands only where two types differ
abbrev pub converts : ℕ → Ty → Ty → ℕ → Making (Unit {0})
converts line from to r = either (ty_code from == ty_code to) (pure tt) (emits line (mid.Conv from to r r))

abbrev pub emits_line : ℕ → Instruction → Making (Unit {0})
emits_line line i = emits_code (λ around start. record { line = line; instruction = i } ∷ [])

abbrev pub constant_to : ℕ → ℕ → ℕ → Making ℕ
constant_to line v r = do
  emits line (mid.Const r v)
  pure r

abbrev pub row_at : List LocalRow → ℕ → LocalRow
row_at rows n = slice_index_or rows n (record { line = 0; first = 0; type = unqualified void; is_placed = false })

abbrev pub constant_in : ℕ → ℕ → ℕ → Making ℕ
constant_in line k v = temporary k line >>= constant_to line v

abbrev pub zero_for : CType → ℕ → ℕ → Making ℕ
zero_for t k line = target_for t k line >>= constant_to line 0

-- ---- places

-- where a place is: a local in a register, or memory, through an lvalue that may be volatile, at a line
pub data Where : Type 0 where
  in_register : (number : ℕ) → Where
  in_memory : (is_volatile : Bool) (line : ℕ) → Where

abbrev pub in_memory_of : Qualified → ℕ → Where
in_memory_of t line = in_memory t.qualifiers.is_volatile line

abbrev pub where_is : Inside → Place → Where
where_is i (place line t (local n)) = if (row_at i.rows n).is_placed then in_memory_of t line else in_register n
where_is i (place line t (static entity)) = in_memory_of t line
where_is i (place line t (text n)) = in_memory_of t line
where_is i (place line t (pointed p)) = in_memory_of t line
where_is i (place line t (element at pointer_first a b)) = in_memory_of t at

-- ---- operators: what follows the values of the operands, whose registers are known

-- a pointer moves by an integer, to a new register
abbrev pub pointer_moved : ℕ → ℕ → (is_less : Bool) → CType → CType → ℕ → ℕ → Making ℕ
pointer_moved line at is_less t u p n = do
  d ← new Address line
  emits at (mid.PtrAdd d p n (ty_of u) is_less (scale_of t))
  pure d

-- a pointer in one register and an integer in the other, the pointer or the integer first
abbrev pub moves_pointer : ℕ → ℕ → (is_less pointer_first : Bool) → CType → CType → ℕ → ℕ → Making ℕ
moves_pointer line at is_less true t u x y = pointer_moved line at is_less t u x y
moves_pointer line at is_less false t u x y = pointer_moved line at is_less u t y x

-- an operator on integers takes the place of its left operand
abbrev pub computed : Op → Ty → ℕ → ℕ → ℕ → Making ℕ
computed op ty at x y = do
  emits at (mid.Arith op ty x x y)
  pure x

-- `0 - e`
abbrev pub minus_of : Ty → ℕ → ℕ → ℕ → Making ℕ
minus_of ty line k r = do
  z ← temporary (suc k) line
  emits line (mid.Const z 0)
  emits line (mid.Arith Sub ty r z r)
  pure r

-- `e ^ 4294967295`
abbrev pub complement_of : Ty → ℕ → ℕ → ℕ → Making ℕ
complement_of ty line k r = do
  z ← temporary (suc k) line
  emits line (mid.Const z 4294967295)
  computed Xor ty line r z

abbrev pub compared_with_null : Op → ℕ → ℕ → ℕ → Making ℕ
compared_with_null op line k r = do
  n ← new Address line
  emits line (mid.Const n 0)
  d ← temporary k line
  emits line (mid.PtrCmp op d r n)
  pure d

abbrev pub compared_with_zero : Ty → ℕ → ℕ → ℕ → Making ℕ
compared_with_zero ty line k r = do
  z ← temporary (suc k) line
  emits line (mid.Const z 0)
  computed Eq ty line r z

-- whether a register holds 0, by type
abbrev pub negated : CType → ℕ → ℕ → ℕ → Making ℕ
negated t line k r = either (is_object_pointer t) (compared_with_null Eq line k r) (compared_with_zero (compared_at t) line k r)

abbrev pub converted : ℕ → Ty → Ty → ℕ → Making ℕ
converted line from to r = do
  converts line from to r
  pure r

-- a pointer as a truth value, by its type
abbrev pub truth_of : CType → ℕ → ℕ → ℕ → ℕ → Making ℕ
truth_of t line first k r = either (is_object_pointer t) (compared_with_null Ne line k r) (converted first UInt BoolTy r)

abbrev pub pointers_subtracted : CType → ℕ → ℕ → ℕ → ℕ → ℕ → Making ℕ
pointers_subtracted t line at k x y = do
  d ← temporary k line
  emits at (mid.PtrDiff d x y (scale_of t))
  pure d

abbrev pub pointers_compared : Op → ℕ → ℕ → ℕ → ℕ → ℕ → Making ℕ
pointers_compared op line at k x y = do
  d ← temporary k line
  emits at (mid.PtrCmp op d x y)
  pure d

-- two pointers compared, by their type
abbrev pub compared : CType → Op → ℕ → ℕ → ℕ → ℕ → ℕ → Making ℕ
compared t op line at k x y = either (is_object_pointer t) (pointers_compared op line at k x y) (computed op UInt at x y)

abbrev pub function_in : ℕ → ℕ → ℕ → Making ℕ
function_in number line k = do
  d ← temporary k line
  emits line (mid.FunAddr d number)
  pure d

abbrev pub object_in : ℕ → ℕ → Making ℕ
object_in number line = do
  d ← new Address line
  emits line (mid.GlobAddr d number)
  pure d

abbrev pub local_in : ℕ → ℕ → Making ℕ
local_in n line = do
  home ← home_of n
  d ← new Address line
  emits line (mid.Move d home)
  pure d

-- ---- `&&`, `||`, `?:`

-- a jump that is made where a value decides `&&`, being 0, or `||`, not being 0
abbrev pub deciding : (is_or : Bool) → ℕ → ℕ → Mid
deciding false r to = mid.JumpZ r to
deciding true r to = mid.JumpN r to

abbrev pub digit : Bool → ℕ
digit false = 0
digit true = 1

-- neither decides: the other truth value, and the constant behind is jumped over
abbrev pub undecided : (is_or : Bool) → ℕ → ℕ → Making ℕ
undecided is_or line k = do
  d ← temporary k line
  emits line (mid.Const d (1 - digit is_or))
  emits_code (one_at line (λ start. mid.Jump (start + 2)))
  pure d

-- the second test
abbrev pub tests_second : (is_or : Bool) → ℕ → ℕ → ℕ → Making ℕ
tests_second is_or line k y = wrapped (jumped line (deciding is_or y)) (undecided is_or line k)

-- the truth value of two tests: where one decides, the rest is jumped over
abbrev pub decides : (is_or : Bool) → ℕ → ℕ → Making ℕ → ℕ → Making ℕ
decides is_or line k b x = do
  d ← wrapped (jumped line (deciding is_or x)) (b >>= tests_second is_or line k)
  emits line (mid.Const d (digit is_or))
  pure d

abbrev pub moved_to : ℕ → ℕ → ℕ → Making ℕ
moved_to line d r = do
  emits line (mid.Move d r)
  pure d

abbrev pub moved_to_new : ℕ → ℕ → Making ℕ
moved_to_new line r = do
  d ← new Address line
  moved_to line d r

-- one register for two ways to a pointer, which the first way allots
abbrev pub joins_first : CType → ℕ → ℕ → Making ℕ
joins_first t line r = either (is_object_pointer t) (moved_to_new line r) (pure r)

abbrev pub joins_second : CType → ℕ → ℕ → ℕ → Making ℕ
joins_second t line d r = either (is_object_pointer t) (moved_to line d r) (pure d)

-- two ways to one register
abbrev pub chosen : CType → ℕ → Making ℕ → Making ℕ → ℕ → Making ℕ
chosen t line a b x = two_ways line (mid.JumpZ x) (a >>= joins_first t line) (λ d. b >>= joins_second t line d)

-- ---- what a place holds

-- a place whose register is known: that of a local, or that of its address
pub data Located : Type 0 where
  held : (home : ℕ) → Located
  stored : (is_volatile : Bool) (line address : ℕ) → Located

abbrev pub locates : Where → Making ℕ → Making Located
locates (in_register n) at = at_home
  where
    at_home : Making Located
    at_home = do
      home ← home_of n
      pure (held home)
locates (in_memory is_volatile line) at = at_address
  where
    at_address : Making Located
    at_address = do
      pointer ← at
      pure (stored is_volatile line pointer)

abbrev pub load_of : Located → ℕ → ℕ → ℕ × Mid
load_of (held home) line d = (line, mid.Move d home)
load_of (stored true at a) line d = (at, mid.VLoad d a)
load_of (stored false at a) line d = (at, mid.Load d a)

abbrev pub store_of : Located → ℕ → ℕ → ℕ × Mid
store_of (held home) line r = (line, mid.Move home r)
store_of (stored true at a) line r = (at, mid.VStore a r)
store_of (stored false at a) line r = (at, mid.Store a r)

abbrev pub fetches : ℕ → CType → ℕ → Located → Making ℕ
fetches line t k l = do
  d ← target_for t k line
  emits (load_of l line d).0 (load_of l line d).1
  pure d

abbrev pub puts : ℕ → Located → ℕ → Making (Unit {0})
puts line l r = emits (store_of l line r).0 (store_of l line r).1

-- `l = e` behind `e`
abbrev pub assigned : ℕ → Located → ℕ → Making ℕ
assigned line l r = do
  puts line l r
  pure r

-- the registers of what changes: the old value, and what becomes the new one
pub record Change : Type 0 where
  pub old : ℕ
  pub changed : ℕ

-- a copy of the old value changes
abbrev pub copied_to : ℕ → ℕ → ℕ → Making Change
copied_to line old d = do
  emits line (mid.Move d old)
  pure (record { old = old; changed = d })

-- what changes is the old value itself, or a copy of it, where the old value is the result
abbrev pub changing : (is_after : Bool) → Making ℕ → ℕ → ℕ → Making Change
changing false copy line old = pure (record { old = old; changed = old })
changing true copy line old = copy >>= copied_to line old

-- the old value of a place, and what becomes the new one
abbrev pub changing_integer : (is_after : Bool) → ℕ → CType → ℕ → Located → Making Change
changing_integer is_after line t k l = do
  old ← fetches line t k l
  changing is_after (temporary (suc k) line) line old

abbrev pub changing_pointer : (is_after : Bool) → ℕ → CType → ℕ → Located → Making Change
changing_pointer is_after line t k l = do
  old ← fetches line t k l
  changing is_after (new Address line) line old

-- at the type at which it changes
abbrev pub widened : ℕ → Ty → Ty → Change → Making Change
widened first from to c = do
  converts first from to c.changed
  pure c

-- a place takes its new value
abbrev pub changed_to : (is_after : Bool) → ℕ → Located → ℕ → ℕ → Making ℕ
changed_to is_after line l old new = do
  puts line l new
  pure (if is_after then old else new)

abbrev pub integer_changed : (is_after : Bool) → Op → Ty → Ty → ℕ → ℕ → Located → Change → ℕ → Making ℕ
integer_changed is_after op ty t at line l c y = do
  emits at (mid.Arith op ty c.changed c.changed y)
  converts line ty t c.changed
  changed_to is_after line l c.old c.changed

abbrev pub pointer_changed : (is_after is_less : Bool) → CType → CType → ℕ → ℕ → Located → Change → ℕ → Making ℕ
pointer_changed is_after is_less t u at line l c y = do
  d ← pointer_moved line at is_less t u c.changed y
  changed_to is_after line l c.old d

-- ---- calls, input and output

abbrev pub called : CType → ℕ → ℕ → ℕ → ℕ → List ℕ → Making ℕ
called t line at number k arguments = do
  d ← target_for t k line
  emits_line at (calls d number arguments)
  pure d

abbrev pub called_through : CType → CType → ℕ → ℕ → ℕ → ℕ → List ℕ → Making ℕ
called_through t of line at k callee arguments = do
  d ← target_for t k line
  n ← type_number of
  emits_line at (calls_through d callee n arguments)
  pure d

abbrev pub byte_put : ℕ → ℕ → ℕ → Making ℕ
byte_put line at r = do
  emits at (mid.Put r)
  converted line Int UChar r

abbrev pub byte_got : ℕ → ℕ → ℕ → Making ℕ
byte_got line at k = do
  d ← temporary k line
  emits at (mid.Get d)
  pure d

abbrev pub left_by : ℕ → ℕ → Making ℕ
left_by at r = do
  emits at (mid.Exit r)
  pure r

-- ---- expressions

module _ (i : Inside) where
  unfoldable mutual
    -- the address of a place in memory, in a register
    pub address_of : Place → ℕ → Making ℕ
    address_of (place line t (local n)) k = local_in n line
    address_of (place line t (static entity)) k = object_in (number_of i.program entity) line
    address_of (place line t (text n)) k = object_in (number_of_text i n) line
    address_of (place line t (pointed p)) k = value_of p k
    address_of (place line t (element at pointer_first a b)) k =
        value_of a k >>= (λ x. value_of b (free_behind (type_of a) k) >>= (λ y. moves_pointer line at false pointer_first (type_of a) (type_of b) x y))

    -- the value of an expression
    pub value_of : Value → ℕ → Making ℕ
    value_of (value line t (constant n)) k = constant_in line k n
    value_of (value line t null) k = zero_for t k line
    value_of (value line t (read p)) k = locates (where_is i p) (address_of p k) >>= fetches line t k
    value_of (value line t (first_element p)) k = address_of p k
    value_of (value line t (address p)) k = address_of p k
    value_of (value line t (function entity)) k = function_in (number_of i.program entity) line k
    value_of (value line t (minus e)) k = value_of e k >>= minus_of (ty_of (type_of e)) line k
    value_of (value line t (complement e)) k = value_of e k >>= complement_of (ty_of (type_of e)) line k
    value_of (value line t (negation e)) k = value_of e k >>= negated (type_of e) line k
    value_of (value line t (arithmetic op at a b)) k =
        value_of a k >>= (λ x. value_of b (suc k) >>= (λ y. computed op (ty_of (type_of a)) at x y))
    value_of (value line t (sum at is_less pointer_first a b)) k =
        value_of a k >>= (λ x. value_of b (free_behind (type_of a) k) >>= (λ y. moves_pointer line at is_less pointer_first (type_of a) (type_of b) x y))
    value_of (value line t (difference at a b)) k =
        value_of a k >>= (λ x. value_of b k >>= (λ y. pointers_subtracted (type_of a) line at k x y))
    value_of (value line t (comparison op at a b)) k =
        value_of a k >>= (λ x. value_of b (free_behind (type_of a) k) >>= (λ y. compared (type_of a) op line at k x y))
    value_of (value line t (conjunction a b)) k = value_of a k >>= decides false line k (value_of b k)
    value_of (value line t (disjunction a b)) k = value_of a k >>= decides true line k (value_of b k)
    value_of (value line t (choice e a b)) k = value_of e k >>= chosen t line (value_of a k) (value_of b k)
    value_of (value line t (sequence dropped last)) k = dropped_in dropped k >> value_of last k
    value_of (value line t (assignment p e)) k = locates (where_is i p) (address_of p k) >>= (λ l. value_of e k >>= assigned line l)
    value_of (value line t (update is_after p first op at ty e)) k =
        locates (where_is i p) (address_of p k) >>= (λ l. changing_integer is_after line t k l >>= (λ c. widened first (ty_of t) ty c >>= (λ c'.
        value_of e (if is_after then suc (suc k) else suc k) >>= integer_changed is_after op ty (ty_of t) at line l c')))
    value_of (value line t (move is_after p is_less at e)) k =
        locates (where_is i p) (address_of p k) >>= (λ l. changing_pointer is_after line t k l >>= (λ c.
        value_of e k >>= pointer_changed is_after is_less t (type_of e) at line l c))
    value_of (value line t (conversion first e)) k = value_of e k >>= converted first (ty_of (type_of e)) (ty_of t)
    value_of (value line t (to_bool first e)) k = value_of e k >>= truth_of (type_of e) line first k
    value_of (value line t (requalified e)) k = value_of e k
    value_of (value line t (discarded e)) k = value_of e k
    value_of (value line t (call at entity es)) k = values_in es k >>= called t line at (number_of i.program entity) k
    value_of (value line t (call_through at e es)) k =
        value_of e k >>= (λ callee. values_in es (suc k) >>= called_through t (target_of (type_of e)).type line at k callee)
    value_of (value line t (putchar at e)) k = value_of e k >>= byte_put line at
    value_of (value line t (getchar at)) k = byte_got line at k
    value_of (value line t (exit at e)) k = value_of e k >>= left_by at

    -- values in order, each number in the next temporary
    pub values_in : Values → ℕ → Making (List ℕ)
    values_in no_values k = pure []
    values_in (first_value e es) k = value_of e k >>= (λ x. values_in es (free_behind (type_of e) k) >>= (λ xs. pure (x ∷ xs)))

    pub dropped_in : Values → ℕ → Making (Unit {0})
    dropped_in no_values k = pure tt
    dropped_in (first_value e es) k = value_of e k >>= (λ x. dropped_in es k)

  -- ---- parts of the rows

  -- a pointer and an integer, from their values
  abbrev pub moved_by : ℕ → ℕ → (is_less pointer_first : Bool) → (first t u : CType) → Value → Value → ℕ → Making ℕ
  moved_by line at is_less pointer_first first t u a b k =
      value_of a k >>= (λ x. value_of b (free_behind first k) >>= (λ y. moves_pointer line at is_less pointer_first t u x y))

  -- a change of an integer behind its place
  abbrev pub updated : (is_after : Bool) → ℕ → Op → ℕ → Ty → CType → ℕ → ℕ → Located → Value → Making ℕ
  updated is_after first op at ty t line k l e =
      changing_integer is_after line t k l >>= (λ c. widened first (ty_of t) ty c >>= (λ c'.
      value_of e (if is_after then suc (suc k) else suc k) >>= integer_changed is_after op ty (ty_of t) at line l c'))

  -- a change of a pointer behind its place
  abbrev pub repointed : (is_after is_less : Bool) → ℕ → CType → CType → ℕ → ℕ → Located → Value → Making ℕ
  repointed is_after is_less at t u line k l e =
      changing_pointer is_after line t k l >>= (λ c. value_of e k >>= pointer_changed is_after is_less t u at line l c)

  -- a place with its register
  abbrev pub location_of : Place → ℕ → Making Located
  location_of p k = locates (where_is i p) (address_of p k)
