-- Integer constant expressions (C11 6.6p6) of the typed tree.
use Rattle.std.specs.Prelude.{ℕ, ◌==◌, Bool as Test, true, false, if◌then◌else◌, bit_xor, Result, Ok, Err}
use Rattle.srmt_base.specs.declared.op.Op.TheVariants.{Sub}
use Rattle.srmt_base.specs.declared.trap.Trap.{Trap}
use Rattle.srmt_base.specs.Arith.{arith_of}
use Rattle.srmt_base.specs.Convert.{convert_of}
use Rattle.c_types.specs.Types.{CType, is_integer, ty_of}
use Rattle.c_typed.specs.declared.constant.Constant.{Constant}
use Rattle.c_typed.specs.declared.constant.Constant.TheVariants.{NoForm, Traps, Value as Known}
use Rattle.c_typed.specs.Typed.{Value, value, constant, null, read, first_element, address, function, minus, complement, negation, arithmetic, sum, difference, comparison, conjunction, disjunction, choice, sequence, assignment, update, move, conversion, to_bool, requalified, discarded, call, call_through, putchar, getchar, exit, type_of}

-- a result that traps has no value
abbrev pub of_result : Result ℕ Trap → Constant
of_result (Ok n) = Known n
of_result (Err trap) = Traps

abbrev pub mapped : (ℕ → Constant) → Constant → Constant
mapped f NoForm = NoForm
mapped f Traps = Traps
mapped f (Known n) = f n

-- both operands are evaluated
abbrev pub both : (ℕ → ℕ → Constant) → Constant → Constant → Constant
both f NoForm b = NoForm
both f Traps NoForm = NoForm
both f Traps Traps = Traps
both f Traps (Known n) = Traps
both f (Known n) b = mapped (f n) b

abbrev pub one_if : Test → Constant
one_if true = Known 1
one_if false = Known 0

-- the second constant where the first is not 0, else the third; the other one has the form of a constant too
abbrev pub chosen : Constant → Constant → Constant → Constant
chosen a NoForm c = NoForm
chosen a b NoForm = NoForm
chosen NoForm b c = NoForm
chosen Traps b c = Traps
chosen (Known n) b c = if n == 0 then c else b

-- whether a constant is other than 0, as 1 or 0
abbrev pub as_test : Constant → Constant
as_test = mapped (λ n. if n == 0 then Known 0 else Known 1)

-- `!e` is `0 == e` (C11 6.5.3.3p5)
abbrev pub opposite : Constant → Constant
opposite = mapped (λ n. if n == 0 then Known 1 else Known 0)

-- what a value of integer type is as a constant
abbrev pub integer_only : CType → Constant → Constant
integer_only t c = if is_integer t then c else NoForm

-- casts and conversions are to integer types from integer types; no assignment, call, comma, access or address is
-- part of a constant (C11 6.6p3, p6)
unfoldable pub constant_of : Value → Constant
constant_of (value line t (constant n)) = integer_only t (Known n)
constant_of (value line t null) = NoForm
constant_of (value line t (read p)) = NoForm
constant_of (value line t (first_element p)) = NoForm
constant_of (value line t (address p)) = NoForm
constant_of (value line t (function n)) = NoForm
constant_of (value line t (minus e)) = mapped (λ n. of_result (arith_of Sub (ty_of t) 0 n)) (constant_of e)
constant_of (value line t (complement e)) = mapped (λ n. Known (bit_xor n 4294967295)) (constant_of e)
constant_of (value line t (negation e)) = opposite (constant_of e)
constant_of (value line t (arithmetic op at a b)) =
    both (λ m n. of_result (arith_of op (ty_of (type_of a)) m n)) (constant_of a) (constant_of b)
constant_of (value line t (sum at is_less pointer_first a b)) = NoForm
constant_of (value line t (difference at a b)) = NoForm
constant_of (value line t (comparison op at a b)) = NoForm
constant_of (value line t (conjunction a b)) = chosen (constant_of a) (as_test (constant_of b)) (Known 0)
constant_of (value line t (disjunction a b)) = chosen (constant_of a) (Known 1) (as_test (constant_of b))
constant_of (value line t (choice e a b)) = chosen (constant_of e) (constant_of a) (constant_of b)
constant_of (value line t (sequence dropped last)) = NoForm
constant_of (value line t (assignment p e)) = NoForm
constant_of (value line t (update is_after p first op at ty e)) = NoForm
constant_of (value line t (move is_after p is_less at e)) = NoForm
constant_of (value line t (conversion first e)) = mapped (λ n. Known (convert_of (ty_of (type_of e)) (ty_of t) n)) (constant_of e)
constant_of (value line t (to_bool first e)) = NoForm
constant_of (value line t (requalified e)) = NoForm
constant_of (value line t (discarded e)) = NoForm
constant_of (value line t (call at n es)) = NoForm
constant_of (value line t (call_through at e es)) = NoForm
constant_of (value line t (putchar at e)) = NoForm
constant_of (value line t (getchar at)) = NoForm
constant_of (value line t (exit at e)) = NoForm

-- a null pointer constant: an integer constant expression of value 0 (C11 6.3.2.3p3)
abbrev pub is_zero : Constant → Test
is_zero NoForm = false
is_zero Traps = false
is_zero (Known n) = n == 0
