-- Address constants (C11 6.6p9), and what a static object starts with (C11 6.7.9p4).
use Rattle.std.specs.Prelude.{ℕ, ℤ, pos, ◌+ℤ◌, ◌==◌, Bool as Test, true, false, if◌then◌else◌, unsigned_abs, Option, Some, None}
use Rattle.srmt_base.specs.declared.ty.Ty.{Ty}
use Rattle.srmt_base.specs.Pointer.{is_offset, amount_of}
use Rattle.c_types.specs.Types.{CType, ty_of, target_of, cells_of}
use Rattle.c_typed.specs.declared.constant.Constant.{Constant}
use Rattle.c_typed.specs.declared.constant.Constant.TheVariants.{NoForm, Traps, Value as Known}
use Rattle.c_typed.specs.declared.program.Start.{Start}
use Rattle.c_typed.specs.declared.program.Start.TheVariants as start
use Rattle.c_typed.specs.Typed.{Place, place, local, static, text, pointed, element, Value, value, constant, null, read, first_element, address, function, minus, complement, negation, arithmetic, sum, difference, comparison, conjunction, disjunction, choice, sequence, assignment, update, move, conversion, to_bool, requalified, discarded, call, call_through, putchar, getchar, exit, type_of}
use Rattle.c_typed.specs.Constants.{constant_of}

abbrev pub offset_by : ℕ → ℤ → Option ℕ
offset_by offset amount = if is_offset (pos offset +ℤ amount) then Some (unsigned_abs (pos offset +ℤ amount)) else None

abbrev pub object_if : ℕ → Option ℕ → Option Start
object_if n None = None
object_if n (Some offset) = Some (start.Object n offset)

abbrev pub text_if : ℕ → Option ℕ → Option Start
text_if n None = None
text_if n (Some offset) = Some (start.Text n offset)

-- an address of an object moved, where it stays among the offsets that a pointer may have
abbrev pub moved : Option Start → ℤ → Option Start
moved None amount = None
moved (Some (start.Number n)) amount = None
moved (Some (start.Object n offset)) amount = object_if n (offset_by offset amount)
moved (Some (start.Text n offset)) amount = text_if n (offset_by offset amount)
moved (Some (start.Function n)) amount = None

abbrev pub moved_by : Option Start → Constant → Ty → Test → CType → Option Start
moved_by start NoForm ty is_less base = None
moved_by start Traps ty is_less base = None
moved_by start (Known n) ty is_less base = moved start (amount_of ty n is_less (cells_of (target_of base).type))

-- an address constant as a `_Bool` (C11 6.3.1.2)
abbrev pub as_bool : Option Start → Option Start
as_bool None = None
as_bool (Some (start.Number n)) = Some (if n == 0 then start.Number 0 else start.Number 1)
as_bool (Some (start.Object n offset)) = Some (start.Number 1)
as_bool (Some (start.Text n offset)) = Some (start.Number 1)
as_bool (Some (start.Function n)) = Some (start.Number 1)

abbrev pub number_if : Constant → Option Start
number_if NoForm = None
number_if Traps = None
number_if (Known n) = Some (start.Number n)

unfoldable mutual
  -- what an initializer of a static object gives: a number, a null pointer, a function, or an address of a static
  -- object, perhaps of one of its elements
  pub start_of : Value → Option Start
  start_of (value line t (constant n)) = number_if (constant_of (value line t (constant n)))
  start_of (value line t null) = Some (start.Number 0)
  start_of (value line t (read p)) = None
  start_of (value line t (first_element p)) = place_start p
  start_of (value line t (address p)) = place_start p
  start_of (value line t (function n)) = Some (start.Function n)
  start_of (value line t (minus e)) = number_if (constant_of (value line t (minus e)))
  start_of (value line t (complement e)) = number_if (constant_of (value line t (complement e)))
  start_of (value line t (negation e)) = number_if (constant_of (value line t (negation e)))
  start_of (value line t (arithmetic op at a b)) = number_if (constant_of (value line t (arithmetic op at a b)))
  start_of (value line t (sum at is_less true a b)) = moved_by (start_of a) (constant_of b) (ty_of (type_of b)) is_less (type_of a)
  start_of (value line t (sum at is_less false a b)) = moved_by (start_of b) (constant_of a) (ty_of (type_of a)) is_less (type_of b)
  start_of (value line t (difference at a b)) = None
  start_of (value line t (comparison op at a b)) = None
  start_of (value line t (conjunction a b)) = number_if (constant_of (value line t (conjunction a b)))
  start_of (value line t (disjunction a b)) = number_if (constant_of (value line t (disjunction a b)))
  start_of (value line t (choice e a b)) = number_if (constant_of (value line t (choice e a b)))
  start_of (value line t (sequence dropped last)) = None
  start_of (value line t (assignment p e)) = None
  start_of (value line t (update is_after p first op at ty e)) = None
  start_of (value line t (move is_after p is_less at e)) = None
  start_of (value line t (conversion first e)) = number_if (constant_of (value line t (conversion first e)))
  start_of (value line t (to_bool first e)) = as_bool (start_of e)
  start_of (value line t (requalified e)) = start_of e
  start_of (value line t (discarded e)) = None
  start_of (value line t (call at n es)) = None
  start_of (value line t (call_through at e es)) = None
  start_of (value line t (putchar at e)) = None
  start_of (value line t (getchar at)) = None
  start_of (value line t (exit at e)) = None

  pub place_start : Place → Option Start
  place_start (place line t (local n)) = None
  place_start (place line t (static n)) = Some (start.Object n 0)
  place_start (place line t (text n)) = Some (start.Text n 0)
  place_start (place line t (pointed e)) = start_of e
  place_start (place line t (element at true a b)) = moved_by (start_of a) (constant_of b) (ty_of (type_of b)) false (type_of a)
  place_start (place line t (element at false a b)) = moved_by (start_of b) (constant_of a) (ty_of (type_of a)) false (type_of b)
