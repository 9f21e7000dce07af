-- Arithmetic on pointers, which hold an object and an offset in it.
use Rattle.std.specs.Prelude.{ℕ, ℤ, pos, ◌+ℤ◌, ◌-ℤ◌, ◌*ℤ◌, neg_ℤ, Bool, true, false, ◌&&◌, ◌==◌, if◌then◌else◌, int_le, int_div, unsigned_abs, Result, Ok, Err}
use Rattle.std.specs.Int.{from_bool}
use Rattle.std.specs.Ordering.{int_eq}
use Rattle.srmt_base.specs.declared.op.Op.{Op}
use Rattle.srmt_base.specs.declared.op.Op.TheVariants.{Add, Sub, Mul, Div, Rem, Shl, Shr, And, Or, Xor, Lt, Gt, Le, Ge, Eq, Ne}
use Rattle.srmt_base.specs.declared.trap.Trap.{Trap}
use Rattle.srmt_base.specs.declared.trap.Trap.TheVariants.{NullPointer, OutsideObject, OtherObject}
use Rattle.srmt_base.specs.declared.ty.Ty.{Ty}
use Rattle.srmt_base.specs.Types.{value_at, kept}
use Rattle.srmt_base.specs.Arith.{compares}
use Rattle.srmt_base.specs.Objects.{pointer_to, object_part, offset_part}

-- whether a number is an offset that a pointer can hold
abbrev pub is_offset : ℤ → Bool
is_offset z = int_le (pos 0) z && int_le z (pos 65535)

-- whether an operator tests for equality
abbrev pub is_equality : Op → Bool
is_equality Add = false
is_equality Sub = false
is_equality Mul = false
is_equality Div = false
is_equality Rem = false
is_equality Shl = false
is_equality Shr = false
is_equality And = false
is_equality Or = false
is_equality Xor = false
is_equality Lt = false
is_equality Gt = false
is_equality Le = false
is_equality Ge = false
is_equality Eq = true
is_equality Ne = true

-- the cells by which a sum with an index moves; a difference moves the other way (C11 6.5.6p8)
abbrev pub amount_of : Ty → ℕ → Bool → ℕ → ℤ
amount_of ty index negated scale =
    if negated then neg_ℤ (value_at ty index *ℤ pos scale) else value_at ty index *ℤ pos scale

-- a pointer moved by an amount: a null pointer only by 0, and another within the offsets that a pointer
-- can hold (C11 6.5.6p8 allows one past the object's last cell; a cell is tested where it is accessed)
abbrev pub moved : ℕ → ℤ → Result ℕ Trap
moved p amount =
    if object_part p == 0 then (if int_eq amount (pos 0) then Ok p else Err NullPointer)
    else if is_offset (pos (offset_part p) +ℤ amount) then Ok (pointer_to (object_part p) (unsigned_abs (pos (offset_part p) +ℤ amount)))
    else Err OutsideObject

-- the sum of a pointer and an index, read at its type, in cells of a scale (C11 6.5.6p8)
abbrev pub pointer_sum_of : ℕ → Ty → ℕ → Bool → ℕ → Result ℕ Trap
pointer_sum_of p ty index negated scale = moved p (amount_of ty index negated scale)

-- the difference of two pointers into one object, in elements of a scale (C11 6.5.6p9)
abbrev pub pointer_difference_of : ℕ → ℕ → ℕ → Result ℕ Trap
pointer_difference_of p q scale =
    if object_part p == object_part q then Ok (kept (int_div (pos (offset_part p) -ℤ pos (offset_part q)) (pos scale)))
    else Err OtherObject

-- a comparison of two pointers: any two are equal or not (C11 6.5.9p6), and an order is that of the
-- offsets in one object (C11 6.5.8p5)
abbrev pub pointer_comparison_of : Op → ℕ → ℕ → Result ℕ Trap
pointer_comparison_of op p q =
    if is_equality op then Ok (from_bool (compares op (pos p) (pos q)))
    else if object_part p == object_part q then Ok (from_bool (compares op (pos (offset_part p)) (pos (offset_part q))))
    else Err OtherObject
