-- Arithmetic on integers: the mathematical result over whole numbers, then reduced or trapped.
use Rattle.std.specs.Prelude.{ℕ, ◌%◌, ◌^◌, ℤ, pos, ◌+ℤ◌, ◌-ℤ◌, ◌*ℤ◌, Bool as Test, true, false, not, ◌&&◌, if◌then◌else◌, nat_le, bit_and, bit_or, bit_xor, int_lt, int_le, int_div, int_rem, Result, Ok, Err}
use Rattle.std.specs.Int.{int_div_euclid, is_negative, from_bool}
use Rattle.std.specs.Ordering.{int_eq}
use Rattle.srmt_base.specs.declared.op.Op.{Op}
use Rattle.srmt_base.specs.declared.op.Op.TheVariants.{Add, Sub, Mul, Div, Rem, Shl, Shr, And, Or, Xor, Lt, Gt, Le, Ge, Eq, Ne}
use Rattle.srmt_base.specs.declared.trap.Trap.{Trap}
use Rattle.srmt_base.specs.declared.trap.Trap.TheVariants.{Overflow, DivideByZero, ShiftRange}
use Rattle.srmt_base.specs.declared.ty.Ty.{Ty}
use Rattle.srmt_base.specs.Types.{width_of, is_signed, kept_width_of, value_at, kept_at, can_hold}

-- the code of an operator
abbrev pub op_code : Op → ℕ
op_code Add = 0
op_code Sub = 1
op_code Mul = 2
op_code Div = 3
op_code Rem = 4
op_code Shl = 5
op_code Shr = 6
op_code And = 7
op_code Or = 8
op_code Xor = 9
op_code Lt = 10
op_code Gt = 11
op_code Le = 12
op_code Ge = 13
op_code Eq = 14
op_code Ne = 15

-- a result as a value of a type: a signed type must be able to represent it (C11 6.5p5), and an
-- unsigned one keeps it modulo 2 to its width (C11 6.2.5p9)
abbrev pub reduced : Ty → ℤ → Result ℕ Trap
reduced ty z = if is_signed ty && not (can_hold ty z) then Err Overflow else Ok (kept_at ty z)

-- the bits of a number that is read at a type
abbrev pub bits_at : Ty → ℕ → ℕ
bits_at ty number = number % 2 ^ kept_width_of ty

-- whether an operator compares, and does not compute
abbrev pub is_comparison : Op → Test
is_comparison Add = false
is_comparison Sub = false
is_comparison Mul = false
is_comparison Div = false
is_comparison Rem = false
is_comparison Shl = false
is_comparison Shr = false
is_comparison And = false
is_comparison Or = false
is_comparison Xor = false
is_comparison Lt = true
is_comparison Gt = true
is_comparison Le = true
is_comparison Ge = true
is_comparison Eq = true
is_comparison Ne = true

-- whether two values compare as an operator says (C11 6.5.8p6, 6.5.9p3); never for an operator that
-- does not compare
abbrev pub compares : Op → ℤ → ℤ → Test
compares Add x y = false
compares Sub x y = false
compares Mul x y = false
compares Div x y = false
compares Rem x y = false
compares Shl x y = false
compares Shr x y = false
compares And x y = false
compares Or x y = false
compares Xor x y = false
compares Lt x y = int_lt x y
compares Gt x y = int_lt y x
compares Le x y = int_le x y
compares Ge x y = int_le y x
compares Eq x y = int_eq x y
compares Ne x y = not (int_eq x y)

-- the quotient truncates toward zero; a divisor of 0, and a quotient that the type cannot represent,
-- are undefined for both operators (C11 6.5.5p5, p6)
abbrev pub divided : Ty → ℤ → ℤ → Result ℕ Trap
divided ty x y = if int_eq y (pos 0) then Err DivideByZero else reduced ty (int_div x y)

abbrev pub remaining : Ty → ℤ → ℤ → Result ℕ Trap
remaining ty x y =
    if int_eq y (pos 0) then Err DivideByZero
    else if can_hold ty (int_div x y) then Ok (kept_at ty (int_rem x y))
    else Err Overflow

-- a count that reaches the width is undefined (C11 6.5.7p3). To the left, so is a negative value,
-- and a product with 2 to the count that a signed type cannot represent (C11 6.5.7p4)
abbrev pub shifted_left : Ty → ℤ → ℕ → Result ℕ Trap
shifted_left ty x count =
    if nat_le (width_of ty) count then Err ShiftRange
    else if is_negative x then Err Overflow
    else reduced ty (x *ℤ pos (2 ^ count))

-- to the right it is the quotient by 2 to the count, rounded down (C11 6.5.7p5; for a negative value
-- the rounding is this project's choice)
abbrev pub shifted_right : Ty → ℤ → ℕ → Result ℕ Trap
shifted_right ty x count =
    if nat_le (width_of ty) count then Err ShiftRange
    else Ok (kept_at ty (int_div_euclid x (pos (2 ^ count))))

-- what an operator gives at a type for two numbers, which are read at that type; a shift's count is
-- read without a sign
abbrev pub arith_of : Op → Ty → ℕ → ℕ → Result ℕ Trap
arith_of Add ty a b = reduced ty (value_at ty a +ℤ value_at ty b)  -- C11 6.5.6p5
arith_of Sub ty a b = reduced ty (value_at ty a -ℤ value_at ty b)  -- C11 6.5.6p6
arith_of Mul ty a b = reduced ty (value_at ty a *ℤ value_at ty b)  -- C11 6.5.5p4
arith_of Div ty a b = divided ty (value_at ty a) (value_at ty b)  -- C11 6.5.5p5
arith_of Rem ty a b = remaining ty (value_at ty a) (value_at ty b)  -- C11 6.5.5p6
arith_of Shl ty a b = shifted_left ty (value_at ty a) (bits_at ty b)  -- C11 6.5.7p4
arith_of Shr ty a b = shifted_right ty (value_at ty a) (bits_at ty b)  -- C11 6.5.7p5
arith_of And ty a b = Ok (bit_and (bits_at ty a) (bits_at ty b))  -- C11 6.5.10p4
arith_of Xor ty a b = Ok (bit_xor (bits_at ty a) (bits_at ty b))  -- C11 6.5.11p4
arith_of Or ty a b = Ok (bit_or (bits_at ty a) (bits_at ty b))  -- C11 6.5.12p4
arith_of Lt ty a b = Ok (from_bool (compares Lt (value_at ty a) (value_at ty b)))  -- C11 6.5.8p6
arith_of Gt ty a b = Ok (from_bool (compares Gt (value_at ty a) (value_at ty b)))  -- C11 6.5.8p6
arith_of Le ty a b = Ok (from_bool (compares Le (value_at ty a) (value_at ty b)))  -- C11 6.5.8p6
arith_of Ge ty a b = Ok (from_bool (compares Ge (value_at ty a) (value_at ty b)))  -- C11 6.5.8p6
arith_of Eq ty a b = Ok (from_bool (compares Eq (value_at ty a) (value_at ty b)))  -- C11 6.5.9p3
arith_of Ne ty a b = Ok (from_bool (compares Ne (value_at ty a) (value_at ty b)))  -- C11 6.5.9p3
