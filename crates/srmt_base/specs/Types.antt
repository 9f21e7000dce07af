-- Values of the integer types, and how they are kept as numbers (C11 6.2.5, 6.2.6.2).
use Rattle.std.specs.Prelude.{ℕ, ◌-◌, ◌%◌, ◌^◌, ℤ, pos, ◌-ℤ◌, neg_ℤ, Bool as Test, true, false, ◌&&◌, if◌then◌else◌, nat_lt, int_le, unsigned_abs, ⊤}
use Rattle.std.specs.Int.{int_rem_euclid}
use Rattle.srmt_base.specs.declared.ty.Ty.{Ty}
use Rattle.srmt_base.specs.declared.ty.Ty.TheVariants.{Bool, Char, SChar, UChar, Short, UShort, Int, UInt}

-- the code of a type
abbrev pub ty_code : Ty → ℕ
ty_code Bool = 0
ty_code Char = 1
ty_code SChar = 2
ty_code UChar = 3
ty_code Short = 4
ty_code UShort = 5
ty_code Int = 6
ty_code UInt = 7

-- the width of a type in bits, its sign included (C11 6.2.6.2p6)
abbrev pub width_of : Ty → ℕ
width_of Bool = 1
width_of Char = 8
width_of SChar = 8
width_of UChar = 8
width_of Short = 16
width_of UShort = 16
width_of Int = 32
width_of UInt = 32

-- whether a type has a sign; `char` has one (C11 6.2.5p15 leaves the choice)
abbrev pub is_signed : Ty → Test
is_signed Bool = false
is_signed Char = true
is_signed SChar = true
is_signed UChar = false
is_signed Short = true
is_signed UShort = false
is_signed Int = true
is_signed UInt = false

-- how many bits of a number a value of the type takes in a register or a cell
abbrev pub kept_width_of : Ty → ℕ
kept_width_of _ = 32

-- the number below 2^w that is congruent to z modulo 2^w
abbrev pub low_bits : ℕ → ℤ → ℕ
low_bits w z = unsigned_abs (int_rem_euclid z (pos (2 ^ w)))

-- what a number of w bits stands for in two's complement (C11 6.2.6.2p2)
abbrev pub twos_complement : ℕ → ℕ → ℤ
twos_complement w bits = if nat_lt bits (2 ^ (w - 1)) then pos bits else pos bits -ℤ pos (2 ^ w)

-- what a number of w bits stands for, with a sign or without
abbrev pub value_of_bits : Test → ℕ → ℕ → ℤ
value_of_bits true w bits = twos_complement w bits
value_of_bits false w bits = pos bits

-- the value of a type that is congruent to z modulo 2 to the type's width
abbrev pub wrapped : Ty → ℤ → ℤ
wrapped ty z = value_of_bits (is_signed ty) (width_of ty) (low_bits (width_of ty) z)

-- what a number stands for when it is read at a type
abbrev pub value_at : Ty → ℕ → ℤ
value_at ty number = value_of_bits (is_signed ty) (kept_width_of ty) (number % 2 ^ kept_width_of ty)

-- the number as which a value of a type is kept
abbrev pub kept_at : Ty → ℤ → ℕ
kept_at ty z = low_bits (kept_width_of ty) z

-- the number as which a value of a type of at most 32 bits is kept
abbrev pub kept : ℤ → ℕ
kept z = low_bits 32 z

-- the least and the greatest value of a type (C11 6.2.6.2p1, p2)
abbrev pub least_of : Ty → ℤ
least_of ty = if is_signed ty then neg_ℤ (pos (2 ^ (width_of ty - 1))) else pos 0

abbrev pub greatest_of : Ty → ℤ
greatest_of ty = if is_signed ty then pos (2 ^ (width_of ty - 1) - 1) else pos (2 ^ width_of ty - 1)

-- whether a type can represent a number
abbrev pub can_hold : Ty → ℤ → Test
can_hold ty z = int_le (least_of ty) z && int_le z (greatest_of ty)

-- arithmetic is made at the type: the operands of smaller types are promoted first (C11 6.3.1.1p2)
abbrev pub IsPromoted : Ty → Type 0
IsPromoted Bool = ⊥
IsPromoted Char = ⊥
IsPromoted SChar = ⊥
IsPromoted UChar = ⊥
IsPromoted Short = ⊥
IsPromoted UShort = ⊥
IsPromoted Int = ⊤
IsPromoted UInt = ⊤
