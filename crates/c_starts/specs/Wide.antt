-- Arithmetic at a type of any width, by that at the promoted type of the same sign.
use Rattle.std.specs.Prelude.{ℕ, not, ◌&&◌, if◌then◌else◌, Result, Ok, Err}
use Rattle.srmt_base.specs.declared.trap.Trap.{Trap}
use Rattle.srmt_base.specs.declared.trap.Trap.TheVariants.{Overflow}
use Rattle.srmt_base.specs.declared.ty.Ty.{Ty}
use Rattle.srmt_base.specs.declared.ty.Ty.TheVariants.{Bool, Char, SChar, UChar, Short, UShort, Int, UInt}
use Rattle.srmt_base.specs.Types.{is_signed, can_hold, value_at}

-- the promoted type with the sign of a type
abbrev pub wide_of : Ty → Ty
wide_of Bool = UInt
wide_of Char = Int
wide_of SChar = Int
wide_of UChar = UInt
wide_of Short = Int
wide_of UShort = UInt
wide_of Int = Int
wide_of UInt = UInt

-- a result of the wide type, where a signed type must be able to represent it (C11 6.5p5)
abbrev pub fitted : Ty → Result ℕ Trap → Result ℕ Trap
fitted ty (Err trap) = Err trap
fitted ty (Ok n) = if is_signed ty && not (can_hold ty (value_at ty n)) then Err Overflow else Ok n

-- a remainder of the wide type, which is defined where the type can represent the quotient (C11 6.5.5p6)
abbrev pub remained : Ty → Result ℕ Trap → Result ℕ Trap → Result ℕ Trap
remained ty (Err trap) remainder = Err trap
remained ty (Ok quotient) remainder = if can_hold ty (value_at ty quotient) then remainder else Err Overflow
