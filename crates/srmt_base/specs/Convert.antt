-- Conversions between integer types.
use Rattle.std.specs.Prelude.{ℕ, ℤ, pos, if◌then◌else◌}
use Rattle.std.specs.Ordering.{int_eq}
use Rattle.srmt_base.specs.declared.ty.Ty.{Ty}
use Rattle.srmt_base.specs.declared.ty.Ty.TheVariants.{Bool, Char, SChar, UChar, Short, UShort, Int, UInt}
use Rattle.srmt_base.specs.Types.{wrapped, value_at, kept_at}

-- what a value becomes in another type. To `_Bool` 0 stays 0, and all else is 1 (C11 6.3.1.2). To
-- another type it is the value itself where the type can represent it, and else the value modulo 2
-- to the type's width (C11 6.3.1.3; for a signed type its p3 leaves the choice)
abbrev pub converted : Ty → ℤ → ℤ
converted Bool z = if int_eq z (pos 0) then pos 0 else pos 1
converted Char z = wrapped Char z
converted SChar z = wrapped SChar z
converted UChar z = wrapped UChar z
converted Short z = wrapped Short z
converted UShort z = wrapped UShort z
converted Int z = wrapped Int z
converted UInt z = wrapped UInt z

-- a number converted from a type to another: read at the first, and kept as a value of the second
abbrev pub convert_of : Ty → Ty → ℕ → ℕ
convert_of from to number = kept_at to (converted to (value_at from number))
