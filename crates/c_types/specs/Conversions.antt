-- Conversions of integers that the language makes by itself (C11 6.3.1).
use Rattle.std.specs.Prelude.{nat_lt, if◌then◌else◌}
use Rattle.srmt_base.specs.declared.ty.Ty.{Ty}
use Rattle.srmt_base.specs.declared.ty.Ty.TheVariants.{Bool, Char, SChar, UChar, Short, UShort, Int, UInt}
use Rattle.srmt_base.specs.Types.{is_signed, width_of}

-- the integer promotions (C11 6.3.1.1p2): `int` holds all values of each type of lower rank
abbrev pub promoted : Ty → Ty
promoted Bool = Int
promoted Char = Int
promoted SChar = Int
promoted UChar = Int
promoted Short = Int
promoted UShort = Int
promoted Int = Int
promoted UInt = UInt

-- the common type of two promoted types (C11 6.3.1.8p1): that of greater rank, which holds all values of the other; of
-- one rank the unsigned one, if one is
abbrev pub common : Ty → Ty → Ty
common a b = if nat_lt (width_of b) (width_of a) then a else if nat_lt (width_of a) (width_of b) then b else if is_signed a then b else a

-- the usual arithmetic conversions (C11 6.3.1.8)
abbrev pub usual : Ty → Ty → Ty
usual a b = common (promoted a) (promoted b)
