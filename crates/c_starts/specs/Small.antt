-- Constants are kept in 32 bits.
use Rattle.std.specs.Prelude.{◌<◌, ◌^◌, ⊤}
use Rattle.c_typed.specs.declared.constant.Constant.{Constant}
use Rattle.c_typed.specs.declared.constant.Constant.TheVariants.{NoForm, Traps, Value}

abbrev pub IsSmall : Constant → Type 0
IsSmall NoForm = ⊤
IsSmall Traps = ⊤
IsSmall (Value n) = n < 2 ^ 32
