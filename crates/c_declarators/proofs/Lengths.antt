-- The length that a value gives, by what type it has.
use Rattle.std.proofs.Common.{◌≡◌, true, false, if◌then◌else◌, Err, sym, ap}
use Rattle.c_types.specs.Types.{is_void, is_integer}
use Rattle.c_typed.specs.Typed.{Value, type_of}
use Rattle.c_typed.specs.Constants.{constant_of}
use Rattle.typing_rules.specs.DeclaratorRules.{constant_length, length_of}

pub length-void : (v : Value) → is_void (type_of v) ≡ true → Err 14 ≡ length_of v
length-void v e = sym (ap (λ b. if b then Err 14 else (if is_integer (type_of v) then constant_length (constant_of v) else Err 15)) e)

pub length-integer : (v : Value) → is_void (type_of v) ≡ false → is_integer (type_of v) ≡ true → constant_length (constant_of v) ≡ length_of v
length-integer v e f = sym (λ i. if e i then Err 14 else (if f i then constant_length (constant_of v) else Err 15))

pub length-other : (v : Value) → is_void (type_of v) ≡ false → is_integer (type_of v) ≡ false → Err 15 ≡ length_of v
length-other v e f = sym (λ i. if e i then Err 14 else (if f i then constant_length (constant_of v) else Err 15))
