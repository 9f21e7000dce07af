-- A cell counts at most four bytes.
use Rattle.std.proofs.Common.{arith, ◌≤◌, ◌*◌, Some, None}
use Rattle.std.proofs.Math.Nat.{mul-le-mul_left, mul_left_comm}
use Rattle.srmt_base.specs.declared.ty.Ty.{Ty}
use Rattle.srmt_base.specs.declared.ty.Ty.TheVariants.{Bool, Char, SChar, UChar, Short, UShort, Int, UInt}
use Rattle.c_types.specs.Types.{CType, void, integer, pointer, array, returning, taking, cells_of, bytes_of}

integer_bytes : (ty : Ty) → bytes_of (integer ty) ≤ 4 * cells_of (integer ty)
integer_bytes Bool = omega arith
integer_bytes Char = omega arith
integer_bytes SChar = omega arith
integer_bytes UChar = omega arith
integer_bytes Short = omega arith
integer_bytes UShort = omega arith
integer_bytes Int = omega arith
integer_bytes UInt = omega arith

pub bytes-few : (t : CType) → bytes_of t ≤ 4 * cells_of t
bytes-few void = omega arith
bytes-few (integer ty) = integer_bytes ty
bytes-few (pointer q t) = omega arith
bytes-few (array q t None) = omega arith
bytes-few (array q t (Some n)) =
    let more = mul-le-mul_left n (bytes-few t) in
    let same = mul_left_comm n 4 (cells_of t) in
    omega arith
bytes-few (returning q t) = omega arith
bytes-few (taking p t) = omega arith
