-- What is hashed of a type.
use Rattle.std.specs.Prelude.{ℕ, ◌+◌, List}
use Rattle.std.specs.Hash as fed
use Rattle.srmt_base.specs.Types.{ty_code}
use Rattle.c_types.specs.declared.type_ref.TypeRef.{TypeRef}
use Rattle.c_types.specs.declared.type_ref.TypeRef.TheVariants.{Void, Integer, Derived}

abbrev pub writes_of : TypeRef → List (List ℕ)
writes_of Void = fed.u8 0
writes_of (Integer ty) = fed.u8 (1 + ty_code ty)
writes_of (Derived row) = fed.usize row
