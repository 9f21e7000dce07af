-- The types of the accepted subset of C (C11 6.2.5), and what is asked of them.
use Rattle.std.specs.Prelude.{ℕ, ◌*◌, ◌==◌, Bool as Test, true, false, not, ◌&&◌, ◌||◌, List, [], ◌∷◌, Option, Some, None}
use Rattle.srmt_base.specs.declared.ty.Ty.{Ty}
use Rattle.srmt_base.specs.declared.ty.Ty.TheVariants.{Bool, Char, SChar, UChar, Short, UShort, Int, UInt}
use Rattle.srmt_base.specs.Types.{ty_code}
use Rattle.c_types.specs.declared.qualifiers.Qualifiers.{Qualifiers}

-- A type. An array has its qualifiers on its element (C11 6.7.3p9), and its length may be missing. The type of a
-- function is that of its result under those of its parameters, the first outermost: `int f(char, short)` has the type
-- `taking (integer Char) (taking (integer Short) (returning plain (integer Int)))`. The types of parameters stand there
-- adjusted and without qualifiers of their own (C11 6.7.6.3p15).
pub data CType : Type 0 where
  void : CType
  integer : Ty → CType
  pointer : (qualifiers : Qualifiers) (to : CType) → CType
  array : (qualifiers : Qualifiers) (element : CType) (length : Option ℕ) → CType
  returning : (qualifiers : Qualifiers) (result : CType) → CType
  taking : (parameter rest : CType) → CType

-- a type with its qualifiers, as an object or an lvalue has it; an array is plain there
pub record Qualified : Type 0 where
  pub qualifiers : Qualifiers
  pub type : CType

-- ---- qualifiers

abbrev pub plain : Qualifiers
plain = record { is_const = false; is_volatile = false }

abbrev pub unqualified : CType → Qualified
unqualified t = record { qualifiers = plain; type = t }

abbrev pub same_test : Test → Test → Test
same_test true b = b
same_test false b = not b

abbrev pub same_qualifiers : Qualifiers → Qualifiers → Test
same_qualifiers q r = same_test q.is_const r.is_const && same_test q.is_volatile r.is_volatile

-- the qualifiers of both
abbrev pub with_both : Qualifiers → Qualifiers → Qualifiers
with_both q r = record { is_const = q.is_const || r.is_const; is_volatile = q.is_volatile || r.is_volatile }

-- the second has each qualifier that the first has
abbrev pub has_each : Qualifiers → Qualifiers → Test
has_each q r = (not q.is_const || r.is_const) && (not q.is_volatile || r.is_volatile)

-- ---- one type

abbrev pub same_length : Option ℕ → Option ℕ → Test
same_length None None = true
same_length None (Some m) = false
same_length (Some n) None = false
same_length (Some n) (Some m) = n == m

-- two types are one and the same type: they are made in the same way
unfoldable pub same_type : CType → CType → Test
same_type void void = true
same_type (integer a) (integer b) = ty_code a == ty_code b
same_type (pointer q a) (pointer r b) = same_qualifiers q r && same_type a b
same_type (array q a n) (array r b m) = same_qualifiers q r && same_type a b && same_length n m
same_type (returning q a) (returning r b) = same_qualifiers q r && same_type a b
same_type (taking p a) (taking r b) = same_type p r && same_type a b
same_type _ _ = false

-- ---- kinds of types

abbrev pub is_void : CType → Test
is_void void = true
is_void (integer ty) = false
is_void (pointer q t) = false
is_void (array q t n) = false
is_void (returning q t) = false
is_void (taking p t) = false

-- C11 6.2.5p17
abbrev pub is_integer : CType → Test
is_integer void = false
is_integer (integer ty) = true
is_integer (pointer q t) = false
is_integer (array q t n) = false
is_integer (returning q t) = false
is_integer (taking p t) = false

abbrev pub is_pointer : CType → Test
is_pointer void = false
is_pointer (integer ty) = false
is_pointer (pointer q t) = true
is_pointer (array q t n) = false
is_pointer (returning q t) = false
is_pointer (taking p t) = false

abbrev pub is_array : CType → Test
is_array void = false
is_array (integer ty) = false
is_array (pointer q t) = false
is_array (array q t n) = true
is_array (returning q t) = false
is_array (taking p t) = false

abbrev pub is_function : CType → Test
is_function void = false
is_function (integer ty) = false
is_function (pointer q t) = false
is_function (array q t n) = false
is_function (returning q t) = true
is_function (taking p t) = true

-- a scalar type (C11 6.2.5p21)
abbrev pub is_scalar : CType → Test
is_scalar t = is_integer t || is_pointer t

-- a complete object type (C11 6.2.5p1, p22); the element of an array is always complete (C11 6.7.6.2p1)
abbrev pub is_complete : CType → Test
is_complete void = false
is_complete (integer ty) = true
is_complete (pointer q t) = true
is_complete (array q t None) = false
is_complete (array q t (Some n)) = true
is_complete (returning q t) = false
is_complete (taking p t) = false

-- ---- parts of types

-- what integer type a type is; `int` for one that is none
abbrev pub ty_of : CType → Ty
ty_of void = Int
ty_of (integer ty) = ty
ty_of (pointer q t) = Int
ty_of (array q t n) = Int
ty_of (returning q t) = Int
ty_of (taking p t) = Int

-- what a pointer points to, with its qualifiers; void for a type that is no pointer
abbrev pub target_of : CType → Qualified
target_of void = unqualified void
target_of (integer ty) = unqualified void
target_of (pointer q t) = record { qualifiers = q; type = t }
target_of (array q t n) = unqualified void
target_of (returning q t) = unqualified void
target_of (taking p t) = unqualified void

-- a pointer to an object, perhaps of an array without a length
abbrev pub is_object_pointer : CType → Test
is_object_pointer t = is_pointer t && not (is_function (target_of t).type)

-- a pointer to a complete object type
abbrev pub is_complete_pointer : CType → Test
is_complete_pointer t = is_pointer t && is_complete (target_of t).type

abbrev pub is_function_pointer : CType → Test
is_function_pointer t = is_pointer t && is_function (target_of t).type

-- two pointers to one type, whatever qualifiers it has there
abbrev pub point_to_one : CType → CType → Test
point_to_one a b = is_pointer a && is_pointer b && same_type (target_of a).type (target_of b).type

-- a pointer to a type with its qualifiers
abbrev pub pointer_to : Qualified → CType
pointer_to t = pointer t.qualifiers t.type

abbrev pub array_of : Qualified → Option ℕ → CType
array_of t length = array t.qualifiers t.type length

-- the type of a function with these parameters and this result
abbrev pub function_of : List CType → Qualified → CType
function_of [] result = returning result.qualifiers result.type
function_of (p ∷ ps) result = taking p (function_of ps result)

-- the parameters of a function's type, in order
abbrev pub parameters_of : CType → List CType
parameters_of void = []
parameters_of (integer ty) = []
parameters_of (pointer q t) = []
parameters_of (array q t n) = []
parameters_of (returning q t) = []
parameters_of (taking p t) = p ∷ parameters_of t

-- the type of what a function's call gives; a value has no qualifiers (C11 6.5.2.2p5)
abbrev pub result_of : CType → CType
result_of void = void
result_of (integer ty) = void
result_of (pointer q t) = void
result_of (array q t n) = void
result_of (returning q t) = t
result_of (taking p t) = result_of t

-- ---- decay and adjustment

-- an array becomes a pointer to its first element, a function a pointer to it (C11 6.3.2.1p3, p4)
abbrev pub decayed : CType → CType
decayed void = void
decayed (integer ty) = integer ty
decayed (pointer q t) = pointer q t
decayed (array q t n) = pointer q t
decayed (returning q t) = pointer plain (returning q t)
decayed (taking p t) = pointer plain (taking p t)

-- a parameter's type: an array is a pointer to its element, a function a pointer to it (C11 6.7.6.3p7, p8)
abbrev pub adjusted : Qualified → Qualified
adjusted t = record { qualifiers = t.qualifiers; type = decayed t.type }

-- ---- declarations of one object

-- the types of two declarations of one object or function: one type, but that an array's length may be missing
-- in one of them (C11 6.7p4)
abbrev pub are_for_one : CType → CType → Test
are_for_one (array q a None) (array r b m) = same_qualifiers q r && same_type a b
are_for_one (array q a (Some n)) (array r b None) = same_qualifiers q r && same_type a b
are_for_one a b = same_type a b

abbrev pub may_be_one : Qualified → Qualified → Test
may_be_one a b = same_qualifiers a.qualifiers b.qualifiers && are_for_one a.type b.type

-- the type with the length that one of two declarations gives (C11 6.2.7p3)
abbrev pub composite : CType → CType → CType
composite (array q a None) b = b
composite a b = a

-- ---- sizes

-- how many cells a value of an integer type takes
abbrev pub cells_of_integer : Ty → ℕ
cells_of_integer Bool = 1
cells_of_integer Char = 1
cells_of_integer SChar = 1
cells_of_integer UChar = 1
cells_of_integer Short = 1
cells_of_integer UShort = 1
cells_of_integer Int = 1
cells_of_integer UInt = 1

-- what `sizeof` gives for an integer type
abbrev pub bytes_of_integer : Ty → ℕ
bytes_of_integer Bool = 1
bytes_of_integer Char = 1
bytes_of_integer SChar = 1
bytes_of_integer UChar = 1
bytes_of_integer Short = 2
bytes_of_integer UShort = 2
bytes_of_integer Int = 4
bytes_of_integer UInt = 4

-- how many cells an object of a complete type takes; 0 for a type that is not complete
abbrev pub cells_of : CType → ℕ
cells_of void = 0
cells_of (integer ty) = cells_of_integer ty
cells_of (pointer q t) = 1
cells_of (array q t None) = 0
cells_of (array q t (Some n)) = n * cells_of t
cells_of (returning q t) = 0
cells_of (taking p t) = 0

-- what `sizeof` gives for a complete type (C11 6.5.3.4p2); 0 for a type that is not complete
abbrev pub bytes_of : CType → ℕ
bytes_of void = 0
bytes_of (integer ty) = bytes_of_integer ty
bytes_of (pointer q t) = 4
bytes_of (array q t None) = 0
bytes_of (array q t (Some n)) = n * bytes_of t
bytes_of (returning q t) = 0
bytes_of (taking p t) = 0
