-- What is asked of two types for the rule on declarations of one object.
use Rattle.std.specs.Prelude.{ℕ, Bool as Test, true, false, ◌&&◌, Option, Some, None}
use Rattle.c_types.specs.Types.{CType, void, integer, pointer, array, returning, taking, Qualified, same_qualifiers, same_type}

-- a type is an array's of an element, whatever its length
abbrev pub is_array_of : CType → Qualified → Test
is_array_of void e = false
is_array_of (integer ty) e = false
is_array_of (pointer q t) e = false
is_array_of (array q t n) e = same_qualifiers e.qualifiers q && same_type e.type t
is_array_of (returning q t) e = false
is_array_of (taking p t) e = false

-- an array without a length
abbrev pub lacks_length : CType → Test
lacks_length void = false
lacks_length (integer ty) = false
lacks_length (pointer q t) = false
lacks_length (array q t None) = true
lacks_length (array q t (Some n)) = false
lacks_length (returning q t) = false
lacks_length (taking p t) = false
